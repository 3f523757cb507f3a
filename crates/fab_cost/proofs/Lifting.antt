-- Numbers by block that are raised near a block.
use Rattle.std.proofs.Common.{◌≡◌, ℕ, cond, max, zero, suc, ◌+◌, ◌<◌, ◌≤◌, Bool, true, false, not, ◌&&◌, ◌||◌, ◌==◌, List, [], ◌∷◌, ◌++◌, length, get_or, take, refl, sym, ap, subst, ◌∙◌, inl, inr, arith}
use Rattle.std.specs.Prelude.{nat_lt, nat_le, slice_index}
use Rattle.std.specs.List.{filter, list_any}
use Rattle.std.proofs.lemmas.Bool.Decides.{nat_tests}
use Rattle.std.proofs.lemmas.Bool.{cases_Bool, eq-eqb, eqb-true, false≢true, le-leb, leb-false, leb-true, lt-ltb, ltb-false, or_cases, or_left, or_right}
use Rattle.std.proofs.lemmas.List.{append-nil, append_assoc, take_more}
use Rattle.std.proofs.lemmas.List.Folds.{list_any-append}
use Rattle.fab_net.specs.Netlist.{Netlist, has_number, nets_of}
use Rattle.fab_cost.specs.declared.records.Record.{Record}
use Rattle.fab_cost.specs.declared.runs.Runs.{Runs}
use Rattle.fab_cost.specs.Near.{AreLifted, are_neighbours, blocks_in}
use Rattle.fab_cost.specs.Runs.{AreRecords, HasRecords, HasRows, is_large, is_sized, nets_between}
use Rattle.fab_cost.specs.Swapping.{blocks_of}
use Rattle.fab_cost.proofs.Nets.{in_nets}
use Rattle.fab_cost.proofs.Numbers.{has_filter}

-- raised for no block
pub lifted_none : (old : List ℕ) (x : ℕ) → AreLifted (λ k. false) x old old
lifted_none old x = record { long = refl; each = λ k low. refl }

-- twice, where one of two tests is passed
twice : (p q : Bool) (o x : ℕ) → cond q (max (cond p (max o x) o) x) (cond p (max o x) o) ≡ cond (p || q) (max o x) o
twice true true o x = omega arith
twice true false o x = refl
twice false true o x = refl
twice false false o x = refl

-- raised for some blocks, and then for others
pub lifted_both : (p q r : ℕ → Bool) (x : ℕ) (old mid new : List ℕ) → ((k : ℕ) → k < length old → r k ≡ (p k || q k)) → AreLifted p x old mid → AreLifted q x mid new → AreLifted r x old new
lifted_both p q r x old mid new is a b = record {
  long = b.long ∙ a.long;
  each = λ k low.
      let long = a.long in
      b.each k (omega (arith, low, long))
      ∙ ap (λ v. cond (q k) (max v x) v) (a.each k low)
      ∙ twice (p k) (q k) (slice_index old k) x
      ∙ ap (λ v. cond v (max (slice_index old k) x) (slice_index old k)) (sym (is k low));
}

-- raised at least to x, and never lower
pub lifted_up : (p : ℕ → Bool) (x : ℕ) (old new : List ℕ) → AreLifted p x old new → (k : ℕ) → k < length old → p k ≡ true → x ≤ slice_index new k
lifted_up p x old new is k low on = rw (is.each k low, on) (omega arith)

pub lifted_kept : (p : ℕ → Bool) (x : ℕ) (old new : List ℕ) → AreLifted p x old new → (k : ℕ) → k < length old → slice_index old k ≤ slice_index new k
lifted_kept p x old new is k low =
    elim (cases_Bool (p k)) [
      | inl on ↦ rw (is.each k low, on) (omega arith)
      | inr off ↦ rw (is.each k low, off) (omega arith)
    ]

-- one block of a list more
pub lifted_more : (old mid new : List ℕ) (x i : ℕ) (ks : List ℕ) → i < length ks → AreLifted (λ k. has_number k (take i ks)) x old mid → AreLifted (λ k. k == get_or ks i 0) x mid new → AreLifted (λ k. has_number k (take (i + 1) ks)) x old new
lifted_more old mid new x i ks low before now =
    lifted_both (λ k. has_number k (take i ks)) (λ k. k == get_or ks i 0) (λ k. has_number k (take (i + 1) ks)) x old mid new
    (λ k at. rw (take_more ks i 0 low) (list_any-append (λ y. k == y) (take i ks) (get_or ks i 0 ∷ []) ∙ ap (λ v. has_number k (take i ks) || v) (or_false (k == get_or ks i 0)))) before now
  where
    or_false : (b : Bool) → (b || false) ≡ b
    or_false true = refl
    or_false false = refl

-- the blocks of one record more
in_append : {W : ℕ} (rs ss : List (Record W)) → blocks_in (rs ++ ss) ≡ blocks_in rs ++ blocks_in ss
in_append [] ss = refl
in_append (r ∷ rs) ss = ap (λ l. r.others ++ l) (in_append rs ss) ∙ sym (append_assoc r.others (blocks_in rs) (blocks_in ss))

pub lifted_record : {W : ℕ} (old mid new : List ℕ) (x i : ℕ) (rs : List (Record W)) (z : Record W) → i < length rs → z ≡ get_or rs i z
    → AreLifted (λ k. has_number k (blocks_in (take i rs))) x old mid → AreLifted (λ k. has_number k z.others) x mid new → AreLifted (λ k. has_number k (blocks_in (take (i + 1) rs))) x old new
lifted_record {W = W} old mid new x i rs z low is before now =
    lifted_both (λ k. has_number k (blocks_in (take i rs))) (λ k. has_number k z.others) (λ k. has_number k (blocks_in (take (i + 1) rs))) x old mid new
    (λ k at. rw (take_more rs i z low, in_append (take i rs) (get_or rs i z ∷ []), append-nil (get_or rs i z).others) (list_any-append (λ y. k == y) (blocks_in (take i rs)) (get_or rs i z).others ∙ ap (λ (r : Record W). has_number k (blocks_in (take i rs)) || has_number k r.others) (sym is)))
    before now

-- a test that some of the numbers pass, as one of a number
any_records : {W : ℕ} (d : Netlist) (b k : ℕ) (ns : List ℕ) (rs : List (Record W)) → length rs ≡ length ns
    → ((i : ℕ) (z : Record W) → i < length ns → has_number k (get_or rs i z).others ≡ (has_number k (blocks_of d (get_or ns i 0)) && not (k == b)))
    → has_number k (blocks_in rs) ≡ list_any (λ n. has_number k (blocks_of d n) && not (k == b)) ns
any_records d b k [] [] long each = refl
any_records d b k [] (r ∷ rs) long each = absurd (omega (arith, long))
any_records d b k (n ∷ ns) [] long each = absurd (omega (arith, long))
any_records d b k (n ∷ ns) (r ∷ rs) long each =
    list_any-append (λ y. k == y) r.others (blocks_in rs)
    ∙ (λ i. each 0 r (omega arith) i || any_records d b k ns rs (omega (arith, long)) (λ j z low. each (suc j) z (omega (arith, low))) i)

any_filter : (f p : ℕ → Bool) (xs : List ℕ) → list_any f (filter p xs) ≡ list_any (λ n. p n && f n) xs
any_filter f p [] = refl
any_filter f p (x ∷ xs) =
    elim (cases_Bool (p x)) [
      | inl on ↦ rw on (ap (λ v. f x || v) (any_filter f p xs))
      | inr off ↦ rw off (any_filter f p xs)
    ]

any_or : (f g : ℕ → Bool) (xs : List ℕ) → (list_any f xs || list_any g xs) ≡ list_any (λ n. f n || g n) xs
any_or f g [] = refl
any_or f g (x ∷ xs) = swap_or (f x) (g x) (list_any f xs) (list_any g xs) ∙ ap (λ v. (f x || g x) || v) (any_or f g xs)
  where
    swap_or : (p q r s : Bool) → ((p || r) || (q || s)) ≡ ((p || q) || (r || s))
    swap_or true q r s = refl
    swap_or false true true s = refl
    swap_or false true false s = refl
    swap_or false false true s = refl
    swap_or false false false s = refl

any_same : (f g : ℕ → Bool) (xs : List ℕ) → ((n : ℕ) → has_number n xs ≡ true → f n ≡ g n) → list_any f xs ≡ list_any g xs
any_same f g [] same = refl
any_same f g (x ∷ xs) same = (λ i. same x (or_left (x == x) (has_number x xs) (eq-eqb x x refl)) i || any_same f g xs (λ n on. same n (or_right (n == x) (has_number n xs) on)) i)

any_and : (p : Bool) (f : ℕ → Bool) (xs : List ℕ) → list_any (λ n. p && f n) xs ≡ (p && list_any f xs)
any_and true f xs = refl
any_and false f [] = refl
any_and false f (x ∷ xs) = any_and false f xs

-- a block on one of the records
on_record : {W : ℕ} (rs : List (Record W)) (i k : ℕ) (z : Record W) → i < length rs → has_number k (get_or rs i z).others ≡ true → has_number k (blocks_in rs) ≡ true
on_record [] i k z low on = absurd (let l = low in omega (arith, l))
on_record (r ∷ rs) zero k z low on = list_any-append (λ y. k == y) r.others (blocks_in rs) ∙ or_left (has_number k r.others) (has_number k (blocks_in rs)) on
on_record (r ∷ rs) (suc i) k z low on = list_any-append (λ y. k == y) r.others (blocks_in rs) ∙ or_right (has_number k r.others) (has_number k (blocks_in rs)) (on_record rs i k z (omega (arith, low)) on)

-- where a number stands in a list
place_in : (n : ℕ) (ns : List ℕ) → has_number n ns ≡ true → (i : ℕ) × (i < length ns) × (n ≡ get_or ns i 0)
place_in n [] on = absurd (false≢true on)
place_in n (m ∷ ns) on = elim (or_cases (n == m) (has_number n ns) on) [
  | inl e ↦ (0, omega arith, eqb-true n m e)
  | inr e ↦ (let at = place_in n ns e in let low = at.1 in (suc at.0, omega (arith, low), at.2))
]

-- two blocks on a net are two terminals
two_on : (k b : ℕ) (xs : List ℕ) → has_number k xs ≡ true → has_number b xs ≡ true → (k == b) ≡ false → 1 < length xs
two_on k b [] on other apart = absurd (false≢true on)
two_on k b (x ∷ []) on other apart =
    elim (or_cases (k == x) false on) [
      | inl e ↦ elim (or_cases (b == x) false other) [
        | inl f ↦ absurd (false≢true (sym apart ∙ ap (λ v. k == v) (eqb-true b x f) ∙ e))
        | inr f ↦ absurd (false≢true f)
      ]
      | inr e ↦ absurd (false≢true e)
    ]
two_on k b (x ∷ (y ∷ xs)) on other apart = omega arith

-- what the records of one size say of a block
sized : {W : ℕ} (d : Netlist) (above most b k : ℕ) (rs : List (Record W)) → AreRecords d b (nets_between d above most b) rs → k < length d.kinds
    → has_number k (blocks_in rs) ≡ list_any (λ n. is_sized d above most n && (has_number k (blocks_of d n) && not (k == b))) (nets_of d b)
sized d above most b k rs has low =
    any_records d b k (nets_between d above most b) rs has.long (λ i z at. (has.each i z at).each k low)
    ∙ any_filter (λ n. has_number k (blocks_of d n) && not (k == b)) (is_sized d above most) (nets_of d b)

-- the three sizes together are all up to 16 terminals
all_sizes : (m : ℕ) (on : Bool) → (on ≡ true → 1 < m) → (((nat_lt 1 m && nat_le m 4) && on) || ((nat_lt 4 m && nat_le m 8) && on)) || ((nat_lt 8 m && nat_le m 16) && on) ≡ (not (nat_lt 16 m) && on)
all_sizes m true some = (let s = some refl in grind (arith, nat_tests, s))
all_sizes m false some = grind (arith, nat_tests)

-- raised by the records of all three sizes, the numbers of a block's neighbours are raised
pub lifted_near : (r : Runs) (d : Netlist) (b : ℕ) (old one two new : List ℕ) (x : ℕ) (small : List (Record 3)) (middle : List (Record 7)) (wide : List (Record 15))
    → HasRecords r d → b < length d.kinds → length old ≤ length d.kinds → small ≡ get_or r.rows.small b [] → middle ≡ get_or r.rows.middle b [] → wide ≡ get_or r.rows.wide b []
    → AreLifted (λ k. has_number k (blocks_in small)) x old one → AreLifted (λ k. has_number k (blocks_in middle)) x one two → AreLifted (λ k. has_number k (blocks_in wide)) x two new
    → AreLifted (are_neighbours d b) x old new
lifted_near r d b old one two new x small middle wide has low few s m w by_small by_middle by_wide =
    lifted_both (λ k. has_number k (blocks_in small) || has_number k (blocks_in middle)) (λ k. has_number k (blocks_in wide)) (are_neighbours d b) x old two new
    (λ k at. sym (among k (omega (arith, at, few))))
    (lifted_both (λ k. has_number k (blocks_in small)) (λ k. has_number k (blocks_in middle)) (λ k. has_number k (blocks_in small) || has_number k (blocks_in middle)) x old one two (λ k at. refl) by_small by_middle)
    by_wide
  where
    shares : ℕ → ℕ → Bool
    shares k n = has_number k (blocks_of d n) && not (k == b)

    of_size : ℕ → ℕ → ℕ → ℕ → Bool
    of_size above most k n = is_sized d above most n && shares k n

    split : (p q : Bool) → (p && q) ≡ true → (p ≡ true) × (q ≡ true)
    split true q e = (refl, e)
    split false q e = absurd (false≢true e)

    not_true : (q : Bool) → not q ≡ true → q ≡ false
    not_true true e = absurd (false≢true e)
    not_true false e = refl

    some_on : (k n : ℕ) → has_number n (nets_of d b) ≡ true → shares k n ≡ true → 1 < length (blocks_of d n)
    some_on k n among on =
        let nets = in_nets d b n among in
        let h = split (has_number k (blocks_of d n)) (not (k == b)) on in
        two_on k b (blocks_of d n) h.0 nets.1 (not_true (k == b) h.1)

    turned : (p q e : Bool) → (p && (q && e)) ≡ (e && (p && q))
    turned true true true = refl
    turned true true false = refl
    turned true false true = refl
    turned true false false = refl
    turned false q true = refl
    turned false q false = refl

    among : (k : ℕ) → k < length d.kinds → ((has_number k (blocks_in small) || has_number k (blocks_in middle)) || has_number k (blocks_in wide)) ≡ are_neighbours d b k
    among k at =
        let of_small = ap (λ (l : List (Record 3)). has_number k (blocks_in l)) s ∙ sized d 1 4 b k (get_or r.rows.small b []) (has.small.each b low) at in
        let of_middle = ap (λ (l : List (Record 7)). has_number k (blocks_in l)) m ∙ sized d 4 8 b k (get_or r.rows.middle b []) (has.middle.each b low) at in
        let of_wide = ap (λ (l : List (Record 15)). has_number k (blocks_in l)) w ∙ sized d 8 16 b k (get_or r.rows.wide b []) (has.wide.each b low) at in
        (λ i. (of_small i || of_middle i) || of_wide i)
        ∙ ap (λ v. v || list_any (of_size 8 16 k) (nets_of d b)) (any_or (of_size 1 4 k) (of_size 4 8 k) (nets_of d b))
        ∙ any_or (λ n. of_size 1 4 k n || of_size 4 8 k n) (of_size 8 16 k) (nets_of d b)
        ∙ any_same (λ n. (of_size 1 4 k n || of_size 4 8 k n) || of_size 8 16 k n) (λ n. not (is_large d n) && shares k n) (nets_of d b) (λ n on. all_sizes (length (blocks_of d n)) (shares k n) (some_on k n on))
        ∙ any_same (λ n. not (is_large d n) && shares k n) (λ n. not (k == b) && (not (is_large d n) && has_number k (blocks_of d n))) (nets_of d b) (λ n on. turned (not (is_large d n)) (has_number k (blocks_of d n)) (not (k == b)))
        ∙ any_and (not (k == b)) (λ n. not (is_large d n) && has_number k (blocks_of d n)) (nets_of d b)

any_of : (f : ℕ → Bool) (n : ℕ) (xs : List ℕ) → has_number n xs ≡ true → f n ≡ true → list_any f xs ≡ true
any_of f n [] among on = absurd (false≢true among)
any_of f n (x ∷ xs) among on =
    elim (or_cases (n == x) (has_number n xs) among) [
      | inl e ↦ or_left (f x) (list_any f xs) (subst (λ v. f v ≡ true) (eqb-true n x e) on)
      | inr e ↦ or_right (f x) (list_any f xs) (any_of f n xs e on)
    ]

-- another block on a net of a block, of up to 16 terminals, is a neighbour
pub neighbour : (d : Netlist) (b k n : ℕ) → (k == b) ≡ false → has_number n (nets_of d b) ≡ true → is_large d n ≡ false → has_number k (blocks_of d n) ≡ true → are_neighbours d b k ≡ true
neighbour d b k n apart among small on =
    let there = any_of (λ m. not (is_large d m) && has_number k (blocks_of d m)) n (nets_of d b) among (λ i. not (small i) && on i) in
    (λ i. not (apart i) && there i)
