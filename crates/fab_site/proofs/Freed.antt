-- The blocks that are not fixed: their list grows at the end, loses a block that is fixed, and is found by rank.
use Rattle.std.proofs.Common.{◌≡◌, ◌≢◌, ℕ, zero, suc, ◌+◌, ◌-◌, ◌<◌, ◌≤◌, Bool, true, false, not, cond, eqb, ◌&&◌, List, [], ◌∷◌, ◌++◌, length, get_or, Option, Some, None, is_some, slice_get, slice_index, slice_set, remove, refl, sym, ap, ◌∙◌, subst, arith, ◌⊎◌, inl, inr, Result, Ok, Err, nat_cmp}
use Rattle.std.specs.List.Sorted.{IsBinarySearchResult}
use Rattle.std.proofs.lemmas.List.Sorted.{searched}
use Rattle.std.specs.List.{filter, range_with_len}
use Rattle.std.proofs.lemmas.Bool.{eq-eqb, ne_eqb, cases_eq}
use Rattle.std.proofs.lemmas.List.Elements.{filter-append}
use Rattle.std.proofs.lemmas.List.FromFn.{length-range_with_len}
use Rattle.fab_arch.specs.declared.array.Site.{Site}
use Rattle.fab_site.specs.Placement.{fixed_at}
use Rattle.fab_site.specs.Free.{is_free, free_below}

pub range_split : (a m n : ℕ) → range_with_len a (m + n) ≡ range_with_len a m ++ range_with_len (a + m) n
range_split a zero n =
    let e : a ≡ a + 0 = omega arith in
    let f : 0 + n ≡ n = omega arith in
    (λ i. range_with_len (e i) (f i))
range_split a (suc m) n =
    let f : suc m + n ≡ suc (m + n) = omega arith in
    let e : a + 1 + m ≡ a + suc m = omega arith in
    ap (range_with_len a) f
    ∙ ap (λ r. a ∷ r) (range_split (a + 1) m n ∙ ap (λ k. range_with_len (a + 1) m ++ range_with_len k n) e)

range_parts : (m n : ℕ) → range_with_len 0 (m + n) ≡ range_with_len 0 m ++ range_with_len m n
range_parts m n =
    let e : 0 + m ≡ m = omega arith in
    range_split 0 m n ∙ ap (λ k. range_with_len 0 m ++ range_with_len k n) e

-- tests that agree on a range keep the same of it
pub filter_within : (p q : ℕ → Bool) (a n : ℕ) → ((x : ℕ) → a ≤ x → x < a + n → p x ≡ q x) → filter p (range_with_len a n) ≡ filter q (range_with_len a n)
filter_within p q a zero h = refl
filter_within p q a (suc n) h =
    let rest = filter_within p q (a + 1) n (λ x l g. h x (omega arith) (omega arith)) in
    (λ i. cond (h a (omega arith) (omega arith) i) (a ∷ rest i) (rest i))

pub filter_all : (p : ℕ → Bool) (a n : ℕ) → ((x : ℕ) → a ≤ x → x < a + n → p x ≡ true) → filter p (range_with_len a n) ≡ range_with_len a n
filter_all p a zero h = refl
filter_all p a (suc n) h =
    let rest = filter_all p (a + 1) n (λ x l g. h x (omega arith) (omega arith)) in
    (λ i. cond (h a (omega arith) (omega arith) i) (a ∷ rest i) (rest i))

pub filter_twice : (p q : ℕ → Bool) (xs : List ℕ) → filter q (filter p xs) ≡ filter (λ x. p x && q x) xs
filter_twice p q [] = refl
filter_twice p q (x ∷ xs) =
    let rest = filter_twice p q xs in
    elim (p x) as (λ b. filter q (cond b (x ∷ filter p xs) (filter p xs)) ≡ cond (b && q x) (x ∷ filter (λ y. p y && q y) xs) (filter (λ y. p y && q y) xs)) [
      | true ↦ (λ i. cond (q x) (x ∷ rest i) (rest i))
      | false ↦ rest
    ]

pub length_filter : (p : ℕ → Bool) (xs : List ℕ) → length (filter p xs) ≤ length xs
length_filter p [] = omega arith
length_filter p (x ∷ xs) =
    let rest = length_filter p xs in
    elim (p x) as (λ b. length (cond b (x ∷ filter p xs) (filter p xs)) ≤ suc (length xs)) [ true ↦ omega arith | false ↦ omega arith ]

pub fixed_past : (fixed : List (Option Site)) (b : ℕ) → length fixed ≤ b → fixed_at fixed b ≡ None
fixed_past [] b h = refl
fixed_past (x ∷ xs) zero h = absurd (omega arith)
fixed_past (x ∷ xs) (suc b) h = fixed_past xs b (omega arith)

pub none_added : (fixed : List (Option Site)) (b : ℕ) → fixed_at (fixed ++ None ∷ []) b ≡ fixed_at fixed b
none_added [] zero = refl
none_added [] (suc b) = refl
none_added (x ∷ xs) zero = refl
none_added (x ∷ xs) (suc b) = none_added xs b

set_here : (fixed : List (Option Site)) (b : ℕ) (o : Option Site) → b < length fixed → fixed_at (slice_set fixed b o) b ≡ o
set_here [] b o h = absurd (omega arith)
set_here (x ∷ xs) zero o h = refl
set_here (x ∷ xs) (suc b) o h = set_here xs b o (omega arith)

set_there : (fixed : List (Option Site)) (b c : ℕ) (o : Option Site) → c ≢ b → fixed_at (slice_set fixed b o) c ≡ fixed_at fixed c
set_there [] b c o ne = refl
set_there (x ∷ xs) zero zero o ne = absurd (ne refl)
set_there (x ∷ xs) zero (suc c) o ne = refl
set_there (x ∷ xs) (suc b) zero o ne = refl
set_there (x ∷ xs) (suc b) (suc c) o ne = set_there xs b c o (λ e. ne (ap suc e))

pub fixed_set : (fixed : List (Option Site)) (b c : ℕ) (s : Site) → b < length fixed → fixed_at (slice_set fixed b (Some s)) c ≡ cond (eqb c b) (Some s) (fixed_at fixed c)
fixed_set fixed b c s h =
    elim (cases_eq c b) [
      | inl e ↦
          ap (fixed_at (slice_set fixed b (Some s))) e
          ∙ set_here fixed b (Some s) h
          ∙ sym (ap (λ t. cond t (Some s) (fixed_at fixed c)) (eq-eqb c b e))
      | inr ne ↦
          set_there fixed b c (Some s) ne
          ∙ sym (ap (λ t. cond t (Some s) (fixed_at fixed c)) (ne_eqb c b ne))
    ]

-- one more block that is not fixed
pub free_more : (fixed : List (Option Site)) → free_below (fixed ++ None ∷ []) (length fixed + 1) ≡ free_below fixed (length fixed) ++ length fixed ∷ []
free_more fixed =
    let p = is_free (fixed ++ None ∷ []) in
    let n = length fixed in
    ap (filter p) (range_parts n 1)
    ∙ filter-append p (range_with_len 0 n) (range_with_len n 1)
    ∙ (λ i. filter_within p (is_free fixed) 0 n (λ x l g. ap (λ o. not (is_some o)) (none_added fixed x)) i
    ++ filter_all p n 1 (λ x l g. ap (λ o. not (is_some o)) (none_added fixed x ∙ fixed_past fixed x l)) i)

-- the blocks of a beginning come first
pub free_begins : (fixed : List (Option Site)) (n m : ℕ) → n ≤ m → free_below fixed m ≡ free_below fixed n ++ filter (is_free fixed) (range_with_len n (m - n))
free_begins fixed n m h =
    ap (λ k. free_below fixed k) (omega arith)
    ∙ ap (filter (is_free fixed)) (range_parts n (m - n))
    ∙ filter-append (is_free fixed) (range_with_len 0 n) (range_with_len n (m - n))

-- past the end all blocks are free
pub free_past : (fixed : List (Option Site)) (n : ℕ) → length fixed ≤ n → free_below fixed n ≡ free_below fixed (length fixed) ++ range_with_len (length fixed) (n - length fixed)
free_past fixed n h =
    free_begins fixed (length fixed) n h
    ∙ ap (λ r. free_below fixed (length fixed) ++ r) (filter_all (is_free fixed) (length fixed) (n - length fixed) (λ x l g. ap (λ o. not (is_some o)) (fixed_past fixed x l)))

abbrev pub AllBelow : List (Option Site) → ℕ → Type 0
AllBelow fixed n = (b : ℕ) (s : Site) → fixed_at fixed b ≡ Some s → b < n

is_none : (fixed : List (Option Site)) (n x : ℕ) → AllBelow fixed n → n ≤ x → (o : Option Site) → fixed_at fixed x ≡ o → o ≡ None
is_none fixed n x h l None e = refl
is_none fixed n x h l (Some s) e = let k = h x s e in absurd (omega arith)

free_past_all : (fixed : List (Option Site)) (n : ℕ) → AllBelow fixed n → n ≤ length fixed → free_below fixed (length fixed) ≡ free_below fixed n ++ range_with_len n (length fixed - n)
free_past_all fixed n h l =
    free_begins fixed n (length fixed) l
    ∙ ap (λ r. free_below fixed n ++ r) (filter_all (is_free fixed) n (length fixed - n) (λ x ge lt. ap (λ o. not (is_some o)) (is_none fixed n x h ge (fixed_at fixed x) refl)))

length_two : (xs ys : List ℕ) → length (xs ++ ys) ≡ length xs + length ys
length_two [] ys = omega arith
length_two (x ∷ xs) ys = let r = length_two xs ys in omega (arith, r)

cases_le : (a b : ℕ) → (a ≤ b) ⊎ (b ≤ a)
cases_le zero b = inl (omega arith)
cases_le (suc a) zero = inr (omega arith)
cases_le (suc a) (suc b) = elim (cases_le a b) [ inl l ↦ inl (omega arith) | inr g ↦ inr (omega arith) ]

pub free_count : (fixed : List (Option Site)) (n : ℕ) → AllBelow fixed n → length (free_below fixed n) + length fixed ≡ n + length (free_below fixed (length fixed))
free_count fixed n h =
    elim (cases_le (length fixed) n) [
      | inl le ↦
          let e = ap length (free_past fixed n le) ∙ length_two (free_below fixed (length fixed)) (range_with_len (length fixed) (n - length fixed)) in
          let r = length-range_with_len (length fixed) (n - length fixed) in
          omega (arith, e, r)
      | inr gt ↦
          let e = ap length (free_past_all fixed n h gt) ∙ length_two (free_below fixed n) (range_with_len n (length fixed - n)) in
          let r = length-range_with_len n (length fixed - n) in
          omega (arith, e, r)
    ]

pub free_few : (fixed : List (Option Site)) (n : ℕ) → length (free_below fixed n) ≤ n
free_few fixed n = let k = length_filter (is_free fixed) (range_with_len 0 n) in omega (arith, k, length-range_with_len 0 n)

get_left : (xs ys : List ℕ) (i : ℕ) → i < length xs → slice_get (xs ++ ys) i ≡ slice_get xs i
get_left [] ys i h = absurd (omega arith)
get_left (x ∷ xs) ys zero h = refl
get_left (x ∷ xs) ys (suc i) h = get_left xs ys i (omega arith)

get_right : (xs ys : List ℕ) (i : ℕ) → length xs ≤ i → slice_get (xs ++ ys) i ≡ slice_get ys (i - length xs)
get_right [] ys i h = ap (slice_get ys) (omega arith)
get_right (x ∷ xs) ys zero h = absurd (omega arith)
get_right (x ∷ xs) ys (suc i) h = get_right xs ys i (omega arith) ∙ ap (slice_get ys) (omega arith)

get_range : (a n i : ℕ) → i < n → slice_get (range_with_len a n) i ≡ Some (a + i)
get_range a zero i h = absurd (omega arith)
get_range a (suc n) zero h = ap (λ k. Some k) (omega arith)
get_range a (suc n) (suc i) h = get_range (a + 1) n i (omega arith) ∙ ap (λ k. Some k) (omega arith)

-- a rank within the list that is kept
pub rank_within : (fixed : List (Option Site)) (n r : ℕ) → r < length (free_below fixed n) → r < length (free_below fixed (length fixed)) → slice_get (free_below fixed n) r ≡ slice_get (free_below fixed (length fixed)) r
rank_within fixed n r h k =
    elim (cases_le (length fixed) n) [
      | inl le ↦ ap (λ xs. slice_get xs r) (free_past fixed n le) ∙ get_left (free_below fixed (length fixed)) (range_with_len (length fixed) (n - length fixed)) r k
      | inr gt ↦ sym (ap (λ xs. slice_get xs r) (free_begins fixed n (length fixed) gt) ∙ get_left (free_below fixed n) (filter (is_free fixed) (range_with_len n (length fixed - n))) r h)
    ]

-- a rank beyond it
pub rank_long : (fixed : List (Option Site)) (n r : ℕ) → r < length (free_below fixed n) → length (free_below fixed (length fixed)) ≤ r → length fixed + (r - length (free_below fixed (length fixed))) < n
rank_long fixed n r h k =
    elim (cases_le (length fixed) n) [
      | inl le ↦
          let e = ap length (free_past fixed n le) ∙ length_two (free_below fixed (length fixed)) (range_with_len (length fixed) (n - length fixed)) in
          let l = length-range_with_len (length fixed) (n - length fixed) in
          omega (arith, e, l)
      | inr gt ↦
          let e = ap length (free_begins fixed n (length fixed) gt) ∙ length_two (free_below fixed n) (filter (is_free fixed) (range_with_len n (length fixed - n))) in
          omega (arith, e)
    ]

pub rank_beyond : (fixed : List (Option Site)) (n r : ℕ) → r < length (free_below fixed n) → length (free_below fixed (length fixed)) ≤ r → slice_get (free_below fixed n) r ≡ Some (length fixed + (r - length (free_below fixed (length fixed))))
rank_beyond fixed n r h k =
    let long = rank_long fixed n r h k in
    ap (λ xs. slice_get xs r) (free_past fixed n (omega arith))
    ∙ get_right (free_below fixed (length fixed)) (range_with_len (length fixed) (n - length fixed)) r k
    ∙ get_range (length fixed) (n - length fixed) (r - length (free_below fixed (length fixed))) (omega arith)

get_some : (xs : List ℕ) (i d : ℕ) → i < length xs → slice_get xs i ≡ Some (get_or xs i d)
get_some [] i d h = absurd (omega arith)
get_some (x ∷ xs) zero d h = refl
get_some (x ∷ xs) (suc i) d h = get_some xs i d (omega arith)

pub rank_kept : (fixed : List (Option Site)) (free : List ℕ) (n r d : ℕ) → free ≡ free_below fixed (length fixed) → r < length (free_below fixed n) → r < length free → slice_get (free_below fixed n) r ≡ Some (get_or free r d)
rank_kept fixed free n r d e h k =
    rank_within fixed n r h (subst (λ xs. r < length xs) e k)
    ∙ get_some (free_below fixed (length fixed)) r d (subst (λ xs. r < length xs) e k)
    ∙ ap (λ xs. Some (get_or xs r d)) (sym e)

pub rank_fits : (fixed : List (Option Site)) (free : List ℕ) (n r : ℕ) → free ≡ free_below fixed (length fixed) → r < length (free_below fixed n) → length free ≤ r → length fixed + (r - length free) < n
rank_fits fixed free n r e h k = subst (λ xs. length xs ≤ r → length fixed + (r - length xs) < n) (sym e) (rank_long fixed n r h) k

pub rank_after : (fixed : List (Option Site)) (free : List ℕ) (n r : ℕ) → free ≡ free_below fixed (length fixed) → r < length (free_below fixed n) → length free ≤ r → slice_get (free_below fixed n) r ≡ Some (length fixed + (r - length free))
rank_after fixed free n r e h k = subst (λ xs. length xs ≤ r → slice_get (free_below fixed n) r ≡ Some (length fixed + (r - length xs))) (sym e) (rank_beyond fixed n r h) k

abbrev pub Rises : List ℕ → Type 0
Rises xs = (i j : ℕ) → i < j → j < length xs → slice_index xs i < slice_index xs j

rises_after : (x : ℕ) (xs : List ℕ) → Rises (x ∷ xs) → Rises xs
rises_after x xs h i j l k = h (suc i) (suc j) (omega arith) (omega arith)

kept_at : (x v : ℕ) → x ≢ v → not (eqb x v) ≡ true
kept_at x v ne = ap not (ne_eqb x v ne)

pub absent_filter : (xs : List ℕ) (v : ℕ) → ((k : ℕ) → k < length xs → get_or xs k 0 ≢ v) → filter (λ n. not (eqb n v)) xs ≡ xs
absent_filter [] v h = refl
absent_filter (x ∷ xs) v h =
    let rest = absent_filter xs v (λ k l. h (suc k) (omega arith)) in
    (λ i. cond (kept_at x v (h 0 (omega arith)) i) (x ∷ rest i) (rest i))

pub remove_filter : (xs : List ℕ) (i v : ℕ) → Rises xs → i < length xs → get_or xs i 0 ≡ v → remove xs i ≡ filter (λ n. not (eqb n v)) xs
remove_filter [] i v r h e = absurd (omega arith)
remove_filter (x ∷ xs) zero v r h e =
    let later = absent_filter xs v (λ k l q. let g = r 0 (suc k) (omega arith) (omega arith) in absurd (omega (arith, g, q, e))) in
    sym ((λ i. cond (not (eq-eqb x v e i)) (x ∷ later i) (later i)))
remove_filter (x ∷ xs) (suc i) v r h e =
    let g = r 0 (suc i) (omega arith) h in
    let rest = remove_filter xs i v (rises_after x xs r) (omega arith) e in
    let apart : x ≢ v = λ q. absurd (omega (arith, g, q, e)) in
    ap (λ ys. x ∷ ys) rest ∙ sym ((λ j. cond (kept_at x v apart j) (x ∷ filter (λ n. not (eqb n v)) xs) (filter (λ n. not (eqb n v)) xs)))

le_of_rises : (xs : List ℕ) → Rises xs → (i j : ℕ) → i ≤ j → j < length xs → get_or xs i 0 ≤ get_or xs j 0
le_of_rises xs r i j l k =
    elim (cases_eq i j) [
      | inl e ↦ let q = ap (λ n. get_or xs n 0) e in omega (arith, q)
      | inr ne ↦ let g = r i j (omega arith) k in omega (arith, g)
    ]

-- what a search in a list that rises found is taken out
pub take_found : (xs : List ℕ) (v i : ℕ) (r : Result ℕ ℕ) → IsBinarySearchResult (λ y. nat_cmp y v) xs r → r ≡ Ok i → Rises xs → remove xs i ≡ filter (λ n. not (eqb n v)) xs
take_found xs v i r b e rises =
    let s = searched xs v (Ok i) (subst (λ q. IsBinarySearchResult (λ y. nat_cmp y v) xs q) e b) (le_of_rises xs rises) in
    remove_filter xs i v rises s.0 s.1

-- where it found nothing, there is nothing to take out
pub take_none : (xs : List ℕ) (v i : ℕ) (r : Result ℕ ℕ) → IsBinarySearchResult (λ y. nat_cmp y v) xs r → r ≡ Err i → Rises xs → filter (λ n. not (eqb n v)) xs ≡ xs
take_none xs v i r b e rises =
    let s = searched xs v (Err i) (subst (λ q. IsBinarySearchResult (λ y. nat_cmp y v) xs q) e b) (le_of_rises xs rises) in
    absent_filter xs v (λ k l q.
    elim (cases_le i k) [
      | inl ge ↦ let g = s.2 k ge l in absurd (omega (arith, g, q))
      | inr le ↦
          elim (cases_eq k i) [
            | inl same ↦ let g = s.2 k (omega arith) l in absurd (omega (arith, g, q))
            | inr ne ↦ let g = s.1 k (omega arith) in absurd (omega (arith, g, q))
          ]
    ])

abbrev Above : ℕ → List ℕ → Type 0
Above a [] = Unit {0}
Above a (x ∷ xs) = (a ≤ x) × Above (x + 1) xs

above_weaker : (a b : ℕ) (xs : List ℕ) → a ≤ b → Above b xs → Above a xs
above_weaker a b [] h r = tt
above_weaker a b (x ∷ xs) h r = (let k = r.0 in omega arith, r.1)

above_range : (a n : ℕ) → Above a (range_with_len a n)
above_range a zero = tt
above_range a (suc n) = (omega arith, above_range (a + 1) n)

above_filter : (p : ℕ → Bool) (a : ℕ) (xs : List ℕ) → Above a xs → Above a (filter p xs)
above_filter p a [] r = tt
above_filter p a (x ∷ xs) r =
    let rest = above_filter p (x + 1) xs r.1 in
    let k = r.0 in
    let weak : Above a (filter p xs) = above_weaker a (x + 1) (filter p xs) (omega arith) rest in
    elim (p x) as (λ b. Above a (cond b (x ∷ filter p xs) (filter p xs))) [ true ↦ (r.0, rest) | false ↦ weak ]

above_ge : (a : ℕ) (xs : List ℕ) (i : ℕ) → Above a xs → i < length xs → a ≤ get_or xs i 0
above_ge a [] i r h = absurd (omega arith)
above_ge a (x ∷ xs) zero r h = r.0
above_ge a (x ∷ xs) (suc i) r h =
    let k = r.0 in
    let g = above_ge (x + 1) xs i r.1 (omega arith) in
    omega arith

above_rises : (a : ℕ) (xs : List ℕ) → Above a xs → Rises xs
above_rises a [] r i j l k = absurd (omega arith)
above_rises a (x ∷ xs) r i zero l k = absurd (omega arith)
above_rises a (x ∷ xs) r zero (suc j) l k = let g = above_ge (x + 1) xs j r.1 (omega arith) in omega arith
above_rises a (x ∷ xs) r (suc i) (suc j) l k = above_rises (x + 1) xs r.1 i j (omega arith) (omega arith)

pub free_rises : (fixed : List (Option Site)) (n : ℕ) → Rises (free_below fixed n)
free_rises fixed n = above_rises 0 (free_below fixed n) (above_filter (is_free fixed) 0 (range_with_len 0 n) (above_range 0 n))

-- a block that is fixed leaves the list
pub free_without : (fixed : List (Option Site)) (b n : ℕ) (s : Site) → b < length fixed → filter (λ n. not (eqb n b)) (free_below fixed n) ≡ free_below (slice_set fixed b (Some s)) n
free_without fixed b n s h =
    filter_twice (is_free fixed) (λ x. not (eqb x b)) (range_with_len 0 n)
    ∙ filter_within (λ x. is_free fixed x && not (eqb x b)) (is_free (slice_set fixed b (Some s))) 0 n (λ x l g. sym (ap (λ o. not (is_some o)) (fixed_set fixed b x s h) ∙ tested (eqb x b) (fixed_at fixed x)))
  where
    tested : (c : Bool) (o : Option Site) → not (is_some (cond c (Some s) o)) ≡ (not (is_some o) && not c)
    tested true None = refl
    tested true (Some t) = refl
    tested false None = refl
    tested false (Some t) = refl
