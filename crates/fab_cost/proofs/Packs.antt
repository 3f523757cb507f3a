-- Records while they are made.
use Rattle.std.proofs.Common.{◌≡◌, ◌≢◌, ℕ, zero, suc, ◌+◌, ◌-◌, ◌<◌, ◌≤◌, ◌^◌, cond, eqb, ltb, leb, not, ◌&&◌, ◌||◌, Bool, true, false, List, [], ◌∷◌, ◌++◌, map, take, length, get_or, set, refl, sym, ap, ◌∙◌, subst, arith, inl, inr, get_or-set_other, get_or-set_same, length-set, length-append}
use Rattle.std.specs.List.{filter, All, range_with_len}
use Rattle.std.proofs.lemmas.Bool.{cases_eq, cases_lt, cases_Bool, false≢true, ne_eqb, eq-eqb, ltb-true, leb-true, and_parts}
use Rattle.std.proofs.lemmas.Bool.Decides.{nat_tests}
use Rattle.std.proofs.lemmas.List.{map-append, map_more, get_or-map, length-map, take_all, get_or_append_left, get_or_push}
use Rattle.std.proofs.lemmas.Simd.{length-replicate, get_or-replicate}
use Rattle.std.specs.Prelude.{replicate}
use Rattle.std.proofs.lemmas.List.Elements.{filter_more}
use Rattle.std.proofs.lemmas.List.FromFn.{length-range_with_len, get_or-range_with_len}
use Rattle.fab_net.specs.declared.netlist_types.Terminal.{Terminal}
use Rattle.fab_net.specs.Rows.{row_of, rows_of}
use Rattle.fab_net.specs.Netlist.{Netlist, block_on, nets_of, has_number, IsLawful}
use Rattle.fab_net.proofs.Stamps.{row_push}
use Rattle.fab_cost.specs.Boxes.{Counts}
use Rattle.fab_cost.specs.Cost.{cross_of}
use Rattle.fab_cost.specs.Swapping.{blocks_of}
use Rattle.fab_cost.specs.declared.records.Record.{Record}
use Rattle.fab_cost.specs.Runs.{AreLarger, ArePacked, nets_to, is_sized, is_large, IsRecord, AreRecords, AreLarge, HasRows, HasLarge}
use Rattle.fab_cost.proofs.Bounds.{cross_le}
use Rattle.fab_cost.proofs.PinCounts.{has_push, same_way}

-- whether a number is among the first terminals
seen_more : (v : ℕ) (ts : List Terminal) (d : Terminal) (i m : ℕ) (on : Bool) → i < length ts → m ≡ block_on (get_or ts i d) → on ≡ has_number v (map block_on (take i ts)) → (on || eqb m v) ≡ has_number v (map block_on (take (i + 1) ts))
seen_more v ts d i m on h em e =
    let bs : List ℕ = map block_on (take i ts) in
    (λ j. e j || eqb m v) ∙ ap (λ b. has_number v bs || b) (same_way v m) ∙ sym (has_push v m bs)
    ∙ (λ j. has_number v (bs ++ em j ∷ [])) ∙ ap (has_number v) (sym (map_more block_on ts i d h))

-- a number is written in the place of one that is no block
has_set : (k v none : ℕ) (xs : List ℕ) (j : ℕ) → j < length xs → get_or xs j 0 ≡ none → k ≢ none → has_number k (set xs j v) ≡ (eqb k v || has_number k xs)
has_set k v none [] j h e ne = absurd (omega arith)
has_set k v none (x ∷ xs) zero h e ne =
    let f : eqb k x ≡ false = ne_eqb k x (λ q. ne (q ∙ e)) in
    λ i. eqb k v || (sym f i || has_number k xs)
has_set k v none (x ∷ xs) (suc j) h e ne =
    let r = has_set k v none xs j (omega arith) e ne in
    ap (λ b. eqb k x || b) r ∙ turn (eqb k x) (eqb k v) (has_number k xs)
  where
    turn : (a b c : Bool) → (a || (b || c)) ≡ (b || (a || c))
    turn true true c = refl
    turn true false c = refl
    turn false b c = refl

-- of the first terminals, the blocks but one stand in a record that is filled so far; the rest of it is no block
pub record IsFilled (none b : ℕ) (ts : List Terminal) (i : ℕ) (skip : ℕ) (others : List ℕ) : Type 0 where
  pub each : (k : ℕ) → k < none → has_number k others ≡ (has_number k (map block_on (take i ts)) && not (eqb k b))
  pub within : (j : ℕ) → j < length others → get_or others j 0 ≤ none
  pub rest : (j : ℕ) → i - skip ≤ j → j < length others → get_or others j 0 ≡ none
  pub behind : skip ≤ i
  pub skips : skip ≡ cond (has_number b (map block_on (take i ts))) 1 0

has_replicate : (k none n : ℕ) → k < none → has_number k (replicate n none) ≡ false
has_replicate k none zero h = refl
has_replicate k none (suc n) h = (λ i. ne_eqb k none (λ q. absurd (omega (arith, q, h))) i || has_number k (replicate n none)) ∙ has_replicate k none n h

pub filled_none : (none b : ℕ) (ts : List Terminal) (n : ℕ) → IsFilled none b ts 0 0 (replicate n none)
filled_none none b ts n = record {
  each = λ k h. has_replicate k none n h;
  within = λ j h. let e = get_or-replicate n j none 0 (omega (arith, h, length-replicate n none)) in omega (arith, e);
  rest = λ j l h. get_or-replicate n j none 0 (omega (arith, h, length-replicate n none));
  behind = omega arith;
  skips = refl;
}

own_again : (x e : Bool) → (x && not e) ≡ ((x || e) && not e)
own_again true true = refl
own_again true false = refl
own_again false true = refl
own_again false false = refl

-- the terminal is of the block itself
pub filled_own : (none b : ℕ) (ts : List Terminal) (z : Terminal) (i skip next m : ℕ) (others : List ℕ) → i < length ts → m ≡ block_on (get_or ts i z) → m ≡ b → next ≡ 1 → IsFilled none b ts i skip others → IsFilled none b ts (i + 1) next others
filled_own none b ts z i skip next m others h em q en f =
    let sk = f.skips in
    record {
      each = λ k l. f.each k l ∙ own_again (has_number k (map block_on (take i ts))) (eqb k b)
          ∙ (λ j. (has_number k (map block_on (take i ts)) || eqb k (sym q j)) && not (eqb k b))
          ∙ ap (λ v. (has_number k (map block_on (take i ts)) || v) && not (eqb k b)) (turned k m)
          ∙ ap (λ v. v && not (eqb k b)) (seen_more k ts z i m (has_number k (map block_on (take i ts))) h em refl);
      within = f.within;
      rest = λ j l w. f.rest j (elim (cases_Bool (has_number b (map block_on (take i ts)))) [
        | inl t ↦ (let e : skip ≡ 1 = sk ∙ (λ a. cond (t a) 1 0) in omega (arith, l, e, en))
        | inr t ↦ (let e : skip ≡ 0 = sk ∙ (λ a. cond (t a) 1 0) in omega (arith, l, e, en))
      ]) w;
      behind = omega (arith, en);
      skips = en ∙ (λ a. cond (sym on a) 1 0);
    }
  where
    turned : (k m : ℕ) → eqb k m ≡ eqb m k
    turned k m = elim (cases_eq k m) [ inl e ↦ eq-eqb k m e ∙ sym (eq-eqb m k (sym e)) | inr ne ↦ ne_eqb k m ne ∙ sym (ne_eqb m k (λ e. ne (sym e))) ]

    on : has_number b (map block_on (take (i + 1) ts)) ≡ true
    on = sym (seen_more b ts z i m (has_number b (map block_on (take i ts))) h em refl) ∙ ap (λ v. has_number b (map block_on (take i ts)) || v) (eq-eqb m b q) ∙ or_true (has_number b (map block_on (take i ts)))
      where
        or_true : (x : Bool) → (x || true) ≡ true
        or_true true = refl
        or_true false = refl

or_false : (x : Bool) → (x || false) ≡ x
or_false true = refl
or_false false = refl

-- the terminal is of another block
pub filled_other : (none b : ℕ) (ts : List Terminal) (z : Terminal) (i skip m : ℕ) (others new : List ℕ) → i < length ts → m ≡ block_on (get_or ts i z) → m ≢ b → m < none → i - skip < length others → new ≡ set others (i - skip) m → IsFilled none b ts i skip others → IsFilled none b ts (i + 1) skip new
filled_other none b ts z i skip m others new h em ne lm lp en f = subst (λ v. IsFilled none b ts (i + 1) skip v) (sym en) there
  where
    x : ℕ → Bool
    x k = has_number k (map block_on (take i ts))

    more : (k : ℕ) → (x k || eqb m k) ≡ has_number k (map block_on (take (i + 1) ts))
    more k = seen_more k ts z i m (x k) h em refl

    join : (k : ℕ) → (eqb k m || (x k && not (eqb k b))) ≡ ((x k || eqb m k) && not (eqb k b))
    join k = elim (cases_eq k m) [
      | inl q ↦
          let e : eqb k b ≡ false = ne_eqb k b (λ r. ne (sym q ∙ r)) in
          let t : eqb k m ≡ true = eq-eqb k m q in
          let u : eqb m k ≡ true = eq-eqb m k (sym q) in
          (λ a. t a || (x k && not (eqb k b))) ∙ sym ((λ a. (x k || u a) && not (e a)) ∙ alltrue (x k))
      | inr r ↦
          let t : eqb k m ≡ false = ne_eqb k m r in
          let u : eqb m k ≡ false = ne_eqb m k (λ e. r (sym e)) in
          (λ a. t a || (x k && not (eqb k b))) ∙ sym ((λ a. (x k || u a) && not (eqb k b)) ∙ ap (λ v. v && not (eqb k b)) (or_false (x k)))
    ]
      where
        alltrue : (v : Bool) → ((v || true) && not false) ≡ true
        alltrue true = refl
        alltrue false = refl

    there : IsFilled none b ts (i + 1) skip (set others (i - skip) m)
    there =
        let bh = f.behind in
        let ls = length-set others (i - skip) m in
        record {
          each = λ k l.
              has_set k m none others (i - skip) lp (f.rest (i - skip) (omega arith) lp) (λ q. absurd (omega (arith, q, l)))
              ∙ ap (λ v. eqb k m || v) (f.each k l) ∙ join k ∙ ap (λ v. v && not (eqb k b)) (more k);
          within = λ j w. elim (cases_eq j (i - skip)) [
            | inl q ↦ (let e : get_or (set others (i - skip) m) j 0 ≡ m = ap (λ v. get_or (set others (i - skip) m) v 0) q ∙ get_or-set_same others (i - skip) m 0 lp in omega (arith, e, lm))
            | inr r ↦ (let e = get_or-set_other others (i - skip) j m 0 r in let v = f.within j (omega (arith, w, ls)) in omega (arith, e, v))
          ];
          rest = λ j l w. get_or-set_other others (i - skip) j m 0 (λ q. absurd (omega (arith, q, l, bh))) ∙ f.rest j (omega (arith, l, bh)) (omega (arith, w, ls));
          behind = omega (arith, bh);
          skips = f.skips ∙ (λ a. cond ((sym (or_false (x b)) ∙ ap (λ v. x b || v) (sym (ne_eqb m b ne)) ∙ more b) a) 1 0);
        }

pub place_within : (none b w : ℕ) (ts : List Terminal) (z : Terminal) (i skip m : ℕ) (others : List ℕ) → i < length ts → length ts ≤ w + 1 → has_number b (map block_on ts) ≡ true → m ≡ block_on (get_or ts i z) → m ≢ b → IsFilled none b ts i skip others → i - skip < w
place_within none b w ts z i skip m others h few on em ne f = elim (cases_lt (i - skip) w) [
  | inl l ↦ l
  | inr ge ↦ elim (cases_Bool (has_number b (map block_on (take i ts)))) [
    | inl t ↦ (let e : skip ≡ 1 = f.skips ∙ (λ a. cond (t a) 1 0) in let bh = f.behind in absurd (omega (arith, e, ge, h, few, bh)))
    | inr t ↦
        let e : skip ≡ 0 = f.skips ∙ (λ a. cond (t a) 1 0) in
        let n : has_number b (map block_on (take (i + 1) ts)) ≡ false = sym (seen_more b ts z i m (has_number b (map block_on (take i ts))) h em refl) ∙ ap (λ v. has_number b (map block_on (take i ts)) || v) (ne_eqb m b ne) ∙ or_false (has_number b (map block_on (take i ts))) ∙ t in
        let all : take (i + 1) ts ≡ ts = take_all (i + 1) ts (omega (arith, e, ge, h, few)) in
        absurd (false≢true (sym n ∙ ap (λ v. has_number b (map block_on v)) all ∙ on))
  ]
]

pub filled_all : (none b : ℕ) (ts : List Terminal) (i skip : ℕ) (others : List ℕ) → length ts ≤ i → IsFilled none b ts i skip others → (k : ℕ) → k < none → has_number k others ≡ (has_number k (map block_on ts) && not (eqb k b))
filled_all none b ts i skip others h f k l = f.each k l ∙ ap (λ v. has_number k (map block_on v) && not (eqb k b)) (take_all i ts h)

-- a record of a net

pub record_is : (d : Netlist) (b n none : ℕ) (ts : List Terminal) (others : List ℕ) (q : ℕ) → Counts d n → has_number b (blocks_of d n) ≡ true → none ≡ length d.kinds → ts ≡ get_or d.terminals n []
    → ((k : ℕ) → k < none → has_number k others ≡ (has_number k (map block_on ts) && not (eqb k b))) → ((j : ℕ) → j < length others → get_or others j 0 ≤ none) → q ≡ cross_of (length ts) → IsRecord d b n others q
record_is d b n none ts others q c on en et each within eq = record {
  counts = c;
  on = on;
  factor = eq ∙ ap cross_of (ap length et ∙ sym (length-map (get_or d.terminals n []) block_on));
  each = λ k l. each k (omega (arith, l, en)) ∙ ap (λ v. has_number k (map block_on v) && not (eqb k b)) et;
  within = λ i h. let w = within i h in omega (arith, w, en);
}

no_records : {W : ℕ} (d : Netlist) (c : ℕ) (ns : List ℕ) (rs : List (Record W)) → ns ≡ [] → rs ≡ [] → AreRecords d c ns rs
no_records {W = W} d c ns rs en er = record {
  long = ap length er ∙ sym (ap length en);
  each = λ i z h. absurd (let e = ap length en in omega (arith, h, e));
}

nets_to_none : (d : Netlist) (c : ℕ) → nets_to d 0 0 c ≡ []
nets_to_none d c =
    let f : ltb c 0 ≡ false = grind (arith, nat_tests) in
    (λ i. cond (f i) (nets_of d c) (cond (eqb c 0) (take 0 (nets_of d c)) [])) ∙ (elim (cases_Bool (eqb c 0)) [ inl t ↦ (λ i. cond (t i) (take 0 (nets_of d c)) []) | inr u ↦ (λ i. cond (u i) (take 0 (nets_of d c)) []) ])

pub packed_none : {W : ℕ} (d : Netlist) (above most : ℕ) (entries : List (ℕ × Record W)) → entries ≡ [] → ArePacked d above most 0 0 entries
packed_none {W = W} d above most entries e = record {
  rows = λ c. no_records {W = W} d c _ _ (ap (filter (is_sized d above most)) (nets_to_none d c)) (ap (λ v. row_of v c) e);
  within = λ i z h. absurd (let l = ap length e in omega (arith, h, l));
  few = (let l = ap length e in omega (arith, l));
}

nets_here : (d : Netlist) (k j : ℕ) → nets_to d k j k ≡ take j (nets_of d k)
nets_here d k j = (λ i. cond (f i) (nets_of d k) (cond (eqb k k) (take j (nets_of d k)) [])) ∙ (λ i. cond (eq-eqb k k refl i) (take j (nets_of d k)) [])
  where
    f : ltb k k ≡ false
    f = grind (arith, nat_tests)

nets_apart : (d : Netlist) (k j m c : ℕ) → c ≢ k → nets_to d k j c ≡ nets_to d k m c
nets_apart d k j m c ne = ap (λ v. cond (ltb c k) (nets_of d c) v) ((λ i. cond (ne_eqb c k ne i) (take j (nets_of d c)) []) ∙ (λ i. cond (sym (ne_eqb c k ne) i) (take m (nets_of d c)) []))

sized_here : (d : Netlist) (above most k j n : ℕ) → j < length (nets_of d k) → n ≡ get_or (nets_of d k) j 0 → filter (is_sized d above most) (nets_to d k (j + 1) k) ≡ filter (is_sized d above most) (nets_to d k j k) ++ cond (is_sized d above most n) (n ∷ []) []
sized_here d above most k j n h en =
    ap (filter (is_sized d above most)) (nets_here d k (j + 1)) ∙ filter_more (is_sized d above most) (nets_of d k) j 0 h
    ∙ (λ i. filter (is_sized d above most) (sym (nets_here d k j) i) ++ cond (is_sized d above most (sym en i)) (sym en i ∷ []) [])

-- a net that is not of the sizes
pub packed_passed : {W : ℕ} (d : Netlist) (above most k j n : ℕ) (entries : List (ℕ × Record W)) → j < length (nets_of d k) → n ≡ get_or (nets_of d k) j 0 → is_sized d above most n ≡ false → ArePacked d above most k j entries → ArePacked d above most k (j + 1) entries
packed_passed {W = W} d above most k j n entries h en f are =
    let fw = are.few in
    record {
      rows = λ c. elim (cases_eq c k) [
        | inl q ↦ subst (λ v. AreRecords {W = W} d v (filter (is_sized d above most) (nets_to d k (j + 1) v)) (row_of entries v)) (sym q)
            (subst (λ v. AreRecords {W = W} d k v (row_of entries k)) (sym (sized_here d above most k j n h en ∙ (λ i. filter (is_sized d above most) (nets_to d k j k) ++ cond (f i) (n ∷ []) []) ∙ append_nil (filter (is_sized d above most) (nets_to d k j k)))) (are.rows k))
        | inr ne ↦ subst (λ v. AreRecords {W = W} d c (filter (is_sized d above most) v) (row_of entries c)) (nets_apart d k j (j + 1) c ne) (are.rows c)
      ];
      within = are.within;
      few = omega (arith, fw);
    }
  where
    append_nil : (ns : List ℕ) → ns ++ [] ≡ ns
    append_nil [] = refl
    append_nil (m ∷ ns) = ap (λ v. m ∷ v) (append_nil ns)

records_push : {W : ℕ} (d : Netlist) (c n : ℕ) (ns : List ℕ) (rs : List (Record W)) (r : Record W) → AreRecords d c ns rs → IsRecord d c n r.others r.factor → AreRecords d c (ns ++ n ∷ []) (rs ++ r ∷ [])
records_push {W = W} d c n ns rs r are is =
    let l = are.long in
    let ln = length-append ns (n ∷ []) in
    let lr = length-append rs (r ∷ []) in
    record {
      long = omega (arith, l, ln, lr);
      each = λ i z h. elim (cases_lt i (length ns)) [
        | inl w ↦
            let en : get_or (ns ++ n ∷ []) i 0 ≡ get_or ns i 0 = get_or_append_left ns (n ∷ []) 0 i w in
            let er : get_or (rs ++ r ∷ []) i z ≡ get_or rs i z = get_or_append_left rs (r ∷ []) z i (omega (arith, w, l)) in
            subst (λ v. IsRecord d c v (get_or (rs ++ r ∷ []) i z).others (get_or (rs ++ r ∷ []) i z).factor) (sym en) (subst (λ (v : Record W). IsRecord d c (get_or ns i 0) v.others v.factor) (sym er) (are.each i z w))
        | inr ge ↦
            let q : length ns ≡ i = omega (arith, h, ln, ge) in
            let en : get_or (ns ++ n ∷ []) i 0 ≡ n = get_or_push ns n 0 i q in
            let er : get_or (rs ++ r ∷ []) i z ≡ r = get_or_push rs r z i (l ∙ q) in
            subst (λ v. IsRecord d c v (get_or (rs ++ r ∷ []) i z).others (get_or (rs ++ r ∷ []) i z).factor) (sym en) (subst (λ (v : Record W). IsRecord d c n v.others v.factor) (sym er) is)
      ];
    }

append_none : {A : Type 0} (xs : List A) → xs ++ [] ≡ xs
append_none [] = refl
append_none (x ∷ xs) = ap (λ v. x ∷ v) (append_none xs)

-- a net that is
pub packed_pushed : {W : ℕ} (d : Netlist) (above most k j n : ℕ) (entries new : List (ℕ × Record W)) (r : Record W) → k < length d.kinds → j < length (nets_of d k) → n ≡ get_or (nets_of d k) j 0 → is_sized d above most n ≡ true → IsRecord d k n r.others r.factor → new ≡ entries ++ (k, r) ∷ [] → ArePacked d above most k j entries → ArePacked d above most k (j + 1) new
packed_pushed {W = W} d above most k j n entries new r lk h en t is enew are = subst (λ v. ArePacked {W = W} d above most k (j + 1) v) (sym enew) there
  where
    there : ArePacked {W = W} d above most k (j + 1) (entries ++ (k, r) ∷ [])
    there =
        let fw = are.few in
        let ll = length-append entries ((k, r) ∷ []) in
        record {
          rows = λ c. elim (cases_eq c k) [
            | inl q ↦ subst (λ v. AreRecords {W = W} d v (filter (is_sized d above most) (nets_to d k (j + 1) v)) (row_of (entries ++ (k, r) ∷ []) v)) (sym q)
                (subst (λ v. AreRecords {W = W} d k v (row_of (entries ++ (k, r) ∷ []) k)) (sym (sized_here d above most k j n h en ∙ (λ i. filter (is_sized d above most) (nets_to d k j k) ++ cond (t i) (n ∷ []) [])))
                (subst (λ v. AreRecords {W = W} d k (filter (is_sized d above most) (nets_to d k j k) ++ n ∷ []) v) (sym (row_push entries k k r ∙ (λ i. row_of entries k ++ cond (eq-eqb k k refl i) (r ∷ []) [])))
                (records_push {W = W} d k n (filter (is_sized d above most) (nets_to d k j k)) (row_of entries k) r (are.rows k) is)))
            | inr ne ↦ subst (λ v. AreRecords {W = W} d c v (row_of (entries ++ (k, r) ∷ []) c)) (ap (filter (is_sized d above most)) (nets_apart d k j (j + 1) c ne))
                (subst (λ v. AreRecords {W = W} d c (filter (is_sized d above most) (nets_to d k j c)) v) (sym (row_push entries k c r ∙ (λ i. row_of entries c ++ cond (ne_eqb k c (λ e. ne (sym e)) i) (r ∷ []) []) ∙ append_none (row_of entries c))) (are.rows c))
          ];
          within = λ i z w. elim (cases_lt i (length entries)) [
            | inl l ↦ (let e : get_or (entries ++ (k, r) ∷ []) i z ≡ get_or entries i z = get_or_append_left entries ((k, r) ∷ []) z i l in subst (λ (v : ℕ × Record W). v.0 < length d.kinds) (sym e) (are.within i z l))
            | inr ge ↦ (let e : get_or (entries ++ (k, r) ∷ []) i z ≡ (k, r) = get_or_push entries (k, r) z i (omega (arith, w, ll, ge)) in subst (λ (v : ℕ × Record W). v.0 < length d.kinds) (sym e) lk)
          ];
          few = omega (arith, fw, ll);
        }

nets_done : (d : Netlist) (k j c : ℕ) → length (nets_of d k) ≤ j → nets_to d k j c ≡ nets_to d (k + 1) 0 c
nets_done d k j c h = elim (cases_lt c k) [
  | inl l ↦
      let a : ltb c k ≡ true = grind (arith, nat_tests) in
      let b : ltb c (k + 1) ≡ true = grind (arith, nat_tests) in
      (λ i. cond (a i) (nets_of d c) (cond (eqb c k) (take j (nets_of d c)) [])) ∙ (λ i. cond (sym b i) (nets_of d c) (cond (eqb c (k + 1)) (take 0 (nets_of d c)) []))
  | inr ge ↦ elim (cases_eq c k) [
    | inl q ↦
        let b : ltb c (k + 1) ≡ true = grind (arith, nat_tests) in
        ap (nets_to d k j) q ∙ nets_here d k j ∙ take_all j (nets_of d k) h ∙ ap (nets_of d) (sym q) ∙ (λ i. cond (sym b i) (nets_of d c) (cond (eqb c (k + 1)) (take 0 (nets_of d c)) []))
    | inr ne ↦
        let a : ltb c k ≡ false = grind (arith, nat_tests) in
        let b : ltb c (k + 1) ≡ false = grind (arith, nat_tests) in
        (λ i. cond (a i) (nets_of d c) (cond (eqb c k) (take j (nets_of d c)) [])) ∙ (λ i. cond (ne_eqb c k ne i) (take j (nets_of d c)) [])
        ∙ sym ((λ i. cond (b i) (nets_of d c) (cond (eqb c (k + 1)) (take 0 (nets_of d c)) [])) ∙ none_first (eqb c (k + 1)) (nets_of d c))
  ]
]
  where
    none_first : (b : Bool) (ns : List ℕ) → cond b (take 0 ns) [] ≡ []
    none_first true ns = refl
    none_first false ns = refl

-- the next block
pub packed_next : {W : ℕ} (d : Netlist) (above most k j : ℕ) (entries : List (ℕ × Record W)) → IsLawful d → length (nets_of d k) ≤ j → j ≤ 65535 → ArePacked d above most k j entries → ArePacked d above most (k + 1) 0 entries
packed_next {W = W} d above most k j entries lawful h fj are =
    let fw = are.few in
    record {
      rows = λ c. subst (λ v. AreRecords {W = W} d c (filter (is_sized d above most) v) (row_of entries c)) (nets_done d k j c h) (are.rows c);
      within = are.within;
      few = omega (arith, fw, fj);
    }

pub packed_all : {W : ℕ} (d : Netlist) (above most k count : ℕ) (entries : List (ℕ × Record W)) (rows : List (List (Record W))) → length d.kinds ≤ k → count ≡ length d.kinds → rows ≡ rows_of count entries → ArePacked d above most k 0 entries → HasRows d above most rows
packed_all {W = W} d above most k count entries rows h ec er are = record {
  long = ap length er ∙ length-map (range_with_len 0 count) (row_of entries) ∙ length-range_with_len 0 count ∙ ec;
  each = λ b l.
      let lb : b < length (range_with_len 0 count) = (let e = length-range_with_len 0 count in omega (arith, e, l, ec)) in
      let a : get_or rows b [] ≡ row_of entries b = ap (λ v. get_or v b []) er ∙ get_or-map (row_of entries) (range_with_len 0 count) b 0 [] lb ∙ ap (row_of entries) (get_or-range_with_len 0 count b 0 (omega (arith, l, ec)) ∙ (let z : 0 + b ≡ b = omega arith in z)) in
      let t : ltb b k ≡ true = (let lt : b < k = omega (arith, l, h) in grind (arith, nat_tests)) in
      let n : nets_to d k 0 b ≡ nets_of d b = λ i. cond (t i) (nets_of d b) (cond (eqb b k) (take 0 (nets_of d b)) []) in
      subst (λ v. AreRecords {W = W} d b (filter (is_sized d above most) (nets_of d b)) v) (sym a) (subst (λ v. AreRecords {W = W} d b (filter (is_sized d above most) v) (row_of entries b)) n (are.rows b));
}

pub packed_few : {W : ℕ} (d : Netlist) (above most k : ℕ) (entries : List (ℕ × Record W)) → IsLawful d → k ≤ length d.kinds → ArePacked d above most k 0 entries → length entries < 2 ^ 32
packed_few {W = W} d above most k entries is h are = let f = are.few in let b = is.few_blocks in omega (arith, f, b, h)

pub packed_within : {W : ℕ} (d : Netlist) (above most k count : ℕ) (entries : List (ℕ × Record W)) → count ≡ length d.kinds → ArePacked d above most k 0 entries → All (λ (e : ℕ × Record W). e.0 < count) entries
packed_within {W = W} d above most k count entries e are = λ i z h. let w = are.within i z h in omega (arith, w, e)

pub small_cross : (n q : ℕ) → n ≤ 16 → q ≡ cross_of n → q < 65536
small_cross n q h e = omega (arith, cross_le n, h, e)

-- whether a net is of the sizes, told by its terminals
pub sized_by : (d : Netlist) (n above most : ℕ) (ts : List Terminal) → ts ≡ get_or d.terminals n [] → above < length ts → length ts ≤ most → is_sized d above most n ≡ true
sized_by d n above most ts e lo hi =
    let l : length ts ≡ length (blocks_of d n) = ap length e ∙ sym (length-map (get_or d.terminals n []) block_on) in
    let a : above < length (blocks_of d n) = omega (arith, l, lo) in
    let b : length (blocks_of d n) ≤ most = omega (arith, l, hi) in
    grind (arith, nat_tests)

pub unsized_by : (d : Netlist) (n above most : ℕ) (ts : List Terminal) → ts ≡ get_or d.terminals n [] → (above < length ts → length ts ≤ most → ⊥) → is_sized d above most n ≡ false
unsized_by d n above most ts e out = elim (cases_Bool (is_sized d above most n)) [
  | inr f ↦ f
  | inl t ↦
      let l : length ts ≡ length (blocks_of d n) = ap length e ∙ sym (length-map (get_or d.terminals n []) block_on) in
      let p = and_parts (ltb above (length (blocks_of d n))) (leb (length (blocks_of d n)) most) t in
      let a = ltb-true above (length (blocks_of d n)) p.0 in
      let b = leb-true (length (blocks_of d n)) most p.1 in
      absurd (out (omega (arith, l, a)) (omega (arith, l, b)))
]

pub blocks_low : (d : Netlist) (n none : ℕ) (ts : List Terminal) → IsLawful d → n < length d.terminals → ts ≡ get_or d.terminals n [] → none ≡ length d.kinds → (k : ℕ) (z : Terminal) → k < length ts → (get_or ts k z).block.0 < none
blocks_low d n none ts is h e en k z l =
    let row = get_or d.terminals n [] in
    let m : k < length row = omega (arith, l, ap length e) in
    let w = is.within n k (omega (arith, m, length-map row block_on)) in
    let a : get_or (map block_on row) k 0 ≡ block_on (get_or row k z) = get_or-map block_on row k z 0 m in
    let b : block_on (get_or ts k z) ≡ block_on (get_or row k z) = ap (λ v. block_on (get_or v k z)) e in
    omega (arith, w, a, b, en)

-- the places of nets with many terminals

pub larger_none : (d : Netlist) (entries : List (ℕ × ℕ)) → entries ≡ [] → AreLarger d 0 0 entries
larger_none d entries e = record {
  rows = λ c. ap (λ v. map (λ i. get_or (nets_of d c) i 0) (row_of v c)) e ∙ sym (ap (filter (is_large d)) (nets_to_none d c));
  places = λ c i h. absurd (let l = ap (λ v. length (row_of v c)) e in omega (arith, h, l));
  within = λ i z h. absurd (let l = ap length e in omega (arith, h, l));
  few = (let l = ap length e in omega (arith, l));
}

large_here : (d : Netlist) (k j n : ℕ) → j < length (nets_of d k) → n ≡ get_or (nets_of d k) j 0 → filter (is_large d) (nets_to d k (j + 1) k) ≡ filter (is_large d) (nets_to d k j k) ++ cond (is_large d n) (n ∷ []) []
large_here d k j n h en =
    ap (filter (is_large d)) (nets_here d k (j + 1)) ∙ filter_more (is_large d) (nets_of d k) j 0 h
    ∙ (λ i. filter (is_large d) (sym (nets_here d k j) i) ++ cond (is_large d (sym en i)) (sym en i ∷ []) [])

pub larger_passed : (d : Netlist) (k j n : ℕ) (entries : List (ℕ × ℕ)) → j < length (nets_of d k) → n ≡ get_or (nets_of d k) j 0 → is_large d n ≡ false → AreLarger d k j entries → AreLarger d k (j + 1) entries
larger_passed d k j n entries h en f are =
    let fw = are.few in
    record {
      rows = λ c. are.rows c ∙ elim (cases_eq c k) [
        | inl q ↦ ap (λ v. filter (is_large d) (nets_to d k j v)) q ∙ sym (large_here d k j n h en ∙ (λ i. filter (is_large d) (nets_to d k j k) ++ cond (f i) (n ∷ []) []) ∙ append_none (filter (is_large d) (nets_to d k j k))) ∙ ap (λ v. filter (is_large d) (nets_to d k (j + 1) v)) (sym q)
        | inr ne ↦ ap (filter (is_large d)) (nets_apart d k j (j + 1) c ne)
      ];
      places = are.places;
      within = are.within;
      few = omega (arith, fw);
    }

row_new : (entries : List (ℕ × ℕ)) (k j : ℕ) → row_of (entries ++ (k, j) ∷ []) k ≡ row_of entries k ++ j ∷ []
row_new entries k j = row_push entries k k j ∙ (λ i. row_of entries k ++ cond (eq-eqb k k refl i) (j ∷ []) [])

row_old : (entries : List (ℕ × ℕ)) (k j c : ℕ) → c ≢ k → row_of (entries ++ (k, j) ∷ []) c ≡ row_of entries c
row_old entries k j c ne = row_push entries k c j ∙ (λ i. row_of entries c ++ cond (ne_eqb k c (λ e. ne (sym e)) i) (j ∷ []) []) ∙ append_none (row_of entries c)

pub larger_pushed : (d : Netlist) (k j n : ℕ) (entries new : List (ℕ × ℕ)) → k < length d.kinds → j < length (nets_of d k) → n ≡ get_or (nets_of d k) j 0 → is_large d n ≡ true → new ≡ entries ++ (k, j) ∷ [] → AreLarger d k j entries → AreLarger d k (j + 1) new
larger_pushed d k j n entries new lk h en t enew are = subst (λ v. AreLarger d k (j + 1) v) (sym enew) there
  where
    at : ℕ → ℕ → ℕ
    at c i = get_or (nets_of d c) i 0

    there : AreLarger d k (j + 1) (entries ++ (k, j) ∷ [])
    there =
        let fw = are.few in
        let ll = length-append entries ((k, j) ∷ []) in
        record {
          rows = λ c. elim (cases_eq c k) [
            | inl q ↦
                ap (λ v. map (at v) (row_of (entries ++ (k, j) ∷ []) v)) q ∙ ap (map (at k)) (row_new entries k j) ∙ map-append (at k) (row_of entries k) (j ∷ [])
                ∙ (λ i. are.rows k i ++ sym en i ∷ [])
                ∙ sym (large_here d k j n h en ∙ (λ i. filter (is_large d) (nets_to d k j k) ++ cond (t i) (n ∷ []) [])) ∙ ap (λ v. filter (is_large d) (nets_to d k (j + 1) v)) (sym q)
            | inr ne ↦ ap (map (at c)) (row_old entries k j c ne) ∙ are.rows c ∙ ap (filter (is_large d)) (nets_apart d k j (j + 1) c ne)
          ];
          places = λ c i w. elim (cases_eq c k) [
            | inl q ↦ subst (λ v. get_or (row_of (entries ++ (k, j) ∷ []) v) i 0 < length (nets_of d v)) (sym q)
                (let wk : i < length (row_of (entries ++ (k, j) ∷ []) k) = subst (λ v. i < length (row_of (entries ++ (k, j) ∷ []) v)) q w in
                let lw = ap length (row_new entries k j) in
                let la = length-append (row_of entries k) (j ∷ []) in
                elim (cases_lt i (length (row_of entries k))) [
                  | inl l ↦ (let e = ap (λ v. get_or v i 0) (row_new entries k j) ∙ get_or_append_left (row_of entries k) (j ∷ []) 0 i l in let p = are.places k i l in omega (arith, e, p))
                  | inr ge ↦ (let e = ap (λ v. get_or v i 0) (row_new entries k j) ∙ get_or_push (row_of entries k) j 0 i (omega (arith, wk, lw, la, ge)) in omega (arith, e, h))
                ])
            | inr ne ↦ (let e = ap (λ v. get_or v i 0) (row_old entries k j c ne) in let l = ap length (row_old entries k j c ne) in let p = are.places c i (omega (arith, w, l)) in omega (arith, e, p))
          ];
          within = λ i z w. elim (cases_lt i (length entries)) [
            | inl l ↦ (let e : get_or (entries ++ (k, j) ∷ []) i z ≡ get_or entries i z = get_or_append_left entries ((k, j) ∷ []) z i l in subst (λ (v : ℕ × ℕ). v.0 < length d.kinds) (sym e) (are.within i z l))
            | inr ge ↦ (let e : get_or (entries ++ (k, j) ∷ []) i z ≡ (k, j) = get_or_push entries (k, j) z i (omega (arith, w, ll, ge)) in subst (λ (v : ℕ × ℕ). v.0 < length d.kinds) (sym e) lk)
          ];
          few = omega (arith, fw, ll);
        }

pub larger_next : (d : Netlist) (k j : ℕ) (entries : List (ℕ × ℕ)) → IsLawful d → length (nets_of d k) ≤ j → j ≤ 65535 → AreLarger d k j entries → AreLarger d (k + 1) 0 entries
larger_next d k j entries lawful h fj are =
    let fw = are.few in
    record {
      rows = λ c. are.rows c ∙ ap (filter (is_large d)) (nets_done d k j c h);
      places = are.places;
      within = are.within;
      few = omega (arith, fw, fj);
    }

pub larger_all : (d : Netlist) (k count : ℕ) (entries : List (ℕ × ℕ)) (rows : List (List ℕ)) → length d.kinds ≤ k → count ≡ length d.kinds → rows ≡ rows_of count entries → AreLarger d k 0 entries → HasLarge d rows
larger_all d k count entries rows h ec er are = record {
  long = ap length er ∙ length-map (range_with_len 0 count) (row_of entries) ∙ length-range_with_len 0 count ∙ ec;
  each = λ b l.
      let lb : b < length (range_with_len 0 count) = (let e = length-range_with_len 0 count in omega (arith, e, l, ec)) in
      let a : get_or rows b [] ≡ row_of entries b = ap (λ v. get_or v b []) er ∙ get_or-map (row_of entries) (range_with_len 0 count) b 0 [] lb ∙ ap (row_of entries) (get_or-range_with_len 0 count b 0 (omega (arith, l, ec)) ∙ (let z : 0 + b ≡ b = omega arith in z)) in
      let t : ltb b k ≡ true = (let lt : b < k = omega (arith, l, h) in grind (arith, nat_tests)) in
      let n : nets_to d k 0 b ≡ nets_of d b = λ i. cond (t i) (nets_of d b) (cond (eqb b k) (take 0 (nets_of d b)) []) in
      subst (λ v. AreLarge d b v) (sym a) (record { within = are.places b; nets = are.rows b ∙ ap (filter (is_large d)) n });
}

pub larger_few : (d : Netlist) (k : ℕ) (entries : List (ℕ × ℕ)) → IsLawful d → k ≤ length d.kinds → AreLarger d k 0 entries → length entries < 2 ^ 32
larger_few d k entries is h are = let f = are.few in let b = is.few_blocks in omega (arith, f, b, h)

pub larger_within : (d : Netlist) (k count : ℕ) (entries : List (ℕ × ℕ)) → count ≡ length d.kinds → AreLarger d k 0 entries → All (λ (e : ℕ × ℕ). e.0 < count) entries
larger_within d k count entries e are = λ i z h. let w = are.within i z h in omega (arith, w, e)

pub large_by : (d : Netlist) (n : ℕ) (ts : List Terminal) → ts ≡ get_or d.terminals n [] → 16 < length ts → is_large d n ≡ true
large_by d n ts e lo =
    let l : length ts ≡ length (blocks_of d n) = ap length e ∙ sym (length-map (get_or d.terminals n []) block_on) in
    let a : 16 < length (blocks_of d n) = omega (arith, l, lo) in
    grind (arith, nat_tests)

pub not_large_by : (d : Netlist) (n : ℕ) (ts : List Terminal) → ts ≡ get_or d.terminals n [] → length ts ≤ 16 → is_large d n ≡ false
not_large_by d n ts e lo =
    let l : length ts ≡ length (blocks_of d n) = ap length e ∙ sym (length-map (get_or d.terminals n []) block_on) in
    let a : length (blocks_of d n) ≤ 16 = omega (arith, l, lo) in
    grind (arith, nat_tests)
