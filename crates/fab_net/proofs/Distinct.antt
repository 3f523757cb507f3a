-- Distinct names, and pins by the numbers of their nets.
use Rattle.std.proofs.Common.{◌≡◌, ℕ, ◌+◌, ◌<◌, ◌≤◌, Bool, true, false, cond, eqb, ◌||◌, ◌&&◌, List, [], ◌∷◌, ◌++◌, Some, None, length, map, get_or, set, refl, sym, ap, ◌∙◌, arith, suc, zero, inl, inr}
use Rattle.std.proofs.lemmas.List.{length-map, get_or-map, get_or-set_same, get_or-set_other}
use Rattle.std.proofs.lemmas.List.Elements.{All-head, All-tail, All-map, All-filter}
use Rattle.std.proofs.lemmas.List.Sums.{sum_by-cons, length-filter, count_by-le-length}
use Rattle.std.proofs.lemmas.List.FromFn.{fill_by_all}
use Rattle.std.proofs.lemmas.Map.Views.{any-filter_same}
use Rattle.std.proofs.lemmas.Bool.{cases_Bool, false≢true, eqb-true, eqb-false}
use Rattle.std.proofs.lemmas.Bool.Decides.{nat_tests}
use Rattle.std.specs.Prelude.{filter, count_by, is_some}
use Rattle.std.specs.List.{All, list_any, range_with_len}
use Rattle.std.specs.Str.{bytes_eq}
use Rattle.fab_net.specs.declared.netlist_types.Pin.{Pin}
use Rattle.fab_net.specs.declared.netlist_types.Terminal.{Terminal}
use Rattle.fab_net.specs.Text.{PinOf, net_of_pin, is_driver, net_names, terminal_of, terminals_of, is_global_in}
use Rattle.fab_net.specs.Names.{is_other, first_names, AllDistinct, number_of}
use Rattle.fab_net.specs.ByNumber.{pin_of, net_entry, driver_entry, drives_its, span_at}
use Rattle.fab_net.specs.Faults.{first_span}
use Rattle.fab_net.specs.Rows.{of_row, row_of, rows_of}
use Rattle.fab_net.proofs.Naming.{itself, other_way, has_number, name_at_number}
use Rattle.fab_net.proofs.Pushing.{any_push}

any_kept : (p q : List ℕ → Bool) (xs : List (List ℕ)) → list_any p xs ≡ false → list_any p (filter q xs) ≡ false
any_kept p q [] h = refl
any_kept p q (x ∷ xs) h = elim (cases_Bool (p x)) [
  | inl k ↦ let t : true ≡ false = rw k at h in absurd (false≢true (sym t))
  | inr k ↦
      let rest : list_any p xs ≡ false = rw k at h in
      elim (cases_Bool (q x)) [ inl y ↦ rw (y, k) (any_kept p q xs rest) | inr n ↦ rw n (any_kept p q xs rest) ]
]

distinct_filter : (q : List ℕ → Bool) (xs : List (List ℕ)) → AllDistinct xs → AllDistinct (filter q xs)
distinct_filter q [] h = tt
distinct_filter q (x ∷ xs) h = elim (cases_Bool (q x)) [
  | inl y ↦ rw y (any_kept (bytes_eq x) q xs h.0, distinct_filter q xs h.1)
  | inr n ↦ rw n (distinct_filter q xs h.1)
]

never_other : (n k : List ℕ) → bytes_eq n k ≡ true → is_other n k ≡ false
never_other n k h = rw h refl

pub firsts_distinct : (ns : List (List ℕ)) → AllDistinct (first_names ns)
firsts_distinct [] = tt
firsts_distinct (n ∷ ns) = (any-filter_same (bytes_eq n) (is_other n) false (never_other n) (first_names ns), distinct_filter (is_other n) (first_names ns) (firsts_distinct ns))

none_at : (p : List ℕ → Bool) (xs : List (List ℕ)) (i : ℕ) → list_any p xs ≡ false → i < length xs → p (get_or xs i []) ≡ false
none_at p [] i h lt = absurd (omega arith)
none_at p (x ∷ xs) zero h lt = elim (cases_Bool (p x)) [ inl k ↦ let t : true ≡ false = rw k at h in absurd (false≢true (sym t)) | inr k ↦ k ]
none_at p (x ∷ xs) (suc i) h lt = elim (cases_Bool (p x)) [ inl k ↦ let t : true ≡ false = rw k at h in absurd (false≢true (sym t)) | inr k ↦ let rest : list_any p xs ≡ false = rw k at h in none_at p xs i rest (omega arith) ]

zero_suc : (q : ℕ) → eqb (suc q) 0 ≡ false
zero_suc q = grind (arith, nat_tests)

suc_zero : (q : ℕ) → eqb 0 (suc q) ≡ false
suc_zero q = grind (arith, nat_tests)

suc_suc : (q r : ℕ) → eqb (suc q) (suc r) ≡ eqb q r
suc_suc q r = grind (arith, nat_tests)

-- names are equal where their numbers are
pub by_number : (names : List (List ℕ)) (r q : ℕ) → AllDistinct names → r < length names → q < length names → bytes_eq (get_or names r []) (get_or names q []) ≡ eqb q r
by_number [] r q d lt lt' = absurd (omega arith)
by_number (n ∷ ns) zero zero d lt lt' = itself n
by_number (n ∷ ns) zero (suc q) d lt lt' = none_at (bytes_eq n) ns q d.0 (omega arith) ∙ sym (zero_suc q)
by_number (n ∷ ns) (suc r) zero d lt lt' = other_way n (get_or ns r []) (none_at (bytes_eq n) ns r d.0 (omega arith)) ∙ sym (suc_zero r)
by_number (n ∷ ns) (suc r) (suc q) d lt lt' = by_number ns r q d.1 (omega arith) (omega arith) ∙ sym (suc_suc q r)

terminals_cons : (names : List (List ℕ)) (r : ℕ) (p : Pin) (ps : List Pin) (b : Bool) → bytes_eq (get_or names r []) (get_or names p.net []) ≡ b → eqb p.net r ≡ b
    → row_of (map net_entry ps) r ≡ terminals_of (map (pin_of names) ps) (get_or names r [])
    → row_of (map net_entry (p ∷ ps)) r ≡ terminals_of (map (pin_of names) (p ∷ ps)) (get_or names r [])
terminals_cons names r p ps true h k rest = rw (h, k) (ap (λ ts. terminal_of (pin_of names p) ∷ ts) rest)
terminals_cons names r p ps false h k rest = rw (h, k) rest

-- the terminals of a net, by its number
pub terminals_at : (names : List (List ℕ)) (r : ℕ) (pins : List Pin) → AllDistinct names → r < length names → All (λ p. p.net < length names) pins → row_of (map net_entry pins) r ≡ terminals_of (map (pin_of names) pins) (get_or names r [])
terminals_at names r [] d lt h = refl
terminals_at names r (p ∷ ps) d lt h =
    let here = All-head (λ (p : Pin). p.net < length names) p ps h in
    let rest = terminals_at names r ps d lt (All-tail (λ (p : Pin). p.net < length names) p ps h) in
    terminals_cons names r p ps (eqb p.net r) (by_number names r p.net d lt here) refl rest

-- those of all nets
pub all_terminals : (names : List (List ℕ)) (pins : List Pin) → AllDistinct names → All (λ p. p.net < length names) pins → rows_of (length names) (map net_entry pins) ≡ map (terminals_of (map (pin_of names) pins)) names
all_terminals names pins d h =
    let f = terminals_of (map (pin_of names) pins) in
    sym (fill_by_all (row_of (map net_entry pins)) (map f names) (length names) [] (length-map names f)
    (λ r lt. get_or-map f names r [] [] lt ∙ sym (terminals_at names r pins d lt h)))

pub entries_within : (names : List (List ℕ)) (pins : List Pin) → All (λ p. p.net < length names) pins → All (λ e. e.0 < length names) (map net_entry pins)
entries_within names pins h = All-map (λ (e : ℕ × Terminal). e.0 < length names) net_entry pins h

left_cons : (r : ℕ) (p : Pin) (ps : List Pin) (d : Bool) → p.drives ≡ d → count_by (of_row r) (map driver_entry (filter drives_its (p ∷ ps))) ≡ cond d (cond (eqb p.net r) 1 0) 0 + count_by (of_row r) (map driver_entry (filter drives_its ps))
left_cons r p ps true e =
    let f = filter drives_its ps in
    ap (λ b. count_by (of_row r) (map driver_entry (cond b (p ∷ f) f))) e ∙ sum_by-cons (λ (x : ℕ × Bool). cond (of_row r x) 1 0) (driver_entry p) (map driver_entry f)
left_cons r p ps false e =
    let f = filter drives_its ps in
    let z : count_by (of_row r) (map driver_entry f) ≡ 0 + count_by (of_row r) (map driver_entry f) = omega arith in
    ap (λ b. count_by (of_row r) (map driver_entry (cond b (p ∷ f) f))) e ∙ z

same_test : (b d : Bool) → ◌≡◌ {A = ℕ} (cond d (cond b 1 0) 0) (cond (b && d) 1 0)
same_test true true = refl
same_test true false = refl
same_test false true = refl
same_test false false = refl

-- how many drivers a net has, by its number
pub drivers_at : (names : List (List ℕ)) (r : ℕ) (pins : List Pin) → AllDistinct names → r < length names → All (λ p. p.net < length names) pins
    → count_by (of_row r) (map driver_entry (filter drives_its pins)) ≡ count_by (is_driver (get_or names r [])) (map (pin_of names) pins)
drivers_at names r [] d lt h = refl
drivers_at names r (p ∷ ps) d lt h =
    let here = All-head (λ (p : Pin). p.net < length names) p ps h in
    let rest = drivers_at names r ps d lt (All-tail (λ (p : Pin). p.net < length names) p ps h) in
    let l = left_cons r p ps p.drives refl in
    let right = sum_by-cons (λ (x : PinOf). cond (is_driver (get_or names r []) x) 1 0) (pin_of names p) (map (pin_of names) ps) in
    let test : cond p.drives (cond (eqb p.net r) 1 0) 0 ≡ cond (is_driver (get_or names r []) (pin_of names p)) 1 0 = same_test (eqb p.net r) p.drives ∙ ap (λ b. cond (b && p.drives) 1 0) (sym (by_number names r p.net d lt here)) in
    omega (arith, l, rest, right, test)

pub all_drivers : (names : List (List ℕ)) (pins : List Pin) → AllDistinct names → All (λ p. p.net < length names) pins
    → map (λ r. count_by (of_row r) (map driver_entry (filter drives_its pins))) (range_with_len 0 (length names)) ≡ map (λ name. count_by (is_driver name) (map (pin_of names) pins)) names
all_drivers names pins d h =
    let f : List ℕ → ℕ = λ name. count_by (is_driver name) (map (pin_of names) pins) in
    sym (fill_by_all (λ r. count_by (of_row r) (map driver_entry (filter drives_its pins))) (map f names) (length names) 0 (length-map names f)
    (λ r lt. get_or-map f names r [] 0 lt ∙ sym (drivers_at names r pins d lt h)))

pub drivers_within : (names : List (List ℕ)) (pins : List Pin) → All (λ p. p.net < length names) pins → All (λ e. e.0 < length names) (map driver_entry (filter drives_its pins))
drivers_within names pins h = All-map (λ (e : ℕ × Bool). e.0 < length names) driver_entry (filter drives_its pins) (All-filter drives_its (λ (p : Pin). p.net < length names) pins h)

pub drivers_few : (pins : List Pin) → length (map driver_entry (filter drives_its pins)) ≤ length pins
drivers_few pins = omega (arith, length-map (filter drives_its pins) driver_entry, length-filter drives_its pins, count_by-le-length drives_its pins)

pub nets_distinct : (names : List (List ℕ)) (pins : List PinOf) → names ≡ net_names pins → AllDistinct names
nets_distinct names pins h = rw h (firsts_distinct (map net_of_pin pins))

-- the place where a net is named first, by its number
pub span_by_number : (names : List (List ℕ)) (r : ℕ) (pins : List Pin) → AllDistinct names → r < length names → All (λ p. p.net < length names) pins → span_at r pins ≡ first_span (map (pin_of names) pins) (get_or names r [])
span_by_number names r [] d lt h = refl
span_by_number names r (p ∷ ps) d lt h =
    let here = All-head (λ (p : Pin). p.net < length names) p ps h in
    let rest = span_by_number names r ps d lt (All-tail (λ (p : Pin). p.net < length names) p ps h) in
    let same = by_number names r p.net d lt here in
    ap (λ s. cond (eqb p.net r) p.span s) rest ∙ ap (λ b. cond b p.span (first_span (map (pin_of names) ps) (get_or names r []))) (sym same)

or_true : (b : Bool) → (b || true) ≡ true
or_true true = refl
or_true false = refl

or_none : (b : Bool) → (b || false) ≡ b
or_none true = refl
or_none false = refl

-- one more name is marked
pub marks_step : (names seen : List (List ℕ)) (g : List ℕ) (n : ℕ) (marks : List Bool) → AllDistinct names → length marks ≡ length names → number_of g names ≡ Some n
    → ((r : ℕ) → r < length names → get_or marks r false ≡ is_global_in seen (get_or names r [])) → (r : ℕ) → r < length names → get_or (set marks n true) r false ≡ is_global_in (seen ++ g ∷ []) (get_or names r [])
marks_step names seen g n marks d size h m r lt =
    let at = name_at_number g names n h in
    let x = get_or names r [] in
    let same : bytes_eq x g ≡ eqb n r = ap (bytes_eq x) (sym at.1) ∙ by_number names r n d lt at.0 in
    let push : is_global_in (seen ++ g ∷ []) x ≡ (is_global_in seen x || eqb n r) = any_push (bytes_eq x) seen g ∙ ap (λ b. is_global_in seen x || b) same in
    elim (cases_Bool (eqb n r)) [
      | inl t ↦
          let e : n ≡ r = eqb-true n r t in
          let here : get_or (set marks n true) r false ≡ true = ap (λ k. get_or (set marks k true) r false) e ∙ get_or-set_same marks r true false (omega (arith, size)) in
          here ∙ sym (push ∙ ap (λ b. is_global_in seen x || b) t ∙ or_true (is_global_in seen x))
      | inr t ↦
          let ne = eqb-false n r t in
          get_or-set_other marks n r true false (λ e. ne (sym e)) ∙ m r lt ∙ sym (push ∙ ap (λ b. is_global_in seen x || b) t ∙ or_none (is_global_in seen x))
    ]

-- a name that no net bears
pub marks_skip : (names seen : List (List ℕ)) (g : List ℕ) (marks : List Bool) → number_of g names ≡ None
    → ((r : ℕ) → r < length names → get_or marks r false ≡ is_global_in seen (get_or names r [])) → (r : ℕ) → r < length names → get_or marks r false ≡ is_global_in (seen ++ g ∷ []) (get_or names r [])
marks_skip names seen g marks h m r lt =
    let x = get_or names r [] in
    let none : list_any (bytes_eq g) names ≡ false = sym (has_number g names) ∙ ap is_some h in
    let f : bytes_eq x g ≡ false = other_way g x (none_at (bytes_eq g) names r none lt) in
    m r lt ∙ sym (any_push (bytes_eq x) seen g ∙ ap (λ b. is_global_in seen x || b) f ∙ or_none (is_global_in seen x))
