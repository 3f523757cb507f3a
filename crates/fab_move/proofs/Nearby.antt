-- The pad positions near one: on each side of the array they are one run.
use Rattle.std.proofs.Common.{◌≡◌, ℕ, zero, suc, ◌+◌, ◌-◌, ◌<◌, ◌≤◌, min, max, Bool, true, false, ◌&&◌, List, [], ◌++◌, length, map, reverse, get_or, refl, sym, ap, ◌∙◌, arith, ◌⊎◌, inl, inr}
use Rattle.std.specs.List.{filter, range_with_len}
use Rattle.std.proofs.lemmas.Bool.Decides.{nat_tests}
use Rattle.fab_arch.specs.declared.array.Site.{Site}
use Rattle.fab_arch.specs.Grid.{GridShape}
use Rattle.fab_move.specs.Propose.{within, near_positions}
use Rattle.std.proofs.lemmas.List.{get_or_append_left, get_or-append_right, get_or-reverse, length-reverse}
use Rattle.std.proofs.lemmas.List.FromFn.{length-map-range_with_len, get_or-map-range_with_len}
use Rattle.std.proofs.Common.{length-append}
use Rattle.fab_move.specs.Sides.{side_by_side}
use Rattle.fab_move.proofs.Ranges.{filter_run, filter_none, filter_append, filter_mapped, filter_reversed}

-- the numbers near one
pub near_run : (here reach n : ℕ) → filter (within reach here) (range_with_len 1 n) ≡ range_with_len (max 1 (here - reach)) (min n (here + reach) + 1 - max 1 (here - reach))
near_run here reach n =
    elim (cases_le (max 1 (here - reach)) (min n (here + reach) + 1)) [
      | inl le ↦
          filter_run (within reach here) (max 1 (here - reach)) (min n (here + reach) + 1 - max 1 (here - reach)) n (omega arith) (omega arith)
          (λ x l g. grind (arith, nat_tests)) (λ x l g. grind (arith, nat_tests)) (λ x l g. grind (arith, nat_tests))
      | inr gt ↦
          let nothing : 0 ≡ min n (here + reach) + 1 - max 1 (here - reach) = omega arith in
          filter_none (within reach here) 1 n (λ x l g. grind (arith, nat_tests))
          ∙ ap (range_with_len (max 1 (here - reach))) nothing
    ]
  where
    cases_le : (a b : ℕ) → (a ≤ b) ⊎ (b ≤ a)
    cases_le zero b = inl (omega arith)
    cases_le (suc a) zero = inr (omega arith)
    cases_le (suc a) (suc b) = elim (cases_le a b) [ inl l ↦ inl (omega arith) | inr g ↦ inr (omega arith) ]

-- a side that is near, or not
pub side_run : (first count : ℕ) (reach across side along n : ℕ) → within reach across side ≡ true → range_with_len first count ≡ filter (within reach along) (range_with_len 1 n) → range_with_len first count ≡ filter (λ i. within reach across side && within reach along i) (range_with_len 1 n)
side_run first count reach across side along n near e = e ∙ (λ i. filter (λ k. sym near i && within reach along k) (range_with_len 1 n))

pub side_none : (reach across side along n : ℕ) → within reach across side ≡ false → [] ≡ filter (λ i. within reach across side && within reach along i) (range_with_len 1 n)
side_none reach across side along n far = sym (filter_none (λ i. within reach across side && within reach along i) 1 n (λ x l g. (λ i. far i && within reach along x)))

both : (a b : Bool) → (a && b) ≡ (b && a)
both true true = refl
both true false = refl
both false true = refl
both false false = refl

-- the window, side by side
pub window_is : (g : GridShape) (from : Site) (reach : ℕ) (left top right bottom : List ℕ)
    → left ≡ filter (λ i. within reach from.x 0 && within reach from.y i) (range_with_len 1 g.ny)
    → top ≡ filter (λ i. within reach from.y (g.ny + 1) && within reach from.x i) (range_with_len 1 g.nx)
    → right ≡ filter (λ i. within reach from.x (g.nx + 1) && within reach from.y i) (range_with_len 1 g.ny)
    → bottom ≡ filter (λ i. within reach from.y 0 && within reach from.x i) (range_with_len 1 g.nx)
    → side_by_side g.nx g.ny left top right bottom ≡ near_positions g from reach
window_is g from reach left top right bottom l t r b =
    let test : (ℕ × ℕ) → Bool = (λ p. within reach from.x p.0 && within reach from.y p.1) in
    let f : ℕ → (ℕ × ℕ) = (λ i. (0, i)) in
    let h : ℕ → (ℕ × ℕ) = (λ i. (i, g.ny + 1)) in
    let k : ℕ → (ℕ × ℕ) = (λ i. (g.nx + 1, i)) in
    let m : ℕ → (ℕ × ℕ) = (λ i. (i, 0)) in
    let rows = range_with_len 1 g.ny in
    let columns = range_with_len 1 g.nx in
    let on_left : filter test (map f rows) ≡ map f left = filter_mapped test f rows ∙ ap (map f) (sym l) in
    let on_top : filter test (map h columns) ≡ map h top =
    filter_mapped test h columns ∙ ap (map h) ((λ j. filter (λ i. both (within reach from.x i) (within reach from.y (g.ny + 1)) j) columns) ∙ sym t) in
    let on_right : filter test (reverse (map k rows)) ≡ reverse (map k right) =
    filter_reversed test (map k rows) ∙ ap reverse (filter_mapped test k rows ∙ ap (map k) (sym r)) in
    let on_bottom : filter test (reverse (map m columns)) ≡ reverse (map m bottom) =
    filter_reversed test (map m columns)
    ∙ ap reverse (filter_mapped test m columns ∙ ap (map m) ((λ j. filter (λ i. both (within reach from.x i) (within reach from.y 0) j) columns) ∙ sym b)) in
    sym (filter_append test (map f rows ++ map h columns ++ reverse (map k rows)) (reverse (map m columns))
    ∙ ap (λ q. q ++ filter test (reverse (map m columns))) (filter_append test (map f rows ++ map h columns) (reverse (map k rows)))
    ∙ ap (λ q. q ++ filter test (reverse (map k rows)) ++ filter test (reverse (map m columns))) (filter_append test (map f rows) (map h columns))
    ∙ (λ i. on_left i ++ on_top i ++ on_right i ++ on_bottom i))

module _ (nx ny lf lc tf tc rf rc bf bc : ℕ) where
  abbrev ls : List (ℕ × ℕ)
  ls = map (λ i. (0, i)) (range_with_len lf lc)

  abbrev ts : List (ℕ × ℕ)
  ts = map (λ i. (i, ny + 1)) (range_with_len tf tc)

  abbrev rs : List (ℕ × ℕ)
  rs = map (λ i. (nx + 1, i)) (range_with_len rf rc)

  abbrev us : List (ℕ × ℕ)
  us = map (λ i. (i, 0)) (range_with_len bf bc)

  abbrev all : List (ℕ × ℕ)
  all = side_by_side nx ny (range_with_len lf lc) (range_with_len tf tc) (range_with_len rf rc) (range_with_len bf bc)

  length_ls : length ls ≡ lc
  length_ls = length-map-range_with_len (λ i. (0, i)) lf lc

  length_ts : length ts ≡ tc
  length_ts = length-map-range_with_len (λ i. (i, ny + 1)) tf tc

  length_rs : length rs ≡ rc
  length_rs = length-map-range_with_len (λ i. (nx + 1, i)) rf rc

  length_us : length us ≡ bc
  length_us = length-map-range_with_len (λ i. (i, 0)) bf bc

  pub length_all : length all ≡ lc + tc + rc + bc
  length_all =
      let a = length-append (ls ++ ts ++ reverse rs) (reverse us) in
      let b = length-append (ls ++ ts) (reverse rs) in
      let c = length-append ls ts in
      let d = length-reverse rs in
      let e = length-reverse us in
      omega (arith, a, b, c, d, e, length_ls, length_ts, length_rs, length_us)

  length_two : length (ls ++ ts) ≡ lc + tc
  length_two = let c = length-append ls ts in omega (arith, c, length_ls, length_ts)

  length_three : length (ls ++ ts ++ reverse rs) ≡ lc + tc + rc
  length_three =
      let b = length-append (ls ++ ts) (reverse rs) in
      let d = length-reverse rs in
      omega (arith, b, d, length_two, length_rs)

  pub at_left : (i : ℕ) → i < lc → get_or all i (0, 0) ≡ (0, lf + i)
  at_left i h =
      get_or_append_left (ls ++ ts ++ reverse rs) (reverse us) (0, 0) i (omega (arith, length_three))
      ∙ get_or_append_left (ls ++ ts) (reverse rs) (0, 0) i (omega (arith, length_two))
      ∙ get_or_append_left ls ts (0, 0) i (omega (arith, length_ls))
      ∙ get_or-map-range_with_len (λ i. (0, i)) lf lc i (lf + i) (0, 0) h refl

  pub at_top : (i : ℕ) → lc ≤ i → i < lc + tc → get_or all i (0, 0) ≡ (tf + (i - lc), ny + 1)
  at_top i ge h =
      get_or_append_left (ls ++ ts ++ reverse rs) (reverse us) (0, 0) i (omega (arith, length_three))
      ∙ get_or_append_left (ls ++ ts) (reverse rs) (0, 0) i (omega (arith, length_two))
      ∙ get_or-append_right ls ts lc i (0, 0) length_ls ge
      ∙ get_or-map-range_with_len (λ i. (i, ny + 1)) tf tc (i - lc) (tf + (i - lc)) (0, 0) (omega arith) refl

  pub at_right : (i : ℕ) → lc + tc ≤ i → i < lc + tc + rc → get_or all i (0, 0) ≡ (nx + 1, rf + (lc + tc + rc - 1 - i))
  at_right i ge h =
      let back = length-reverse rs in
      let j = lc + tc + rc - 1 - i in
      let turn : length rs - 1 - (i - (lc + tc)) ≡ j = omega (arith, length_rs) in
      get_or_append_left (ls ++ ts ++ reverse rs) (reverse us) (0, 0) i (omega (arith, length_three))
      ∙ get_or-append_right (ls ++ ts) (reverse rs) (lc + tc) i (0, 0) length_two ge
      ∙ get_or-reverse rs (i - (lc + tc)) (0, 0) (omega (arith, length_rs))
      ∙ ap (λ n. get_or rs n (0, 0)) turn
      ∙ get_or-map-range_with_len (λ i. (nx + 1, i)) rf rc j (rf + j) (0, 0) (omega arith) refl

  pub at_bottom : (i : ℕ) → lc + tc + rc ≤ i → i < lc + tc + rc + bc → get_or all i (0, 0) ≡ (bf + (lc + tc + rc + bc - 1 - i), 0)
  at_bottom i ge h =
      let j = lc + tc + rc + bc - 1 - i in
      let turn : length us - 1 - (i - (lc + tc + rc)) ≡ j = omega (arith, length_us) in
      get_or-append_right (ls ++ ts ++ reverse rs) (reverse us) (lc + tc + rc) i (0, 0) length_three ge
      ∙ get_or-reverse us (i - (lc + tc + rc)) (0, 0) (omega (arith, length_us))
      ∙ ap (λ n. get_or us n (0, 0)) turn
      ∙ get_or-map-range_with_len (λ i. (i, 0)) bf bc j (bf + j) (0, 0) (omega arith) refl
