-- The design of the nets with few terminals alone, and a change of cost as one by these nets and one by all others.
use Rattle.std.proofs.Common.{◌≡◌, ℕ, zero, suc, pos, ◌+ℤ◌, ◌-ℤ◌, ◌+◌, ◌^◌, ◌<◌, w64, unsigned_abs, FitsSigned, cond, not, ◌&&◌, ◌||◌, Bool, true, false, List, ◌∷◌, length, refl, sym, ap, ◌∙◌, arith}
use Rattle.std.specs.List.{sum_by, filter, range_with_len}
use Rattle.std.proofs.lemmas.Int.{fits_signed_from_abs, ints}
use Rattle.std.proofs.lemmas.List.{get_or-map}
use Rattle.std.proofs.lemmas.List.FromFn.{length-range_with_len, get_or-range_with_len}
use Rattle.fab_arch.specs.declared.array.Site.{Site}
use Rattle.fab_arch.specs.Grid.{GridShape}
use Rattle.fab_net.specs.Netlist.{Netlist, net_at, nets_of, counted, has_number}
use Rattle.fab_site.specs.declared.placement_types.Swap.{Swap}
use Rattle.fab_site.specs.Placement.{swapped}
use Rattle.fab_cost.specs.Cost.{cost_of, net_box, net_cost}
use Rattle.fab_cost.specs.Swapping.{blocks_of, change}
use Rattle.fab_cost.specs.Runs.{is_large, large_of, few_of, few_all}
use Rattle.fab_cost.proofs.Large.{both_large, filter_both}
use Rattle.fab_cost.proofs.Steps.{filters_commute}

abbrev unmarked : Netlist → ℕ → Bool
unmarked d n = is_large d n || (net_at d n).global

global_at : (d : Netlist) (n : ℕ) → n < length d.terminals → (net_at (few_of d) n).global ≡ unmarked d n
global_at d n l =
    let e = length-range_with_len 0 (length d.terminals) in
    get_or-map (unmarked d) (range_with_len 0 (length d.terminals)) n 0 true (omega (arith, l, e))
    ∙ ap (unmarked d) (get_or-range_with_len 0 (length d.terminals) n 0 l ∙ (let z : 0 + n ≡ n = omega arith in z))

-- tests that agree on the numbers of a range leave the same of it
filter_on : (p q : ℕ → Bool) (k n : ℕ) → ((i : ℕ) → i < k + n → p i ≡ q i) → filter p (range_with_len k n) ≡ filter q (range_with_len k n)
filter_on p q k zero same = refl
filter_on p q k (suc n) same =
    let here = same k (omega arith) in
    let rest = filter_on p q (k + 1) n (λ i l. same i (omega (arith, l))) in
    λ j. cond (here j) (k ∷ rest j) (rest j)

counted_few : (d : Netlist) → counted (few_of d) ≡ filter (λ n. not (is_large d n)) (counted d)
counted_few d =
    filter_on (λ n. not (net_at (few_of d) n).global) (λ n. not (net_at d n).global && not (is_large d n)) 0 (length d.terminals) (λ n l. ap not (global_at d n (omega (arith, l))) ∙ not_or (is_large d n) (net_at d n).global)
    ∙ sym (filter_both (λ n. not (is_large d n)) (λ n. not (net_at d n).global) (range_with_len 0 (length d.terminals)))
  where
    not_or : (a b : Bool) → not (a || b) ≡ (not b && not a)
    not_or true true = refl
    not_or true false = refl
    not_or false true = refl
    not_or false false = refl

pub nets_few : (d : Netlist) (b : ℕ) → nets_of (few_of d) b ≡ filter (λ n. not (is_large d n)) (nets_of d b)
nets_few d b =
    ap (filter (λ n. has_number b (blocks_of d n))) (counted_few d)
    ∙ filters_commute (λ n. has_number b (blocks_of d n)) (λ n. not (is_large d n)) (counted d)

cost_few : (d : Netlist) (g : GridShape) (sites : List Site) (n : ℕ) → net_cost (few_of d) g sites n ≡ net_cost d g sites n
unfolding net_cost net_box
cost_few d g sites n = refl

few_sum : (d : Netlist) (g : GridShape) (sites : List Site) → cost_of (few_of d) g sites ≡ few_all d g sites
unfolding cost_of
few_sum d g sites = λ i. sum_by (λ n. cost_few d g sites n i) (counted_few d i)

-- both sizes together
pub both_few : (d : Netlist) (g : GridShape) (sites : List Site) → cost_of (few_of d) g sites + cost_of (large_of d) g sites ≡ cost_of d g sites
both_few d g sites =
    let many = both_large d g sites in
    let few = few_sum d g sites in
    omega (arith, many, few)

pub change_split : (d : Netlist) (g : GridShape) (sites : List Site) (s : Swap) → change d g sites s ≡ change (few_of d) g sites s +ℤ change (large_of d) g sites s
unfolding change
change_split d g sites s =
    let before = both_few d g sites in
    let after = both_few d g (swapped sites s) in
    omega (arith, ints, before, after)

-- what a swap makes of the nets with few terminals
pub few_change_is : (d : Netlist) (g : GridShape) (sites : List Site) (s : Swap) (gained lost : ℕ) → few_all d g (swapped sites s) + lost ≡ few_all d g sites + gained → pos gained -ℤ pos lost ≡ change (few_of d) g sites s
unfolding change
few_change_is d g sites s gained lost h =
    let before = few_sum d g sites in
    let after = few_sum d g (swapped sites s) in
    omega (arith, ints, h, before, after)

-- a change of cost is a number of 64 bits
pub change_fits : (d : Netlist) (g : GridShape) (sites : List Site) (s : Swap) → ((at : List Site) → cost_of d g at < 2 ^ 43) → FitsSigned w64 (change d g sites s)
unfolding change
change_fits d g sites s below =
    let after = below (swapped sites s) in
    let before = below sites in
    fits_signed_from_abs w64 (pos (cost_of d g (swapped sites s)) -ℤ pos (cost_of d g sites)) (abs_less (cost_of d g (swapped sites s)) (cost_of d g sites) after before)
  where
    abs_less : (a b : ℕ) → a < 2 ^ 43 → b < 2 ^ 43 → unsigned_abs (pos a -ℤ pos b) < 2 ^ 63
    abs_less a b h k = omega (arith, ints, h, k)
