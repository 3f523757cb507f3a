-- The design of the nets with many terminals alone: what holds of a design holds of it.
use Rattle.std.proofs.Common.{◌≡◌, ℕ, ◌+◌, ◌<◌, ◌≤◌, cond, ltb, not, ◌&&◌, ◌||◌, Bool, true, false, List, [], ◌∷◌, map, length, get_or, Option, refl, sym, ap, ◌∙◌, subst, arith, inl, inr}
use Rattle.std.specs.List.{sum_by, filter, range_with_len}
use Rattle.std.proofs.lemmas.Bool.{cases_lt, false≢true, ltb-true, or_right}
use Rattle.std.proofs.lemmas.List.{length-map, get_or-map, get_or_past}
use Rattle.std.proofs.lemmas.List.Elements.{filter_agree}
use Rattle.std.proofs.lemmas.Grind.{get_or_default_zero}
use Rattle.std.proofs.lemmas.List.FromFn.{length-range_with_len, get_or-range_with_len}
use Rattle.fab_arch.specs.declared.array.Site.{Site}
use Rattle.fab_arch.specs.Grid.{GridShape}
use Rattle.fab_net.specs.declared.netlist_types.BlockId.{BlockId}
use Rattle.fab_net.specs.declared.netlist_types.Terminal.{Terminal}
use Rattle.fab_net.specs.Netlist.{Netlist, net_at, nets_of, counted, block_on, has_number, IsLawful}
use Rattle.fab_cost.specs.declared.edge_counts.CountedBox.{CountedBox}
use Rattle.fab_cost.specs.Cost.{cost_of, net_box, net_cost}
use Rattle.fab_cost.specs.Boxes.{Counts}
use Rattle.fab_cost.specs.Changes.{IsChange}
use Rattle.fab_cost.specs.Edges.{counted_box}
use Rattle.fab_cost.specs.Swapping.{HaveBoxes, blocks_of, cost_unless, counted_at, has_block}
use Rattle.fab_cost.specs.Runs.{AreLarge, is_large, large_of, few_all}
use Rattle.fab_cost.proofs.Nets.{entry_counts}
use Rattle.fab_cost.proofs.Steps.{both_sizes, filters_commute}

pub filter_both : (p q : ℕ → Bool) (ns : List ℕ) → filter p (filter q ns) ≡ filter (λ n. q n && p n) ns
filter_both p q [] = refl
filter_both p q (n ∷ ns) =
    let rest = filter_both p q ns in
    elim (q n) as (λ b. filter p (cond b (n ∷ filter q ns) (filter q ns)) ≡ cond (b && p n) (n ∷ filter (λ n. q n && p n) ns) (filter (λ n. q n && p n) ns)) [ true ↦ ap (λ v. cond (p n) (n ∷ v) v) rest | false ↦ rest ]

abbrev marked : Netlist → ℕ → Bool
marked d n = not (is_large d n) || (net_at d n).global

global_at : (d : Netlist) (n : ℕ) → (net_at (large_of d) n).global ≡ marked d n
global_at d n = elim (cases_lt n (length d.terminals)) [
  | inl l ↦
      (let e = length-range_with_len 0 (length d.terminals) in
      get_or-map (marked d) (range_with_len 0 (length d.terminals)) n 0 true (omega (arith, l, e)) ∙ ap (marked d) (get_or-range_with_len 0 (length d.terminals) n 0 l ∙ (let z : 0 + n ≡ n = omega arith in z)))
  | inr h ↦
      (let e = length-range_with_len 0 (length d.terminals) in
      let m = length-map (range_with_len 0 (length d.terminals)) (marked d) in
      get_or_past (map (marked d) (range_with_len 0 (length d.terminals))) n true (omega (arith, h, e, m))
      ∙ sym (ap (λ (ts : List Terminal). not (ltb 16 (length (map block_on ts))) || (net_at d n).global) (get_or_past d.terminals n [] h)))
]

marked_parts : (a b : Bool) → (not a || b) ≡ false → (a ≡ true) × (b ≡ false)
marked_parts true false e = (refl, refl)
marked_parts true true e = absurd (false≢true (sym e))
marked_parts false b e = absurd (false≢true (sym e))

marked_none : (a b : Bool) → a ≡ true → b ≡ false → (not a || b) ≡ false
marked_none a b e f = (λ i. not (e i) || f i)

pub counts_large : (d : Netlist) (n : ℕ) → Counts d n → is_large d n ≡ true → Counts (large_of d) n
counts_large d n c l = record { within = c.within; counted = global_at d n ∙ marked_none (is_large d n) (net_at d n).global l c.counted }

pub large_counts : (d : Netlist) (n : ℕ) → Counts (large_of d) n → Counts d n × (is_large d n ≡ true)
large_counts d n c =
    let p = marked_parts (is_large d n) (net_at d n).global (sym (global_at d n) ∙ c.counted) in
    (record { within = c.within; counted = p.1 }, p.0)

pub global_large : (d : Netlist) (n : ℕ) → (net_at d n).global ≡ true → (net_at (large_of d) n).global ≡ true
global_large d n e = global_at d n ∙ or_right (not (is_large d n)) (net_at d n).global e

counted_large : (d : Netlist) → counted (large_of d) ≡ filter (is_large d) (counted d)
counted_large d =
    filter_agree (λ n. not (net_at (large_of d) n).global) (λ n. not (net_at d n).global && is_large d n) (λ n. ap not (global_at d n) ∙ not_or (is_large d n) (net_at d n).global) (range_with_len 0 (length d.terminals))
    ∙ sym (filter_both (is_large d) (λ n. not (net_at d n).global) (range_with_len 0 (length d.terminals)))
  where
    not_or : (a b : Bool) → not (not a || b) ≡ (not b && a)
    not_or true true = refl
    not_or true false = refl
    not_or false true = refl
    not_or false false = refl

pub nets_large : (d : Netlist) (b : ℕ) → nets_of (large_of d) b ≡ filter (is_large d) (nets_of d b)
nets_large d b = ap (filter (λ n. has_number b (blocks_of d n))) (counted_large d) ∙ filters_commute (λ n. has_number b (blocks_of d n)) (is_large d) (counted d)

pub lawful_large : (d : Netlist) → IsLawful d → IsLawful (large_of d)
lawful_large d is = record {
  few_blocks = is.few_blocks;
  few_nets = is.few_nets;
  few_terminals = is.few_terminals;
  named = is.named;
  distinct = is.distinct;
  words = is.words;
  told = length-map (range_with_len 0 (length d.terminals)) (marked d) ∙ length-range_with_len 0 (length d.terminals);
  some_terminal = is.some_terminal;
  within = is.within;
}

pub box_large : (d : Netlist) (g : GridShape) (sites : List Site) (n : ℕ) → counted_box (large_of d) g sites n ≡ counted_box d g sites n
unfolding counted_box
box_large d g sites n = refl

cost_large : (d : Netlist) (g : GridShape) (sites : List Site) (n : ℕ) → net_cost (large_of d) g sites n ≡ net_cost d g sites n
unfolding net_cost net_box
cost_large d g sites n = refl

pub unless_large : (d : Netlist) (g : GridShape) (sites : List Site) (but : Option BlockId) (n : ℕ) → cost_unless (large_of d) g sites but n ≡ cost_unless d g sites but n
unfolding cost_unless
unless_large d g sites but n = ap (λ v. cond (has_block but (blocks_of d n)) 0 v) (cost_large d g sites n)

pub change_large : (d : Netlist) (g : GridShape) (before after : List Site) (but : Option BlockId) (n m gained lost : ℕ) → n ≡ m → IsChange (cost_unless d g before but n) (cost_unless d g after but n) gained lost → IsChange (cost_unless (large_of d) g before but m) (cost_unless (large_of d) g after but m) gained lost
change_large d g before after but n m gained lost e c =
    let a : cost_unless (large_of d) g before but m ≡ cost_unless d g before but n = unless_large d g before but m ∙ ap (cost_unless d g before but) (sym e) in
    let b : cost_unless (large_of d) g after but m ≡ cost_unless d g after but n = unless_large d g after but m ∙ ap (cost_unless d g after but) (sym e) in
    let x = c.balance in
    let y = c.gained_within in
    let z = c.lost_within in
    record { balance = omega (arith, a, b, x); gained_within = omega (arith, b, y); lost_within = omega (arith, a, z) }

large_sum : (d : Netlist) (g : GridShape) (sites : List Site) → cost_of (large_of d) g sites ≡ sum_by (net_cost d g sites) (filter (is_large d) (counted d))
unfolding cost_of
large_sum d g sites = λ i. sum_by (λ n. cost_large d g sites n i) (counted_large d i)

pub both_large : (d : Netlist) (g : GridShape) (sites : List Site) → cost_of (large_of d) g sites + few_all d g sites ≡ cost_of d g sites
both_large d g sites = ap (λ v. v + few_all d g sites) (large_sum d g sites) ∙ both_sizes d g sites

-- the places of large nets among a block's nets

pub row_long : (d : Netlist) (b : ℕ) (row : List ℕ) → AreLarge d b row → length row ≡ length (nets_of (large_of d) b)
row_long d b row are = sym (length-map row (λ i. get_or (nets_of d b) i 0)) ∙ ap length (are.nets ∙ sym (nets_large d b))

pub row_net : (d : Netlist) (b : ℕ) (row : List ℕ) (k i z : ℕ) → AreLarge d b row → k < length row → i ≡ get_or row k z → get_or (nets_of d b) i 0 ≡ get_or (nets_of (large_of d) b) k 0
row_net d b row k i z are h e =
    ap (λ v. get_or (nets_of d b) v 0) e ∙ sym (get_or-map (λ i. get_or (nets_of d b) i 0) row k z 0 h) ∙ ap (λ v. get_or v k 0) (are.nets ∙ sym (nets_large d b))

pub row_within : (d : Netlist) (b : ℕ) (row : List ℕ) (k i z : ℕ) → AreLarge d b row → k < length row → i ≡ get_or row k z → i < length (nets_of d b)
row_within d b row k i z are h e =
    let w = are.within k h in
    let q : i ≡ get_or row k 0 = e ∙ get_or_default_zero row k z h in
    omega (arith, w, q)

pub row_counts : (d : Netlist) (b : ℕ) (row : List ℕ) (k i z n : ℕ) → AreLarge d b row → k < length row → i ≡ get_or row k z → n ≡ get_or (nets_of d b) i 0 → Counts (large_of d) n
row_counts d b row k i z n are h e en = (entry_counts (large_of d) b k n (subst (λ v. k < v) (row_long d b row are) h) (en ∙ row_net d b row k i z are h e)).0

-- the kept box of a net
pub kept_is : (boxes : List CountedBox) (d : Netlist) (g : GridShape) (sites : List Site) (n : ℕ) (b : CountedBox) → HaveBoxes boxes (large_of d) g sites → Counts (large_of d) n → b ≡ counted_at boxes n → b ≡ counted_box d g sites n
kept_is boxes d g sites n b have c e = e ∙ have.each n c ∙ box_large d g sites n

pub not_large : (d : Netlist) (n : ℕ) (ts : List Terminal) → ts ≡ get_or d.terminals n [] → length ts ≤ 16 → Counts (large_of d) n → ⊥
not_large d n ts e h c =
    let l : length ts ≡ length (blocks_of d n) = ap length e ∙ sym (length-map (get_or d.terminals n []) block_on) in
    let t : 16 < length (blocks_of d n) = ltb-true 16 (length (blocks_of d n)) (large_counts d n c).1 in
    omega (arith, l, t, h)

-- the whole change, by size
pub change_both : (d : Netlist) (g : GridShape) (before after : List Site) (gained lost more less : ℕ) → few_all d g after + lost ≡ few_all d g before + gained → cost_of (large_of d) g after + less ≡ cost_of (large_of d) g before + more → cost_of d g after + (lost + less) ≡ cost_of d g before + (gained + more)
change_both d g before after gained lost more less few many = omega (arith, few, many, both_large d g before, both_large d g after)
