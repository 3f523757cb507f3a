-- The nets of a block by size, and what a swap makes of them all.
use Rattle.std.proofs.Common.{◌≡◌, ℕ, zero, suc, ◌+◌, ◌*◌, ◌<◌, ◌≤◌, ◌^◌, cond, ltb, leb, not, ◌&&◌, Bool, true, false, List, [], ◌∷◌, ◌++◌, map, take, length, set, Option, Some, None, refl, sym, ap, ◌∙◌, subst, arith, inl, inr, get_or-set_other, length-set, length-append}
use Rattle.std.specs.List.{sum_by, filter, All, range_with_len}
use Rattle.std.proofs.lemmas.Bool.{cases_Bool, leb-true}
use Rattle.std.proofs.lemmas.Bool.Decides.{nat_tests}
use Rattle.std.proofs.lemmas.List.{length-map, take_all, take_more, map-append}
use Rattle.std.proofs.lemmas.List.Filters.{sum_by-filter_both}
use Rattle.std.proofs.lemmas.List.FromFn.{length-range_with_len}
use Rattle.fab_arch.specs.declared.array.Site.{Site}
use Rattle.fab_arch.specs.Grid.{GridShape}
use Rattle.fab_net.specs.declared.netlist_types.BlockId.{BlockId}
use Rattle.fab_net.specs.Netlist.{Netlist, net_at, nets_of, counted, has_number, IsLawful}
use Rattle.fab_site.specs.declared.placement_types.Swap.{Swap}
use Rattle.fab_site.specs.Placement.{nowhere, site_of, swapped, with_other, IsSwapOf}
use Rattle.fab_site.proofs.Swapping.{ready}
use Rattle.fab_cost.specs.Cost.{net_box, net_cost, cost_of, cross_of}
use Rattle.fab_cost.specs.Swapping.{blocks_of}
use Rattle.fab_cost.specs.declared.records.Record.{Record}
use Rattle.fab_cost.specs.Runs.{AreLanes, AreSeen, lanes_at, lanes_in, weight, table_of, seen_in, is_sized, is_large, nets_between, few_cost, few_all, no_lanes, AreRecords, AreWithin, IsStep}
use Rattle.fab_cost.proofs.Bounds.{AreSides}
use Rattle.fab_cost.proofs.Sited.{other_within, other_is_apart}
use Rattle.fab_cost.proofs.Changes.{half_of_one}
use Rattle.fab_cost.proofs.Split.{sum_filter, split_one, cost_kept}
use Rattle.fab_cost.proofs.Hulls.{clip_le, seen_is, unseen, run_step}

abbrev is_alone : Netlist → ℕ → Bool
is_alone d n = leb (length (blocks_of d n)) 1

pick : (l x : ℕ) → cond (not (ltb 16 l)) x 0 ≡ cond (leb l 1) x 0 + (cond (ltb 1 l && leb l 4) x 0 + (cond (ltb 4 l && leb l 8) x 0 + cond (ltb 8 l && leb l 16) x 0))
pick l x = grind (arith, nat_tests)

sizes : (f : ℕ → ℕ) (d : Netlist) (ns : List ℕ) → sum_by f (filter (λ n. not (is_large d n)) ns) ≡ sum_by f (filter (is_alone d) ns) + (sum_by f (filter (is_sized d 1 4) ns) + (sum_by f (filter (is_sized d 4 8) ns) + sum_by f (filter (is_sized d 8 16) ns)))
sizes f d [] = refl
sizes f d (n ∷ ns) =
    let a = sum_filter (λ n. not (is_large d n)) f n ns in
    let b = sum_filter (is_alone d) f n ns in
    let c = sum_filter (is_sized d 1 4) f n ns in
    let e = sum_filter (is_sized d 4 8) f n ns in
    let h = sum_filter (is_sized d 8 16) f n ns in
    let p = pick (length (blocks_of d n)) (f n) in
    omega (arith, sizes f d ns, a, b, c, e, h, p)

one_cost : (d : Netlist) (g : GridShape) (before after : List Site) (n : ℕ) → length (blocks_of d n) ≤ 1 → net_cost d g after n ≡ net_cost d g before n
unfolding net_cost net_box
one_cost d g before after n few = ap (λ v. cross_of (length (blocks_of d n)) * v) (half_of_one g (site_of after) (site_of before) (blocks_of d n) few)

-- nets of one terminal cost the same wherever it stands
alone_cost : (d : Netlist) (g : GridShape) (before after : List Site) (ns : List ℕ) → sum_by (net_cost d g after) (filter (is_alone d) ns) ≡ sum_by (net_cost d g before) (filter (is_alone d) ns)
alone_cost d g before after [] = refl
alone_cost d g before after (n ∷ ns) =
    let a = sum_filter (is_alone d) (net_cost d g after) n ns in
    let b = sum_filter (is_alone d) (net_cost d g before) n ns in
    let c : cond (is_alone d n) (net_cost d g after n) 0 ≡ cond (is_alone d n) (net_cost d g before n) 0 = elim (cases_Bool (is_alone d n)) [
      | inl t ↦ ap (λ v. cond (is_alone d n) v 0) (one_cost d g before after n (leb-true (length (blocks_of d n)) 1 t))
      | inr f ↦ (λ i. cond (f i) (net_cost d g after n) 0) ∙ (λ i. cond (sym f i) (net_cost d g before n) 0)
    ] in
    omega (arith, alone_cost d g before after ns, a, b, c)

filter_few : (p : ℕ → Bool) (ns : List ℕ) → length (filter p ns) ≤ length ns
filter_few p [] = omega arith
filter_few p (n ∷ ns) = elim (p n) as (λ b. length (cond b (n ∷ filter p ns) (filter p ns)) ≤ length (n ∷ ns)) [ true ↦ omega (arith, filter_few p ns) | false ↦ omega (arith, filter_few p ns) ]

pub nets_few : (d : Netlist) (b : ℕ) → IsLawful d → length (nets_of d b) ≤ 65535
nets_few d b is =
    let a = filter_few (λ n. has_number b (blocks_of d n)) (counted d) in
    let c = filter_few (λ n. not (net_at d n).global) (range_with_len 0 (length d.terminals)) in
    let e : length (range_with_len 0 (length d.terminals)) ≡ length d.terminals = length-range_with_len 0 (length d.terminals) in
    omega (arith, a, c, e, is.few_nets)

pub rows_few : {W : ℕ} (d : Netlist) (b above most : ℕ) (rs row : List (Record W)) → IsLawful d → AreRecords d b (nets_between d above most b) rs → row ≡ rs → length row < 2 ^ 17
rows_few {W = W} d b above most rs row is are e =
    let l = are.long in
    omega (arith, l, ap length e, filter_few (is_sized d above most) (nets_of d b), nets_few d b is)

pub rows_within : {W : ℕ} (d : Netlist) (b k above most : ℕ) (rs row : List (Record W)) → AreRecords d b (nets_between d above most b) rs → row ≡ rs → k ≡ length d.kinds + 1 → All (AreWithin {W = W} k) row
rows_within {W = W} d b k above most rs row are e ek = subst (λ v. All (AreWithin {W = W} k) v) (sym e) (λ i z h j l. let l0 = are.long in let w = (are.each i z (omega (arith, h, l0))).within j l in omega (arith, w, ek))

-- what the records of a block's nets of one size bring
run_change : {W : ℕ} (d : Netlist) (g : GridShape) (sites : List Site) (b above most : ℕ) (s t : Site) (f : ℕ → List ℕ) (rs row : List (Record W)) (gained lost : ℕ)
    → IsLawful d → AreSides g → length d.kinds ≡ length sites → b < length sites → f ≡ lanes_in g sites → AreRecords d b (nets_between d above most b) rs → row ≡ rs
    → gained + sum_by (weight {W = W} f (lanes_at g t)) row ≡ lost + sum_by (weight {W = W} f (lanes_at g s)) row
    → sum_by (net_cost d g (set sites b t)) (nets_between d above most b) + lost ≡ sum_by (net_cost d g (set sites b s)) (nets_between d above most b) + gained
run_change {W = W} d g sites b above most s t f rs row gained lost is sides w lb ef are er h =
    let x = run_step {W = W} d g sites b s t is sides w lb (nets_between d above most b) rs are f ef _ _ refl refl in
    let p = ap (λ v. sum_by (weight {W = W} f (lanes_at g s)) v) er in
    let q = ap (λ v. sum_by (weight {W = W} f (lanes_at g t)) v) er in
    omega (arith, x, p, q, h)

pub few_step : (d : Netlist) (g : GridShape) (sites : List Site) (b : ℕ) (s t : Site) (f : ℕ → List ℕ) (r1 q1 : List (Record 3)) (r2 q2 : List (Record 7)) (r3 q3 : List (Record 15)) (g1 l1 g2 l2 g3 l3 gained lost : ℕ)
    → IsLawful d → (1 ≤ g.nx) × (g.nx ≤ 1000) → (1 ≤ g.ny) × (g.ny ≤ 1000) → length d.kinds ≡ length sites → b < length d.kinds → f ≡ lanes_in g sites
    → AreRecords d b (nets_between d 1 4 b) r1 → AreRecords d b (nets_between d 4 8 b) r2 → AreRecords d b (nets_between d 8 16 b) r3
    → q1 ≡ r1 → q2 ≡ r2 → q3 ≡ r3
    → g1 + sum_by (weight f (lanes_at g t)) q1 ≡ l1 + sum_by (weight f (lanes_at g s)) q1
    → g2 + sum_by (weight f (lanes_at g t)) q2 ≡ l2 + sum_by (weight f (lanes_at g s)) q2
    → g3 + sum_by (weight f (lanes_at g t)) q3 ≡ l3 + sum_by (weight f (lanes_at g s)) q3
    → gained ≡ g1 + (g2 + g3) → lost ≡ l1 + (l2 + l3) → gained < 2 ^ 48 → lost < 2 ^ 48
    → IsStep (few_cost d g (set sites b s) (nets_of d b)) (few_cost d g (set sites b t) (nets_of d b)) gained lost
few_step d g sites b s t f r1 q1 r2 q2 r3 q3 g1 l1 g2 l2 g3 l3 gained lost is cx cy w lb ef a1 a2 a3 e1 e2 e3 h1 h2 h3 eg el fg fl =
    let sides : AreSides g = record { columns = cx; rows = cy } in
    let wb : b < length sites = omega (arith, lb, w) in
    let x1 = run_change {W = 3} d g sites b 1 4 s t f r1 q1 g1 l1 is sides w wb ef a1 e1 h1 in
    let x2 = run_change {W = 7} d g sites b 4 8 s t f r2 q2 g2 l2 is sides w wb ef a2 e2 h2 in
    let x3 = run_change {W = 15} d g sites b 8 16 s t f r3 q3 g3 l3 is sides w wb ef a3 e3 h3 in
    let z = alone_cost d g (set sites b s) (set sites b t) (nets_of d b) in
    let p = sizes (net_cost d g (set sites b s)) d (nets_of d b) in
    let q = sizes (net_cost d g (set sites b t)) d (nets_of d b) in
    record { balance = omega (arith, x1, x2, x3, z, p, q, eg, el); gained_few = fg; lost_few = fl }

pub lanes_low : (g : GridShape) (s : Site) (v : List ℕ) → v ≡ lanes_at g s → (1 ≤ g.nx) × (g.nx ≤ 1000) → (1 ≤ g.ny) × (g.ny ≤ 1000) → AreLanes v
lanes_low g s v e cx cy =
    let x = clip_le g.nx s.x cx.0 cx.1 in
    let y = clip_le g.ny s.y cy.0 cy.1 in
    subst AreLanes (sym e) (record { four = refl; low = (omega (arith, x), (omega (arith, x), (omega (arith, y), (omega (arith, y), tt)))) })

-- nothing is seen at another place, or one block is
pub seen_plain : (g : GridShape) (sites : List Site) (table : List (List ℕ)) (moved : ℕ) (to : List ℕ) → length sites ≤ moved → to ≡ no_lanes → table ≡ table_of g sites → AreSeen g sites table moved to
seen_plain g sites table moved to far et e = record { each = λ k. (λ i. seen_in (e i) moved (et i) k) ∙ unseen g sites moved k far }

pub seen_moved : (g k : GridShape) (sites : List Site) (s : Swap) (table : List (List ℕ)) (to : List ℕ) → IsSwapOf k sites s → to ≡ lanes_at g s.to → table ≡ table_of g sites → AreSeen g (set sites s.block.0 s.to) table s.block.0 to
seen_moved g k sites s table to is et e = record { each = λ j. (λ i. seen_in (e i) s.block.0 (et i) j) ∙ seen_is g sites s.block.0 s.to j (ready k sites s is).within }

pub table_long : (g : GridShape) (sites : List Site) (n : ℕ) (table : List (List ℕ)) → n ≡ length sites → table ≡ table_of g sites → length table ≡ n + 1
table_long g sites n table w e = omega (arith, ap length e, length-append (map (lanes_at g) sites) (no_lanes ∷ []), length-map sites (lanes_at g), w)

-- the whole sum, by size and by step

pub filters_commute : (p q : ℕ → Bool) (ns : List ℕ) → filter p (filter q ns) ≡ filter q (filter p ns)
filters_commute p q [] = refl
filters_commute p q (n ∷ ns) = elim (cases_Bool (p n)) [
  | inl tp ↦ elim (cases_Bool (q n)) [
    | inl tq ↦
        ap (filter p) (λ i. cond (tq i) (n ∷ filter q ns) (filter q ns)) ∙ (λ i. cond (tp i) (n ∷ filter p (filter q ns)) (filter p (filter q ns))) ∙ ap (λ v. n ∷ v) (filters_commute p q ns)
        ∙ sym (ap (filter q) (λ i. cond (tp i) (n ∷ filter p ns) (filter p ns)) ∙ (λ i. cond (tq i) (n ∷ filter q (filter p ns)) (filter q (filter p ns))))
    | inr fq ↦
        ap (filter p) (λ i. cond (fq i) (n ∷ filter q ns) (filter q ns)) ∙ filters_commute p q ns
        ∙ sym (ap (filter q) (λ i. cond (tp i) (n ∷ filter p ns) (filter p ns)) ∙ (λ i. cond (fq i) (n ∷ filter q (filter p ns)) (filter q (filter p ns))))
  ]
  | inr fp ↦ elim (cases_Bool (q n)) [
    | inl tq ↦
        ap (filter p) (λ i. cond (tq i) (n ∷ filter q ns) (filter q ns)) ∙ (λ i. cond (fp i) (n ∷ filter p (filter q ns)) (filter p (filter q ns))) ∙ filters_commute p q ns
        ∙ sym (ap (filter q) (λ i. cond (fp i) (n ∷ filter p ns) (filter p ns)))
    | inr fq ↦
        ap (filter p) (λ i. cond (fq i) (n ∷ filter q ns) (filter q ns)) ∙ filters_commute p q ns
        ∙ sym (ap (filter q) (λ i. cond (fp i) (n ∷ filter p ns) (filter p ns)))
  ]
]

pub both_sizes : (d : Netlist) (g : GridShape) (sites : List Site) → sum_by (net_cost d g sites) (filter (is_large d) (counted d)) + few_all d g sites ≡ cost_of d g sites
unfolding cost_of
both_sizes d g sites = sum_by-filter_both (is_large d) (λ n. not (is_large d n)) (λ n. refl) (net_cost d g sites) (counted d)

set_kept : (d : Netlist) (g : GridShape) (sites : List Site) (b : ℕ) (x : Site) (n : ℕ) → has_number b (blocks_of d n) ≡ false → net_cost d g (set sites b x) n ≡ net_cost d g sites n
set_kept d g sites b x n f = cost_kept d g sites (record { block = record { 0 = b }; from = x; to = x; other = None }) n f refl

-- one block goes, all others stay
few_moved : (d : Netlist) (g : GridShape) (sites : List Site) (b : ℕ) (x y : Site) (gained lost : ℕ) → IsStep (few_cost d g (set sites b x) (nets_of d b)) (few_cost d g (set sites b y) (nets_of d b)) gained lost
    → few_all d g (set sites b y) + lost ≡ few_all d g (set sites b x) + gained
few_moved d g sites b x y gained lost step =
    let few : ℕ → Bool = λ n. not (is_large d n) in
    let on : ℕ → Bool = λ n. has_number b (blocks_of d n) in
    let f : ℕ → ℕ = net_cost d g (set sites b y) in
    let h : ℕ → ℕ = net_cost d g (set sites b x) in
    let k = split_one on f h (λ n e. set_kept d g sites b y n e ∙ sym (set_kept d g sites b x n e)) (filter few (counted d)) in
    let p : sum_by f (filter few (nets_of d b)) ≡ sum_by f (filter on (filter few (counted d))) = ap (sum_by f) (filters_commute few on (counted d)) in
    let q : sum_by h (filter few (nets_of d b)) ≡ sum_by h (filter on (filter few (counted d))) = ap (sum_by h) (filters_commute few on (counted d)) in
    let s = step.balance in
    omega (arith, k, p, q, s)

set_same : (sites : List Site) (b : ℕ) (x : Site) → b < length sites → site_of sites b ≡ x → set sites b x ≡ sites
set_same [] b x h e = refl
set_same (s ∷ sites) zero x h e = λ i. sym e i ∷ sites
set_same (s ∷ sites) (suc b) x h e = ap (λ v. s ∷ v) (set_same sites b x (omega arith) e)

-- the first block goes
few_first : (d : Netlist) (g k : GridShape) (sites : List Site) (s : Swap) (gained lost : ℕ) → IsSwapOf k sites s
    → IsStep (few_cost d g (set sites s.block.0 s.from) (nets_of d s.block.0)) (few_cost d g (set sites s.block.0 s.to) (nets_of d s.block.0)) gained lost
    → few_all d g (set sites s.block.0 s.to) + lost ≡ few_all d g sites + gained
few_first d g k sites s gained lost is step =
    let r = ready k sites s is in
    let a = few_moved d g sites s.block.0 s.from s.to gained lost step in
    let q : few_all d g (set sites s.block.0 s.from) ≡ few_all d g sites = ap (few_all d g) (set_same sites s.block.0 s.from r.within r.stands) in
    omega (arith, a, q)

with_is : (sites : List Site) (o : Option BlockId) (c : BlockId) (x : Site) → o ≡ Some c → with_other sites o x ≡ set sites c.0 x
with_is sites o c x e = ap (λ v. with_other sites v x) e

-- then the other, where the first is seen at its new site
few_second : (d : Netlist) (g k : GridShape) (sites : List Site) (s : Swap) (c : BlockId) (gained lost : ℕ) → IsSwapOf k sites s → s.other ≡ Some c
    → IsStep (few_cost d g (set (set sites s.block.0 s.to) c.0 s.to) (nets_of d c.0)) (few_cost d g (set (set sites s.block.0 s.to) c.0 s.from) (nets_of d c.0)) gained lost
    → few_all d g (swapped sites s) + lost ≡ few_all d g (set sites s.block.0 s.to) + gained
few_second d g k sites s c gained lost is o step =
    let w = other_within k sites s c is o in
    let a = few_moved d g (set sites s.block.0 s.to) c.0 s.to s.from gained lost step in
    let l : c.0 < length (set sites s.block.0 s.to) = let e = length-set sites s.block.0 s.to in let v = w.0 in omega (arith, v, e) in
    let at : site_of (set sites s.block.0 s.to) c.0 ≡ s.to = get_or-set_other sites s.block.0 c.0 s.to nowhere (other_is_apart k sites s c is o) ∙ w.1 in
    let p : few_all d g (set (set sites s.block.0 s.to) c.0 s.to) ≡ few_all d g (set sites s.block.0 s.to) = ap (few_all d g) (set_same (set sites s.block.0 s.to) c.0 s.to l at) in
    let q : few_all d g (swapped sites s) ≡ few_all d g (set (set sites s.block.0 s.to) c.0 s.from) = ap (few_all d g) (with_is (set sites s.block.0 s.to) s.other c s.from o) in
    omega (arith, a, p, q)

pub few_none : (d : Netlist) (g k : GridShape) (sites : List Site) (s : Swap) (gained lost : ℕ) → IsSwapOf k sites s → s.other ≡ None
    → IsStep (few_cost d g (set sites s.block.0 s.from) (nets_of d s.block.0)) (few_cost d g (set sites s.block.0 s.to) (nets_of d s.block.0)) gained lost
    → few_all d g (swapped sites s) + lost ≡ few_all d g sites + gained
few_none d g k sites s gained lost is o step =
    let a = few_first d g k sites s gained lost is step in
    let q : few_all d g (swapped sites s) ≡ few_all d g (set sites s.block.0 s.to) = ap (λ v. few_all d g (with_other (set sites s.block.0 s.to) v s.from)) o in
    omega (arith, a, q)

pub few_some : (d : Netlist) (g k : GridShape) (sites : List Site) (s : Swap) (c : BlockId) (gained lost won gone : ℕ) → IsSwapOf k sites s → s.other ≡ Some c
    → IsStep (few_cost d g (set sites s.block.0 s.from) (nets_of d s.block.0)) (few_cost d g (set sites s.block.0 s.to) (nets_of d s.block.0)) gained lost
    → IsStep (few_cost d g (set (set sites s.block.0 s.to) c.0 s.to) (nets_of d c.0)) (few_cost d g (set (set sites s.block.0 s.to) c.0 s.from) (nets_of d c.0)) won gone
    → few_all d g (swapped sites s) + (lost + gone) ≡ few_all d g sites + (gained + won)
few_some d g k sites s c gained lost won gone is o step next = omega (arith, few_first d g k sites s gained lost is step, few_second d g k sites s c won gone is o next)

-- the table after a swap

table_set : (g : GridShape) (sites : List Site) (a : ℕ) (x : Site) → a < length sites → set (table_of g sites) a (lanes_at g x) ≡ table_of g (set sites a x)
table_set g [] a x h = absurd (omega arith)
table_set g (s ∷ sites) zero x h = refl
table_set g (s ∷ sites) (suc a) x h = ap (λ v. lanes_at g s ∷ v) (table_set g sites a x (omega arith))

pub table_first : (g k : GridShape) (sites : List Site) (s : Swap) (table new : List (List ℕ)) (v : List ℕ) → IsSwapOf k sites s → table ≡ table_of g sites → v ≡ lanes_at g s.to → new ≡ set table s.block.0 v → new ≡ table_of g (set sites s.block.0 s.to)
table_first g k sites s table new v is e ev en = en ∙ (λ i. set (e i) s.block.0 (ev i)) ∙ table_set g sites s.block.0 s.to (ready k sites s is).within

pub table_none : (g k : GridShape) (sites : List Site) (s : Swap) (table new : List (List ℕ)) (v : List ℕ) → IsSwapOf k sites s → s.other ≡ None → table ≡ table_of g sites → v ≡ lanes_at g s.to → new ≡ set table s.block.0 v → new ≡ table_of g (swapped sites s)
table_none g k sites s table new v is o e ev en = table_first g k sites s table new v is e ev en ∙ ap (λ w. table_of g (with_other (set sites s.block.0 s.to) w s.from)) (sym o)

pub table_some : (g k : GridShape) (sites : List Site) (s : Swap) (c : BlockId) (table mid new : List (List ℕ)) (v w : List ℕ) → IsSwapOf k sites s → s.other ≡ Some c → table ≡ table_of g sites → v ≡ lanes_at g s.to → w ≡ lanes_at g s.from
    → mid ≡ set table s.block.0 v → new ≡ set mid c.0 w → new ≡ table_of g (swapped sites s)
table_some g k sites s c table mid new v w is o e ev ew em en =
    let l : c.0 < length (set sites s.block.0 s.to) = (let e0 = length-set sites s.block.0 s.to in let v0 = (other_within k sites s c is o).0 in omega (arith, v0, e0)) in
    en ∙ (λ i. set (table_first g k sites s table mid v is e ev em i) c.0 (ew i)) ∙ table_set g (set sites s.block.0 s.to) c.0 s.from l
    ∙ ap (table_of g) (sym (with_is (set sites s.block.0 s.to) s.other c s.from o))

-- the table while it is made

pub table_start : (g : GridShape) (sites : List Site) → [] ≡ map (lanes_at g) (take 0 sites)
table_start g sites = refl

pub table_more : (g : GridShape) (sites : List Site) (k : ℕ) (x : Site) (table new : List (List ℕ)) (v : List ℕ) → k < length sites → table ≡ map (lanes_at g) (take k sites) → x ≡ site_of sites k → v ≡ lanes_at g x → new ≡ table ++ v ∷ [] → new ≡ map (lanes_at g) (take (k + 1) sites)
table_more g sites k x table new v h et ex ev en =
    en ∙ (λ i. et i ++ (ev ∙ ap (lanes_at g) ex) i ∷ []) ∙ sym (ap (map (lanes_at g)) (take_more sites k nowhere h) ∙ map-append (lanes_at g) (take k sites) (site_of sites k ∷ []))

pub table_done : (g : GridShape) (sites : List Site) (k : ℕ) (table new : List (List ℕ)) (v : List ℕ) → length sites ≤ k → table ≡ map (lanes_at g) (take k sites) → v ≡ no_lanes → new ≡ table ++ v ∷ [] → new ≡ table_of g sites
table_done g sites k table new v h et ev en = en ∙ (λ i. (et ∙ ap (map (lanes_at g)) (take_all k sites h)) i ++ ev i ∷ [])
