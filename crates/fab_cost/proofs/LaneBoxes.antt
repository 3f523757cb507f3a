-- The box of a net by the lanes of its blocks.
use Rattle.std.proofs.Common.{◌≡◌, ◌≢◌, ℕ, ◌+◌, ◌-◌, ◌<◌, ◌≤◌, eqb, true, false, List, [], ◌∷◌, map, take, length, get_or, refl, sym, subst, ap, ◌∙◌, arith}
use Rattle.std.proofs.lemmas.Bool.{eq-eqb, false≢true}
use Rattle.std.proofs.lemmas.Bool.Decides.{nat_tests}
use Rattle.std.proofs.lemmas.List.{get_or-map, get_or_default, length-map, take_all, take-map}
use Rattle.std.proofs.lemmas.Simd.{map-map}
use Rattle.fab_arch.specs.declared.array.Site.{Site}
use Rattle.fab_arch.specs.Grid.{GridShape}
use Rattle.fab_net.specs.declared.netlist_types.BlockId.{BlockId}
use Rattle.fab_net.specs.declared.netlist_types.Terminal.{Terminal}
use Rattle.fab_net.specs.Netlist.{Netlist, block_on, IsLawful}
use Rattle.fab_site.specs.declared.placement_types.Swap.{Swap}
use Rattle.fab_site.specs.Placement.{nowhere, site_of, swapped, IsSwapOf}
use Rattle.fab_site.proofs.Swaps.{length-swapped}
use Rattle.fab_cost.specs.Cost.{Box, clip, least, greatest, xs_of, ys_of, box_on, net_box}
use Rattle.fab_cost.specs.Swapping.{ComesBack, blocks_of}
use Rattle.fab_cost.specs.Runs.{lanes_at, lanes_in, least_among, least_of, no_lanes, table_of}
use Rattle.fab_cost.proofs.Bounds.{AreSides}
use Rattle.fab_cost.proofs.Hulls.{among_four, clip_le, far_within, greatest_low, in_table, lanes_four, least_low, lowest, or_far}
use Rattle.fab_cost.proofs.Kept.{map_each}
use Rattle.fab_cost.proofs.Mins.{least_more}
use Rattle.fab_cost.proofs.Sited.{site_of_moved, site_of_back, site_of_still}
use Rattle.fab_cost.proofs.Steps.{table_long}

-- one block

at_site : (g : GridShape) (sites : List Site) (k : ℕ) (s : Site) → k < length sites → s ≡ site_of sites k → lanes_at g s ≡ lanes_in g sites k
at_site g sites k s h e = ap (lanes_at g) e ∙ sym (get_or-map (lanes_at g) sites k nowhere no_lanes h)

after : (sites : List Site) (s : Swap) (k : ℕ) → k < length sites → k < length (swapped sites s)
after sites s k h = let l = length-swapped sites s in omega (arith, h, l)

same : (b c : BlockId) → true ≡ eqb b.0 c.0 → b ≡ c
same b c t = let e : b.0 ≡ c.0 = grind (arith, nat_tests, t) in λ i. record { 0 = e i }

apart : (b c : BlockId) → false ≡ eqb b.0 c.0 → b ≢ c
apart b c f q = false≢true (f ∙ eq-eqb b.0 c.0 (ap (λ (v : BlockId). v.0) q))

pub moved : (g : GridShape) (sites : List Site) (s : Swap) (b : BlockId) (v : List ℕ) → IsSwapOf g sites s → true ≡ eqb b.0 s.block.0 → v ≡ lanes_at g s.to → b.0 < length sites → v ≡ lanes_in g (swapped sites s) b.0
moved g sites s b v is t ev h = ev ∙ at_site g (swapped sites s) b.0 s.to (after sites s b.0 h) (site_of_moved g sites s b is (same b s.block t))

pub back : (g : GridShape) (sites : List Site) (s : Swap) (b c : BlockId) (v : List ℕ) → IsSwapOf g sites s → ComesBack s.block s.other c → true ≡ eqb b.0 c.0 → false ≡ eqb b.0 s.block.0 → v ≡ lanes_at g s.from → b.0 < length sites → v ≡ lanes_in g (swapped sites s) b.0
back g sites s b c v is cb t f ev h = ev ∙ at_site g (swapped sites s) b.0 s.from (after sites s b.0 h) (site_of_back g sites s b c is cb (same b c t) (apart b s.block f))

pub still : (g : GridShape) (sites : List Site) (s : Swap) (b c : BlockId) (table : List (List ℕ)) (z : List ℕ) → ComesBack s.block s.other c → false ≡ eqb b.0 c.0 → false ≡ eqb b.0 s.block.0 → table ≡ table_of g sites → b.0 < length sites → get_or table b.0 z ≡ lanes_in g (swapped sites s) b.0
still g sites s b c table z cb f one et h =
    let low : b.0 < length table = (let l = table_long g sites (length sites) table refl et in omega (arith, h, l)) in
    get_or_default table b.0 z no_lanes low ∙ ap (λ t. get_or t b.0 no_lanes) et ∙ in_table g sites b.0
    ∙ sym (at_site g sites b.0 (site_of sites b.0) h refl) ∙ at_site g (swapped sites s) b.0 (site_of sites b.0) (after sites s b.0 h) (site_of_still sites s b c cb (apart b c f) (apart b s.block one))

-- the terminals, one by one

pub low : (g : GridShape) (sites : List Site) (table : List (List ℕ)) (k : ℕ) → table ≡ table_of g sites → k < length sites → k < length table
low g sites table k e h = let l = table_long g sites (length sites) table refl e in omega (arith, h, l)

pub none : (f : ℕ → List ℕ) (ts : List Terminal) → no_lanes ≡ least_among f (map block_on (take 0 ts))
none f ts = refl

pub more : (f : ℕ → List ℕ) (ts : List Terminal) (i : ℕ) (z : Terminal) (v w r : List ℕ) → i < length ts → v ≡ least_among f (map block_on (take i ts)) → w ≡ f (get_or ts i z).block.0 → r ≡ least_of v w → r ≡ least_among f (map block_on (take (i + 1) ts))
more f ts i z v w r h ev ew er =
    let l = length-map ts block_on in
    let a : map block_on (take i ts) ≡ take i (map block_on ts) = sym (take-map block_on i ts) in
    let b : map block_on (take (i + 1) ts) ≡ take (i + 1) (map block_on ts) = sym (take-map block_on (i + 1) ts) in
    let e : get_or (map block_on ts) i 0 ≡ (get_or ts i z).block.0 = get_or-map block_on ts i z 0 h in
    least_more f (map block_on ts) i 0 v w r (omega (arith, h, l)) (ev ∙ ap (least_among f) a) (ew ∙ ap f (sym e)) er ∙ ap (least_among f) (sym b)

pub all : (f : ℕ → List ℕ) (ts : List Terminal) (i : ℕ) (v : List ℕ) → length ts ≤ i → v ≡ least_among f (map block_on (take i ts)) → v ≡ least_among f (map block_on ts)
all f ts i v h e = e ∙ ap (λ w. least_among f (map block_on w)) (take_all i ts h)

-- the box

-- the least and the greatest of some numbers, by the lanes of both
record AreEnds (low far : ℕ) (xs : List ℕ) : Type 0 where
  pub least : low ≡ least xs
  pub greatest : 1001 - far ≡ greatest xs
  pub rising : low ≤ 1001 - far

ends : (f : ℕ → ℕ) (ks : List ℕ) → 0 < length ks → ((k : ℕ) → f k ≤ 1000) → AreEnds (lowest (map f ks)) (lowest (map (λ k. 1001 - f k) ks)) (map f ks)
ends f [] some few = absurd (omega arith)
ends f (k ∷ ks) some few =
    let w = few k in
    let a = least_low (f k) f ks (omega arith) in
    let b = greatest_low (f k) f ks w few in
    record { least = omega (arith, w, a); greatest = omega (arith, w, b); rising = omega (arith, w, a, b) }

axis : (h : Site → ℕ) (sites : List Site) (ks : List ℕ) → ((s : Site) → h s ≤ 1000) → 0 < length ks → ((i : ℕ) → i < length ks → get_or ks i 0 < length sites)
    → AreEnds (lowest (map (or_far h sites) ks)) (lowest (map (or_far (λ s. 1001 - h s) sites) ks)) (map h (map (site_of sites) ks))
axis h sites ks few some within =
    let at : ℕ → ℕ = λ k. h (site_of sites k) in
    let a : map (or_far h sites) ks ≡ map at ks = map_each (or_far h sites) at ks (λ i l. far_within h sites (get_or ks i 0) (within i l)) in
    let b : map (or_far (λ s. 1001 - h s) sites) ks ≡ map (λ k. 1001 - at k) ks = map_each (or_far (λ s. 1001 - h s) sites) (λ k. 1001 - at k) ks (λ i l. far_within (λ s. 1001 - h s) sites (get_or ks i 0) (within i l)) in
    let e : map h (map (site_of sites) ks) ≡ map at ks = map-map h (site_of sites) ks in
    let p : AreEnds (lowest (map at ks)) (lowest (map (λ k. 1001 - at k) ks)) (map at ks) = ends at ks some (λ k. few (site_of sites k)) in
    let there : (low far : ℕ) (xs : List ℕ) → low ≡ lowest (map at ks) → far ≡ lowest (map (λ k. 1001 - at k) ks) → xs ≡ map at ks → AreEnds low far xs =
    λ low far xs el ef ex. subst (λ v. AreEnds v far xs) (sym el) (subst (λ v. AreEnds (lowest (map at ks)) v xs) (sym ef) (subst (λ v. AreEnds (lowest (map at ks)) (lowest (map (λ k. 1001 - at k) ks)) v) (sym ex) p)) in
    there (lowest (map (or_far h sites) ks)) (lowest (map (or_far (λ s. 1001 - h s) sites) ks)) (map h (map (site_of sites) ks)) (ap lowest a) (ap lowest b) e

-- a vector is that of a box
pub record IsVectorOf (v : List ℕ) (b : Box) : Type 0 where
  pub is : record { xmin = get_or v 0 0; xmax = 1001 - get_or v 1 0; ymin = get_or v 2 0; ymax = 1001 - get_or v 3 0 } ≡ b
  pub columns : get_or v 0 0 ≤ 1001 - get_or v 1 0
  pub rows : get_or v 2 0 ≤ 1001 - get_or v 3 0

by_lanes : (g : GridShape) (sites : List Site) (ks : List ℕ) (v : List ℕ) → AreSides g → 0 < length ks → ((i : ℕ) → i < length ks → get_or ks i 0 < length sites) → v ≡ least_among (lanes_in g sites) ks → IsVectorOf v (box_on g (map (site_of sites) ks))
unfolding box_on
by_lanes g sites ks v sides some within e =
    let xf : Site → ℕ = λ (t : Site). clip g.nx t.x in
    let yf : Site → ℕ = λ (t : Site). clip g.ny t.y in
    let x = axis xf sites ks (λ t. clip_le g.nx t.x sides.columns.0 sides.columns.1) some within in
    let y = axis yf sites ks (λ t. clip_le g.ny t.y sides.rows.0 sides.rows.1) some within in
    let q = e ∙ among_four (lanes_in g sites) (or_far xf sites) (or_far (λ t. 1001 - xf t) sites) (or_far yf sites) (or_far (λ t. 1001 - yf t) sites) (lanes_four g sites) ks in
    let a0 : get_or v 0 0 ≡ lowest (map (or_far xf sites) ks) = ap (λ w. get_or w 0 0) q in
    let a1 : get_or v 1 0 ≡ lowest (map (or_far (λ t. 1001 - xf t) sites) ks) = ap (λ w. get_or w 1 0) q in
    let a2 : get_or v 2 0 ≡ lowest (map (or_far yf sites) ks) = ap (λ w. get_or w 2 0) q in
    let a3 : get_or v 3 0 ≡ lowest (map (or_far (λ t. 1001 - yf t) sites) ks) = ap (λ w. get_or w 3 0) q in
    let b0 : get_or v 0 0 ≡ least (xs_of g (map (site_of sites) ks)) = a0 ∙ x.least in
    let b1 : 1001 - get_or v 1 0 ≡ greatest (xs_of g (map (site_of sites) ks)) = ap (λ w. 1001 - w) a1 ∙ x.greatest in
    let b2 : get_or v 2 0 ≡ least (ys_of g (map (site_of sites) ks)) = a2 ∙ y.least in
    let b3 : 1001 - get_or v 3 0 ≡ greatest (ys_of g (map (site_of sites) ks)) = ap (λ w. 1001 - w) a3 ∙ y.greatest in
    let rx = x.rising in
    let ry = y.rising in
    record { is = λ i. record { xmin = b0 i; xmax = b1 i; ymin = b2 i; ymax = b3 i }; columns = omega (arith, a0, a1, rx); rows = omega (arith, a2, a3, ry) }

pub net_by_lanes : (d : Netlist) (g : GridShape) (sites : List Site) (s : Swap) (n : ℕ) (ts : List Terminal) (v : List ℕ) → IsLawful d → (1 ≤ g.nx) × (g.nx ≤ 1000) → (1 ≤ g.ny) × (g.ny ≤ 1000) → n < length d.terminals → length d.kinds ≡ length sites → ts ≡ get_or d.terminals n []
    → v ≡ least_among (lanes_in g (swapped sites s)) (map block_on ts) → IsVectorOf v (net_box d g (swapped sites s) n)
unfolding net_box
net_by_lanes d g sites s n ts v is x y h w et ev =
    by_lanes g (swapped sites s) (blocks_of d n) v (record { columns = x; rows = y }) (is.some_terminal n h) (λ i l. let low = is.within n i l in let k = length-swapped sites s in omega (arith, low, k, w))
    (ev ∙ ap (λ z. least_among (lanes_in g (swapped sites s)) (map block_on z)) et)
