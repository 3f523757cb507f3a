-- A swap that takes from no edge of a box all of its terminals leaves the box as it is.
use Rattle.std.proofs.Common.{◌≡◌, ℕ, ◌-◌, ◌*◌, ◌<◌, ◌≤◌, min, max, List, [], ◌∷◌, map, length, Option, Some, None, sym, ap, ◌∙◌, arith, inl, inr}
use Rattle.std.proofs.lemmas.Bool.{cases_lt}
use Rattle.std.proofs.lemmas.Bool.Decides.{nat_tests}
use Rattle.std.proofs.lemmas.List.{length-map}
use Rattle.fab_arch.specs.declared.array.Site.{Site}
use Rattle.fab_arch.specs.Grid.{GridShape}
use Rattle.fab_net.specs.declared.netlist_types.BlockId.{BlockId}
use Rattle.fab_net.specs.Netlist.{Netlist}
use Rattle.fab_site.specs.declared.placement_types.Swap.{Swap}
use Rattle.fab_site.specs.Placement.{site_of, swapped, IsSwapOf}
use Rattle.fab_cost.specs.declared.edge_counts.Edge.{Edge}
use Rattle.fab_cost.specs.declared.edge_counts.Edges.{Edges}
use Rattle.fab_cost.specs.declared.edge_counts.CountedBox.{CountedBox}
use Rattle.fab_cost.specs.Changes.{Holds, HoldsLeast, HoldsGreatest, IsChange}
use Rattle.fab_cost.specs.Cost.{clip, least, greatest, xs_of, ys_of, box_on, net_box, net_cost, cross_of, half_perimeter}
use Rattle.fab_cost.specs.Edges.{times, edges_of, counted_on, counted_box, plain, Moved, IsLeast, IsGreatest}
use Rattle.fab_cost.specs.Swapping.{SitesMoved, blocks_of, cost_unless, times_other}
use Rattle.fab_cost.proofs.BoxMoves.{sites_on as moved_on, sites_back as moved_back, length_xs, length_ys}
use Rattle.fab_cost.proofs.Changes.{least_from, greatest_from, unless_same}
use Rattle.fab_cost.proofs.Moves.{least_given, greatest_given}
use Rattle.fab_cost.proofs.Nets.{plain_is}

-- the ends of a list of which `count` entries move, at most `most`

least_held : (e : Edge) (most low from to count : ℕ) (xs ys : List ℕ) → HoldsLeast most e low → low ≤ from → low ≤ to → count ≤ most → IsLeast e xs → Moved from to count xs ys → e.at ≡ least ys
unfolding Moved
least_held e most low from to count xs ys holds lf lt few is moved =
    let k = is.count in
    let s = is.some in
    let w = holds.within in
    let m = holds.many in
    least_from e.at ys
    (λ v h. grind (arith, nat_tests, moved v, is.bounds v, w))
    (grind (arith, nat_tests, moved e.at, k, s, w, m))

greatest_held : (e : Edge) (most high from to count : ℕ) (xs ys : List ℕ) → HoldsGreatest most e high → from ≤ high → to ≤ high → count ≤ most → IsGreatest e xs → Moved from to count xs ys → e.at ≡ greatest ys
unfolding Moved
greatest_held e most high from to count xs ys holds fh th few is moved =
    let k = is.count in
    let s = is.some in
    let w = holds.within in
    let m = holds.many in
    greatest_from e.at ys
    (λ v h. grind (arith, nat_tests, moved v, is.bounds v, w))
    (grind (arith, nat_tests, moved e.at, k, s, w, m))

record EndsHeld (e : Edges) (ys : List ℕ) : Type 0 where
  pub low : e.least.at ≡ least ys
  pub high : e.greatest.at ≡ greatest ys

ends_held : (e : Edges) (most low high from to count : ℕ) (xs ys : List ℕ) → HoldsLeast most e.least low → HoldsGreatest most e.greatest high → low ≤ from → low ≤ to → from ≤ high → to ≤ high → count ≤ most → 0 < length xs → e ≡ edges_of xs → Moved from to count xs ys → EndsHeld e ys
ends_held e most low high from to count xs ys l g lf lt fh th few some is moved = record {
  low = least_held e.least most low from to count xs ys l lf lt few (least_given e xs some is) moved;
  high = greatest_held e.greatest most high from to count xs ys g fh th few (greatest_given e xs some is) moved;
}

box_ends : (g : GridShape) (b : CountedBox) (ys : List Site) → EndsHeld b.x (xs_of g ys) → EndsHeld b.y (ys_of g ys) → plain b ≡ box_on g ys
unfolding box_on
box_ends g b ys x y = λ i. record { xmin = x.low i; xmax = x.high i; ymin = y.low i; ymax = y.high i }

box_held_on : (most : ℕ) (g : GridShape) (b : CountedBox) (s : Swap) → Holds most g b s → (count : ℕ) → count ≤ most → (xs ys : List Site) → 0 < length xs → b ≡ counted_on g xs → SitesMoved g s.from s.to count xs ys → plain b ≡ box_on g ys
unfolding counted_on
box_held_on most g b s r count few xs ys some is moved =
    let fx = clip g.nx s.from.x in
    let tx = clip g.nx s.to.x in
    let fy = clip g.ny s.from.y in
    let ty = clip g.ny s.to.y in
    box_ends g b ys
    (ends_held b.x most (min fx tx) (max fx tx) fx tx count (xs_of g xs) (xs_of g ys) r.x_least r.x_greatest (omega arith) (omega arith) (omega arith) (omega arith) few (omega (arith, length_xs g xs)) (ap (λ b. b.x) is) moved.x)
    (ends_held b.y most (min fy ty) (max fy ty) fy ty count (ys_of g xs) (ys_of g ys) r.y_least r.y_greatest (omega arith) (omega arith) (omega arith) (omega arith) few (omega (arith, length_ys g xs)) (ap (λ b. b.y) is) moved.y)

box_held_back : (most : ℕ) (g : GridShape) (b : CountedBox) (s : Swap) → Holds most g b s → (count : ℕ) → count ≤ most → (xs ys : List Site) → 0 < length xs → b ≡ counted_on g xs → SitesMoved g s.to s.from count xs ys → plain b ≡ box_on g ys
unfolding counted_on
box_held_back most g b s r count few xs ys some is moved =
    let fx = clip g.nx s.from.x in
    let tx = clip g.nx s.to.x in
    let fy = clip g.ny s.from.y in
    let ty = clip g.ny s.to.y in
    box_ends g b ys
    (ends_held b.x most (min fx tx) (max fx tx) tx fx count (xs_of g xs) (xs_of g ys) r.x_least r.x_greatest (omega arith) (omega arith) (omega arith) (omega arith) few (omega (arith, length_xs g xs)) (ap (λ b. b.x) is) moved.x)
    (ends_held b.y most (min fy ty) (max fy ty) ty fy count (ys_of g xs) (ys_of g ys) r.y_least r.y_greatest (omega arith) (omega arith) (omega arith) (omega arith) few (omega (arith, length_ys g xs)) (ap (λ b. b.y) is) moved.y)

other_few : (o : Option BlockId) (most : ℕ) (bs : List ℕ) → ((c : ℕ) → times c bs ≤ most) → times_other o bs ≤ most
other_few None most bs few = omega arith
other_few (Some c) most bs few = few c.0

sites_held : (most : ℕ) (g k : GridShape) (b : CountedBox) (s : Swap) (sites : List Site) → IsSwapOf k sites s → Holds most g b s → (bs : List ℕ) → ((c : ℕ) → times c bs ≤ most) → b ≡ counted_on g (map (site_of sites) bs) → plain b ≡ box_on g (map (site_of (swapped sites s)) bs)
unfolding counted_on edges_of box_on
sites_held most g k b s sites is r [] few e = ap plain e
sites_held most g k b s sites is r (c ∷ cs) few e =
    let bs : List ℕ = c ∷ cs in
    let l = length-map bs (site_of sites) in
    let mine : times s.block.0 bs ≤ most = few s.block.0 in
    let others : times_other s.other bs ≤ most = other_few s.other most bs few in
    elim (cases_lt (times s.block.0 bs) (times_other s.other bs)) [
      | inl h ↦ box_held_back most g b s r (times_other s.other bs - times s.block.0 bs) (omega arith) (map (site_of sites) bs) (map (site_of (swapped sites s)) bs) (omega arith) e (moved_back g k sites s is bs (omega arith))
      | inr h ↦ box_held_on most g b s r (times s.block.0 bs - times_other s.other bs) (omega arith) (map (site_of sites) bs) (map (site_of (swapped sites s)) bs) (omega arith) e (moved_on g k sites s is bs (omega arith))
    ]

-- the net's cost is the same after the swap
pub held : (most : ℕ) (d : Netlist) (g k : GridShape) (sites : List Site) (s : Swap) (but : Option BlockId) (n : ℕ) (b : CountedBox) → IsSwapOf k sites s → Holds most g b s → ((c : ℕ) → times c (blocks_of d n) ≤ most) → b ≡ counted_box d g sites n → IsChange (cost_unless d g sites but n) (cost_unless d g (swapped sites s) but n) 0 0
unfolding counted_box net_box net_cost
held most d g k sites s but n b is r few e =
    let p : net_box d g (swapped sites s) n ≡ net_box d g sites n = sym (sites_held most g k b s sites is r (blocks_of d n) few e) ∙ ap plain e ∙ plain_is d g sites n in
    unless_same d g sites (swapped sites s) but n (ap (λ v. cross_of (length (blocks_of d n)) * half_perimeter v) p)
