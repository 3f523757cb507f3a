-- What a swap makes of the ends of a box, and of the costs of nets.
use Rattle.std.proofs.Common.{◌≡◌, ◌≢◌, ℕ, ◌+◌, ◌-◌, ◌*◌, ◌<◌, ◌≤◌, ◌^◌, min, max, cond, eqb, Bool, true, false, List, [], ◌∷◌, map, take, length, get_or, Option, Some, None, refl, sym, ap, ◌∙◌, subst, arith, inl, inr}
use Rattle.std.specs.List.{sum_by}
use Rattle.std.proofs.lemmas.Bool.{cases_eq, cases_lt}
use Rattle.std.proofs.lemmas.Bool.Decides.{nat_tests}
use Rattle.std.proofs.lemmas.List.{take_all, length-map}
use Rattle.std.proofs.lemmas.List.Sums.{sum_by_more, sum_by_more_le}
use Rattle.fab_arch.specs.declared.array.Site.{Site}
use Rattle.fab_arch.specs.Grid.{GridShape}
use Rattle.fab_net.specs.declared.netlist_types.BlockId.{BlockId}
use Rattle.fab_net.specs.Netlist.{Netlist, nets_of, IsLawful}
use Rattle.fab_site.specs.declared.placement_types.Swap.{Swap}
use Rattle.fab_site.specs.Placement.{site_of, swapped, IsSwapOf}
use Rattle.fab_site.proofs.Swapping.{ready}
use Rattle.fab_cost.specs.declared.edge_counts.Edge.{Edge}
use Rattle.fab_cost.specs.declared.edge_counts.Edges.{Edges}
use Rattle.fab_cost.specs.declared.edge_counts.CountedBox.{CountedBox}
use Rattle.fab_cost.specs.Boxes.{Counts}
use Rattle.fab_cost.specs.Changes.{Surrounds, IsLeastEnd, IsGreatestEnd, AreEndsAfter, IsPlainAfter, IsPlainSwapped, IsChange}
use Rattle.fab_cost.specs.Cost.{Box, clip, least, greatest, xs_of, ys_of, box_on, net_box, net_cost, cost_of, cross_of, half_perimeter}
use Rattle.fab_cost.specs.Edges.{times, edges_of, counted_on, counted_box, plain, Moved, AreEdgesAfter}
use Rattle.fab_cost.specs.Swapping.{blocks_of, has_block, cost_unless, times_other, IsBoxAfter, IsBoxSwapped}
use Rattle.fab_cost.proofs.BoxMoves.{coordinates, sites_on as moved_on, sites_back as moved_back, length_xs, length_ys, swapped_still}
use Rattle.fab_cost.proofs.Moves.{least_is, greatest_is, least_only, greatest_only, some_entry, least_given, greatest_given, least_kept, greatest_kept, edges_after, edges_same}
use Rattle.fab_cost.proofs.Nets.{plain_is, sum_below}
use Rattle.fab_cost.proofs.Sited.{other_within}
use Rattle.fab_cost.proofs.Split.{balance_none, balance_some, sum_on}
use Rattle.fab_cost.proofs.Times.{times_cons, times_none}

-- the ends of a list

pub least_from : (v : ℕ) (xs : List ℕ) → ((w : ℕ) → 0 < times w xs → v ≤ w) → 0 < times v xs → v ≡ least xs
unfolding edges_of
least_from v xs bounds some =
    ap (λ (e : Edge). e.at) (least_only (record { at = v; count = times v xs }) (edges_of xs).least xs (record { bounds = bounds; count = refl; some = some }) (least_is xs (some_entry v xs some)))

pub greatest_from : (v : ℕ) (xs : List ℕ) → ((w : ℕ) → 0 < times w xs → w ≤ v) → 0 < times v xs → v ≡ greatest xs
unfolding edges_of
greatest_from v xs bounds some =
    ap (λ (e : Edge). e.at) (greatest_only (record { at = v; count = times v xs }) (edges_of xs).greatest xs (record { bounds = bounds; count = refl; some = some }) (greatest_is xs (some_entry v xs some)))

pub least_reached : (e : Edge) (from to count : ℕ) → 0 < count → to ≤ e.at → IsLeastEnd e from to count to
unfolding IsLeastEnd Moved
least_reached e from to count some under = λ xs ys is there moved.
    least_from to ys
    (λ w h. grind (arith, nat_tests, moved w, is.bounds w))
    (grind (arith, nat_tests, moved to, there))

pub least_apart : (e : Edge) (from to count : ℕ) → e.at < to → from ≢ e.at → IsLeastEnd e from to count e.at
unfolding IsLeastEnd Moved
least_apart e from to count over other = λ xs ys is there moved.
    let k = is.count in
    let s = is.some in
    least_from e.at ys
    (λ w h. grind (arith, nat_tests, moved w, is.bounds w))
    (grind (arith, nat_tests, moved e.at, k, s))

pub least_more : (e : Edge) (from to count : ℕ) → e.at < to → count < e.count → IsLeastEnd e from to count e.at
unfolding IsLeastEnd Moved
least_more e from to count over less = λ xs ys is there moved.
    let k = is.count in
    least_from e.at ys
    (λ w h. grind (arith, nat_tests, moved w, is.bounds w))
    (grind (arith, nat_tests, moved e.at, k, less))

pub greatest_reached : (e : Edge) (from to count : ℕ) → 0 < count → e.at ≤ to → IsGreatestEnd e from to count to
unfolding IsGreatestEnd Moved
greatest_reached e from to count some over = λ xs ys is there moved.
    greatest_from to ys
    (λ w h. grind (arith, nat_tests, moved w, is.bounds w))
    (grind (arith, nat_tests, moved to, there))

pub greatest_apart : (e : Edge) (from to count : ℕ) → to < e.at → from ≢ e.at → IsGreatestEnd e from to count e.at
unfolding IsGreatestEnd Moved
greatest_apart e from to count under other = λ xs ys is there moved.
    let k = is.count in
    let s = is.some in
    greatest_from e.at ys
    (λ w h. grind (arith, nat_tests, moved w, is.bounds w))
    (grind (arith, nat_tests, moved e.at, k, s))

pub greatest_more : (e : Edge) (from to count : ℕ) → to < e.at → count < e.count → IsGreatestEnd e from to count e.at
unfolding IsGreatestEnd Moved
greatest_more e from to count under less = λ xs ys is there moved.
    let k = is.count in
    greatest_from e.at ys
    (λ w h. grind (arith, nat_tests, moved w, is.bounds w))
    (grind (arith, nat_tests, moved e.at, k, less))

pub ends_after : (e : Edges) (from to count low high : ℕ) → IsLeastEnd e.least from to count low → IsGreatestEnd e.greatest from to count high → AreEndsAfter e from to count low high
unfolding AreEndsAfter IsLeastEnd IsGreatestEnd
ends_after e from to count low high l g = λ xs ys is there moved.
    let some = some_entry from xs there in
    (l xs ys (least_given e xs some is) there moved, g xs ys (greatest_given e xs some is) there moved)

pub plain_after : (g : GridShape) (b : CountedBox) (from to : Site) (count fx tx fy ty xmin xmax ymin ymax : ℕ) → fx ≡ clip g.nx from.x → tx ≡ clip g.nx to.x → fy ≡ clip g.ny from.y → ty ≡ clip g.ny to.y
    → AreEndsAfter b.x fx tx count xmin xmax → AreEndsAfter b.y fy ty count ymin ymax → IsPlainAfter g b from to count (record { xmin = xmin; xmax = xmax; ymin = ymin; ymax = ymax })
unfolding IsPlainAfter AreEndsAfter counted_on box_on
plain_after g b from to count fx tx fy ty xmin xmax ymin ymax ea eb ec ed x y = λ xs ys is among moved.
    let p = x (xs_of g xs) (xs_of g ys) (ap (λ b. b.x) is) (rw ea among.x) (rw (ea, eb) moved.x) in
    let q = y (ys_of g xs) (ys_of g ys) (ap (λ b. b.y) is) (rw ec among.y) (rw (ec, ed) moved.y) in
    λ i. record { xmin = p.0 i; xmax = p.1 i; ymin = q.0 i; ymax = q.1 i }

-- where the swapped blocks are

block_stands : (f : Site → ℕ) (k : GridShape) (sites : List Site) (s : Swap) → IsSwapOf k sites s → (bs : List ℕ) → 0 < times s.block.0 bs → 0 < times (f s.from) (coordinates f sites bs)
block_stands f k sites s is [] h = absurd (omega (arith, times_none s.block.0))
block_stands f k sites s is (b ∷ bs) h =
    let cx : times (f s.from) (f (site_of sites b) ∷ coordinates f sites bs) ≡ cond (eqb (f (site_of sites b)) (f s.from)) 1 0 + times (f s.from) (coordinates f sites bs) = times_cons (f s.from) (f (site_of sites b)) (coordinates f sites bs) in
    let cb = times_cons s.block.0 b bs in
    elim (cases_eq b s.block.0) [
      | inl e ↦
          let p : f (site_of sites b) ≡ f s.from = ap f (ap (site_of sites) e ∙ (ready k sites s is).stands) in
          grind (arith, nat_tests, cx, p)
      | inr ne ↦
          let l : 0 < times s.block.0 bs = grind (arith, nat_tests, cb, ne) in
          let r = block_stands f k sites s is bs l in
          omega (arith, cx, r)
    ]

other_at : (f : Site → ℕ) (sites : List Site) (to : Site) (c : ℕ) → site_of sites c ≡ to → (bs : List ℕ) → 0 < times c bs → 0 < times (f to) (coordinates f sites bs)
other_at f sites to c e [] h = absurd (omega (arith, times_none c))
other_at f sites to c e (b ∷ bs) h =
    let cx : times (f to) (f (site_of sites b) ∷ coordinates f sites bs) ≡ cond (eqb (f (site_of sites b)) (f to)) 1 0 + times (f to) (coordinates f sites bs) = times_cons (f to) (f (site_of sites b)) (coordinates f sites bs) in
    let cb = times_cons c b bs in
    elim (cases_eq b c) [
      | inl q ↦
          let p : f (site_of sites b) ≡ f to = ap f (ap (site_of sites) q ∙ e) in
          grind (arith, nat_tests, cx, p)
      | inr ne ↦
          let l : 0 < times c bs = grind (arith, nat_tests, cb, ne) in
          let r = other_at f sites to c e bs l in
          omega (arith, cx, r)
    ]

other_stands : (f : Site → ℕ) (k : GridShape) (sites : List Site) (s : Swap) (o : Option BlockId) → IsSwapOf k sites s → o ≡ s.other → (bs : List ℕ) → 0 < times_other o bs → 0 < times (f s.to) (coordinates f sites bs)
other_stands f k sites s None is e bs h = absurd (omega arith)
other_stands f k sites s (Some c) is e bs h = other_at f sites s.to c.0 (other_within k sites s c is (sym e)).1 bs h

pub plain_on : (g : GridShape) (b : CountedBox) (s : Swap) (mine others : ℕ) (c : Box) → others < mine → IsPlainAfter g b s.from s.to (mine - others) c → IsPlainSwapped g b s mine others c
unfolding IsPlainSwapped IsPlainAfter
plain_on g b s mine others c h after = λ k sites bs is em eo eb.
    let le : times_other s.other bs ≤ times s.block.0 bs = omega arith in
    let m = moved_on g k sites s is bs le in
    let some : 0 < times s.block.0 bs = omega arith in
    after (map (site_of sites) bs) (map (site_of (swapped sites s)) bs) eb
    (record { x = block_stands (λ (v : Site). clip g.nx v.x) k sites s is bs some; y = block_stands (λ (v : Site). clip g.ny v.y) k sites s is bs some })
    (rw (em, eo) m)

pub plain_back : (g : GridShape) (b : CountedBox) (s : Swap) (mine others : ℕ) (c : Box) → mine ≢ others → mine ≤ others → IsPlainAfter g b s.to s.from (others - mine) c → IsPlainSwapped g b s mine others c
unfolding IsPlainSwapped IsPlainAfter
plain_back g b s mine others c ne h after = λ k sites bs is em eo eb.
    let le : times s.block.0 bs ≤ times_other s.other bs = omega arith in
    let m = moved_back g k sites s is bs le in
    let some : 0 < times_other s.other bs = omega arith in
    after (map (site_of sites) bs) (map (site_of (swapped sites s)) bs) eb
    (record { x = other_stands (λ (v : Site). clip g.nx v.x) k sites s s.other is refl bs some; y = other_stands (λ (v : Site). clip g.ny v.y) k sites s s.other is refl bs some })
    (rw (em, eo) m)

pub plain_given : (d : Netlist) (g k : GridShape) (sites : List Site) (s : Swap) (n mine others : ℕ) (b : CountedBox) (c : Box) → IsPlainSwapped g b s mine others c → IsSwapOf k sites s → mine ≡ times s.block.0 (blocks_of d n) → others ≡ times_other s.other (blocks_of d n) → b ≡ counted_box d g sites n → c ≡ net_box d g (swapped sites s) n
unfolding IsPlainSwapped counted_box net_box
plain_given d g k sites s n mine others b c h is em eo eb = h k sites (blocks_of d n) is em eo eb

-- a net whose box surrounds both sites

edges_within : (e : Edges) (from to count : ℕ) → e.least.at < from → e.least.at < to → from < e.greatest.at → to < e.greatest.at → AreEdgesAfter e from to count e
edges_within e from to count a b c h = elim (cases_eq from to) [
  | inl q ↦ edges_same e from to count q
  | inr ne ↦ edges_after e from to count e.least e.greatest (least_kept e.least from to count ne b (omega arith)) (greatest_kept e.greatest from to count ne h (omega arith))
]

within : (e : Edges) (low high from to : ℕ) → low ≡ min from to → high ≡ max from to → e.least.at < low → high < e.greatest.at → ((e.least.at < from) × (e.least.at < to)) × ((from < e.greatest.at) × (to < e.greatest.at))
within e low high from to el eh a b = ((omega arith, omega arith), (omega arith, omega arith))

box_within : (g : GridShape) (b : CountedBox) (s : Swap) → Surrounds g b s → (count : ℕ) → IsBoxAfter g b s.from s.to count b × IsBoxAfter g b s.to s.from count b
unfolding IsBoxAfter counted_on AreEdgesAfter
box_within g b s r count =
    let fx = clip g.nx s.from.x in
    let tx = clip g.nx s.to.x in
    let fy = clip g.ny s.from.y in
    let ty = clip g.ny s.to.y in
    let x = within b.x (min fx tx) (max fx tx) fx tx refl refl r.x_least r.x_greatest in
    let y = within b.y (min fy ty) (max fy ty) fy ty refl refl r.y_least r.y_greatest in (
      λ xs ys some is moved.
          let ex = edges_within b.x fx tx count x.0.0 x.0.1 x.1.0 x.1.1 (xs_of g xs) (xs_of g ys) (omega (arith, length_xs g xs)) (ap (λ b. b.x) is) moved.x in
          let ey = edges_within b.y fy ty count y.0.0 y.0.1 y.1.0 y.1.1 (ys_of g xs) (ys_of g ys) (omega (arith, length_ys g xs)) (ap (λ b. b.y) is) moved.y in
          λ i. record { x = ex i; y = ey i },
      λ xs ys some is moved.
          let ex = edges_within b.x tx fx count x.0.1 x.0.0 x.1.1 x.1.0 (xs_of g xs) (xs_of g ys) (omega (arith, length_xs g xs)) (ap (λ b. b.x) is) moved.x in
          let ey = edges_within b.y ty fy count y.0.1 y.0.0 y.1.1 y.1.0 (ys_of g xs) (ys_of g ys) (omega (arith, length_ys g xs)) (ap (λ b. b.y) is) moved.y in
          λ i. record { x = ex i; y = ey i },
    )

sites_within : (g k : GridShape) (b : CountedBox) (s : Swap) (sites : List Site) → IsSwapOf k sites s → Surrounds g b s → (bs : List ℕ) → b ≡ counted_on g (map (site_of sites) bs) → b ≡ counted_on g (map (site_of (swapped sites s)) bs)
unfolding IsBoxAfter
sites_within g k b s sites is r [] e = e
sites_within g k b s sites is r (c ∷ cs) e =
    let bs : List ℕ = c ∷ cs in
    let l = length-map bs (site_of sites) in
    elim (cases_lt (times s.block.0 bs) (times_other s.other bs)) [
      | inl h ↦
          (box_within g b s r (times_other s.other bs - times s.block.0 bs)).1 (map (site_of sites) bs) (map (site_of (swapped sites s)) bs) (omega arith) e (moved_back g k sites s is bs (omega arith))
      | inr h ↦
          (box_within g b s r (times s.block.0 bs - times_other s.other bs)).0 (map (site_of sites) bs) (map (site_of (swapped sites s)) bs) (omega arith) e (moved_on g k sites s is bs (omega arith))
    ]

-- the change of a net's cost

same_cost : (d : Netlist) (g : GridShape) (before after : List Site) (n : ℕ) (b : CountedBox) → b ≡ counted_box d g before n → b ≡ counted_box d g after n → net_cost d g after n ≡ net_cost d g before n
unfolding net_cost
same_cost d g before after n b e f =
    let p : net_box d g after n ≡ net_box d g before n = sym (plain_is d g after n) ∙ ap plain (sym f ∙ e) ∙ plain_is d g before n in
    ap (λ v. cross_of (length (blocks_of d n)) * half_perimeter v) p

pub unless_same : (d : Netlist) (g : GridShape) (before after : List Site) (but : Option BlockId) (n : ℕ) → net_cost d g after n ≡ net_cost d g before n → IsChange (cost_unless d g before but n) (cost_unless d g after but n) 0 0
unfolding cost_unless
unless_same d g before after but n e =
    let k : cond (has_block but (blocks_of d n)) 0 (net_cost d g after n) ≡ cond (has_block but (blocks_of d n)) 0 (net_cost d g before n) = ap (λ v. cond (has_block but (blocks_of d n)) 0 v) e in
    record { balance = omega (arith, k); gained_within = omega arith; lost_within = omega arith }

pub passed_box : (d : Netlist) (g k : GridShape) (sites : List Site) (s : Swap) (n : ℕ) (b : CountedBox) → IsSwapOf k sites s → Surrounds g b s → b ≡ counted_box d g sites n → b ≡ counted_box d g (swapped sites s) n
unfolding counted_box
passed_box d g k sites s n b is around e = sites_within g k b s sites is around (blocks_of d n) e

pub passed : (d : Netlist) (g k : GridShape) (sites : List Site) (s : Swap) (but : Option BlockId) (n : ℕ) (b : CountedBox) → IsSwapOf k sites s → Surrounds g b s → b ≡ counted_box d g sites n → IsChange (cost_unless d g sites but n) (cost_unless d g (swapped sites s) but n) 0 0
unfolding counted_box
passed d g k sites s but n b is around e =
    unless_same d g sites (swapped sites s) but n (same_cost d g sites (swapped sites s) n b e (sites_within g k b s sites is around (blocks_of d n) e))

pub still : (d : Netlist) (g k : GridShape) (sites : List Site) (s : Swap) (but : Option BlockId) (n mine others : ℕ) → IsSwapOf k sites s → mine ≡ times s.block.0 (blocks_of d n) → others ≡ times_other s.other (blocks_of d n) → mine ≡ others → IsLawful d → Counts d n → IsChange (cost_unless d g sites but n) (cost_unless d g (swapped sites s) but n) 0 0
unfolding counted_box IsBoxSwapped
still d g k sites s but n mine others is em eo same lawful counts =
    let some : 0 < length (blocks_of d n) = lawful.some_terminal n counts.within in
    let b = counted_box d g sites n in
    unless_same d g sites (swapped sites s) but n (same_cost d g sites (swapped sites s) n b refl (swapped_still g b s mine others same k sites (blocks_of d n) is some em eo refl))

pub left_out : (d : Netlist) (g : GridShape) (before after : List Site) (but : Option BlockId) (n : ℕ) (r : Bool) → r ≡ has_block but (blocks_of d n) → r ≡ true → IsChange (cost_unless d g before but n) (cost_unless d g after but n) 0 0
unfolding cost_unless
left_out d g before after but n r e t =
    let p : cond (has_block but (blocks_of d n)) 0 (net_cost d g before n) ≡ 0 = λ i. cond ((sym e ∙ t) i) 0 (net_cost d g before n) in
    let q : cond (has_block but (blocks_of d n)) 0 (net_cost d g after n) ≡ 0 = λ i. cond ((sym e ∙ t) i) 0 (net_cost d g after n) in
    record { balance = omega (arith, p, q); gained_within = omega arith; lost_within = omega arith }

pub changed : (d : Netlist) (g : GridShape) (before after : List Site) (but : Option BlockId) (n : ℕ) (r : Bool) (gained lost : ℕ) → r ≡ has_block but (blocks_of d n) → r ≡ false → gained ≡ net_cost d g after n → lost ≡ net_cost d g before n → IsChange (cost_unless d g before but n) (cost_unless d g after but n) gained lost
unfolding cost_unless
changed d g before after but n r gained lost e f eg el =
    let p : cond (has_block but (blocks_of d n)) 0 (net_cost d g before n) ≡ net_cost d g before n = λ i. cond ((sym e ∙ f) i) 0 (net_cost d g before n) in
    let q : cond (has_block but (blocks_of d n)) 0 (net_cost d g after n) ≡ net_cost d g after n = λ i. cond ((sym e ∙ f) i) 0 (net_cost d g after n) in
    record { balance = omega (arith, p, q, eg, el); gained_within = omega (arith, q, eg); lost_within = omega (arith, p, el) }

-- a net of one terminal covers one column and one row wherever it is
pub half_of_one : (g : GridShape) (f h : ℕ → Site) (bs : List ℕ) → length bs ≤ 1 → half_perimeter (box_on g (map f bs)) ≡ half_perimeter (box_on g (map h bs))
unfolding half_perimeter box_on
half_of_one g f h [] few = refl
half_of_one g f h (b ∷ []) few = omega arith
half_of_one g f h (b ∷ c ∷ bs) few = absurd (omega arith)

-- sums of changes

pub none : (d : Netlist) (g : GridShape) (before after : List Site) (but : Option BlockId) (b : ℕ) → IsChange (sum_by (cost_unless d g before but) (take 0 (nets_of d b))) (sum_by (cost_unless d g after but) (take 0 (nets_of d b))) 0 0
none d g before after but b = record { balance = refl; gained_within = omega arith; lost_within = omega arith }

pub more : (d : Netlist) (g : GridShape) (before after : List Site) (but : Option BlockId) (b i gained lost won gone : ℕ) → i < length (nets_of d b)
    → IsChange (sum_by (cost_unless d g before but) (take i (nets_of d b))) (sum_by (cost_unless d g after but) (take i (nets_of d b))) gained lost
    → IsChange (cost_unless d g before but (get_or (nets_of d b) i 0)) (cost_unless d g after but (get_or (nets_of d b) i 0)) won gone
    → IsChange (sum_by (cost_unless d g before but) (take (i + 1) (nets_of d b))) (sum_by (cost_unless d g after but) (take (i + 1) (nets_of d b))) (gained + won) (lost + gone)
more d g before after but b i gained lost won gone h c one =
    let p = sum_by_more (cost_unless d g before but) (nets_of d b) i 0 h in
    let q = sum_by_more (cost_unless d g after but) (nets_of d b) i 0 h in
    let c0 = c.balance in
    let c1 = c.gained_within in
    let c2 = c.lost_within in
    let o0 = one.balance in
    let o1 = one.gained_within in
    let o2 = one.lost_within in
    record { balance = omega (arith, p, q, c0, o0); gained_within = omega (arith, q, c1, o1); lost_within = omega (arith, p, c2, o2) }

fits : (d : Netlist) (g : GridShape) (sites : List Site) (but : Option BlockId) (b i sum more : ℕ) → IsLawful d → (1 ≤ g.nx) × (g.nx ≤ 1000) → (1 ≤ g.ny) × (g.ny ≤ 1000) → i < length (nets_of d b)
    → sum ≤ sum_by (cost_unless d g sites but) (take i (nets_of d b)) → more ≤ cost_unless d g sites but (get_or (nets_of d b) i 0) → sum + more < 2 ^ 42
fits d g sites but b i sum more is x y h es em =
    omega (arith, sum_by_more_le (cost_unless d g sites but) (nets_of d b) i 0 h, sum_below d g sites but b is (record { columns = x; rows = y }), es, em)

pub gained_fits : (d : Netlist) (g : GridShape) (before after : List Site) (but : Option BlockId) (b i gained lost won gone : ℕ) → IsLawful d → (1 ≤ g.nx) × (g.nx ≤ 1000) → (1 ≤ g.ny) × (g.ny ≤ 1000) → i < length (nets_of d b)
    → IsChange (sum_by (cost_unless d g before but) (take i (nets_of d b))) (sum_by (cost_unless d g after but) (take i (nets_of d b))) gained lost
    → IsChange (cost_unless d g before but (get_or (nets_of d b) i 0)) (cost_unless d g after but (get_or (nets_of d b) i 0)) won gone
    → gained + won < 2 ^ 42
gained_fits d g before after but b i gained lost won gone is x y h c one = fits d g after but b i gained won is x y h c.gained_within one.gained_within

pub lost_fits : (d : Netlist) (g : GridShape) (before after : List Site) (but : Option BlockId) (b i gained lost won gone : ℕ) → IsLawful d → (1 ≤ g.nx) × (g.nx ≤ 1000) → (1 ≤ g.ny) × (g.ny ≤ 1000) → i < length (nets_of d b)
    → IsChange (sum_by (cost_unless d g before but) (take i (nets_of d b))) (sum_by (cost_unless d g after but) (take i (nets_of d b))) gained lost
    → IsChange (cost_unless d g before but (get_or (nets_of d b) i 0)) (cost_unless d g after but (get_or (nets_of d b) i 0)) won gone
    → lost + gone < 2 ^ 42
lost_fits d g before after but b i gained lost won gone is x y h c one = fits d g before but b i lost gone is x y h c.lost_within one.lost_within

pub all : (d : Netlist) (g : GridShape) (before after : List Site) (but : Option BlockId) (b i gained lost : ℕ) → length (nets_of d b) ≤ i
    → IsChange (sum_by (cost_unless d g before but) (take i (nets_of d b))) (sum_by (cost_unless d g after but) (take i (nets_of d b))) gained lost
    → IsChange (sum_by (cost_unless d g before but) (nets_of d b)) (sum_by (cost_unless d g after but) (nets_of d b)) gained lost
all d g before after but b i gained lost h c = subst (λ v. IsChange (sum_by (cost_unless d g before but) v) (sum_by (cost_unless d g after but) v) gained lost) (take_all i (nets_of d b) h) c

-- both blocks

pub gained_low : (d : Netlist) (g : GridShape) (before after : List Site) (but : Option BlockId) (b gained lost : ℕ) → IsLawful d → (1 ≤ g.nx) × (g.nx ≤ 1000) → (1 ≤ g.ny) × (g.ny ≤ 1000)
    → IsChange (sum_by (cost_unless d g before but) (nets_of d b)) (sum_by (cost_unless d g after but) (nets_of d b)) gained lost → gained < 2 ^ 42
gained_low d g before after but b gained lost is x y c = let k = c.gained_within in omega (arith, k, sum_below d g after but b is (record { columns = x; rows = y }))

pub lost_low : (d : Netlist) (g : GridShape) (before after : List Site) (but : Option BlockId) (b gained lost : ℕ) → IsLawful d → (1 ≤ g.nx) × (g.nx ≤ 1000) → (1 ≤ g.ny) × (g.ny ≤ 1000)
    → IsChange (sum_by (cost_unless d g before but) (nets_of d b)) (sum_by (cost_unless d g after but) (nets_of d b)) gained lost → lost < 2 ^ 42
lost_low d g before after but b gained lost is x y c = let k = c.lost_within in omega (arith, k, sum_below d g before but b is (record { columns = x; rows = y }))

pub whole_none : (d : Netlist) (g : GridShape) (sites : List Site) (s : Swap) (gained lost : ℕ) → s.other ≡ None
    → IsChange (sum_on d g sites s.block.0 None) (sum_on d g (swapped sites s) s.block.0 None) gained lost → cost_of d g (swapped sites s) + lost ≡ cost_of d g sites + gained
whole_none d g sites s gained lost o c =
    let k = c.balance in
    omega (arith, k, balance_none d g sites s (sum_on d g (swapped sites s) s.block.0 None) (sum_on d g sites s.block.0 None) o refl refl)

pub whole_some : (d : Netlist) (g : GridShape) (sites : List Site) (s : Swap) (c : BlockId) (gained lost more less : ℕ) → s.other ≡ Some c
    → IsChange (sum_on d g sites s.block.0 None) (sum_on d g (swapped sites s) s.block.0 None) gained lost
    → IsChange (sum_on d g sites c.0 (Some s.block)) (sum_on d g (swapped sites s) c.0 (Some s.block)) more less
    → cost_of d g (swapped sites s) + (lost + less) ≡ cost_of d g sites + (gained + more)
whole_some d g sites s c gained lost more less o one two =
    let k = one.balance in
    let l = two.balance in
    omega (arith, k, l, balance_some d g sites s c (sum_on d g (swapped sites s) s.block.0 None) (sum_on d g sites s.block.0 None) (sum_on d g (swapped sites s) c.0 (Some s.block)) (sum_on d g sites c.0 (Some s.block)) o refl refl refl refl)
