-- What a value keeps, and what it shows: positions by vectors, and boxes by positions or as they are kept.
use Rattle.std.proofs.Common.{◌≡◌, ℕ, zero, suc, ◌+◌, ◌-◌, ◌<◌, ◌≤◌, ◌^◌, cond, ltb, Bool, true, false, List, [], ◌∷◌, ◌++◌, map, take, length, get_or, refl, sym, subst, ap, ◌∙◌, set, arith, inl, inr, Option, Some, None, length-append, length-set}
use Rattle.std.proofs.lemmas.Bool.{cases_lt, ltb-true}
use Rattle.std.proofs.lemmas.Bool.Decides.{nat_tests}
use Rattle.std.proofs.lemmas.List.{length-map, get_or-map, take-append-le, take_all}
use Rattle.std.proofs.lemmas.List.FromFn.{length-map-range_with_len, get_or-map-range_with_len}
use Rattle.std.proofs.lemmas.Simd.{map-map}
use Rattle.fab_arch.specs.declared.array.Site.{Site}
use Rattle.fab_arch.specs.Grid.{GridShape}
use Rattle.fab_net.specs.Netlist.{Netlist, net_at, IsLawful}
use Rattle.fab_net.specs.declared.netlist_types.BlockId.{BlockId}
use Rattle.fab_site.specs.declared.placement_types.Swap.{Swap}
use Rattle.fab_site.specs.Placement.{nowhere, site_of}
use Rattle.fab_cost.specs.declared.edge_counts.CountedBox.{CountedBox}
use Rattle.fab_cost.specs.declared.runs.Runs.{Runs}
use Rattle.fab_cost.specs.Cost.{clip, cost_of}
use Rattle.fab_cost.specs.Boxes.{Counts}
use Rattle.fab_cost.specs.Edges.{counted_box, counted_on, counts_of, edge_counts, edges_of}
use Rattle.fab_cost.specs.Swapping.{CountedBoxesOf, CountedStandsFor, HaveBoxes, Position, position_at, blocks_of, counted_at, counted_blocks, nothing_counted, positions_after, positions_with}
use Rattle.fab_cost.specs.Runs.{AreMost, HasRecords, IsKept, box_seen, boxes_seen, counted_over, is_large, large_of, lanes_at, lanes_for, no_position, no_lanes, positions_in, table_from, table_of}
use Rattle.fab_cost.proofs.Alike.{alike, row_is}
use Rattle.fab_cost.proofs.Large.{box_large, counts_large, large_counts}
use Rattle.fab_cost.proofs.Listings.{listed_row}

-- positions

last_left : (xs : List (List ℕ)) (y : List ℕ) → take (length (xs ++ y ∷ []) - 1) (xs ++ y ∷ []) ≡ xs
last_left xs y =
    let e : length (xs ++ y ∷ []) - 1 ≡ length xs = (let l = length-append xs (y ∷ []) in omega (arith, l)) in
    ap (λ n. take n (xs ++ y ∷ [])) e ∙ take-append-le (length xs) xs (y ∷ []) (omega arith) ∙ take_all (length xs) xs (omega arith)

abbrev position_from : List ℕ → Position
position_from v = record { x = get_or v 0 0; y = get_or v 2 0 }

pub positions_of_table : (g : GridShape) (sites : List Site) (table : List (List ℕ)) → table ≡ table_of g sites → positions_in table ≡ map (position_at g) sites
positions_of_table g sites table e = ap positions_in e ∙ ap (map position_from) (last_left (map (lanes_at g) sites) no_lanes) ∙ map-map position_from (lanes_at g) sites

pub table_by_positions : (g : GridShape) (sites : List Site) (table : List (List ℕ)) → table ≡ table_of g sites → table ≡ table_from (positions_in table)
table_by_positions g sites table e = e ∙ ap (λ v. v ++ no_lanes ∷ []) (sym (map-map lanes_for (position_at g) sites)) ∙ ap table_from (sym (positions_of_table g sites table e))

pub table_is : (g : GridShape) (sites : List Site) (table : List (List ℕ)) → table ≡ table_from (positions_in table) → positions_in table ≡ map (position_at g) sites → table ≡ table_of g sites
table_is g sites table e at = e ∙ ap table_from at ∙ ap (λ v. v ++ no_lanes ∷ []) (map-map lanes_for (position_at g) sites)

-- a table with another vector

set_map : (f : Position → List ℕ) (ps : List Position) (k : ℕ) (p : Position) (more : List (List ℕ)) → k < length ps → set (map f ps ++ more) k (f p) ≡ map f (set ps k p) ++ more
set_map f [] k p more h = absurd (omega arith)
set_map f (q ∷ ps) zero p more h = refl
set_map f (q ∷ ps) (suc k) p more h = ap (λ v. f q ∷ v) (set_map f ps k p more (omega (arith, h)))

pub set_table : (table new : List (List ℕ)) (ps : List Position) (k : ℕ) (p : Position) (v : List ℕ) → k + 1 < length table → table ≡ table_from ps → v ≡ lanes_for p → new ≡ set table k v → new ≡ table_from (set ps k p)
set_table table new ps k p v h e ev en =
    let low : k < length ps = (let l = ap length e in let m = length-append (map lanes_for ps) (no_lanes ∷ []) in let n = length-map ps lanes_for in omega (arith, h, l, m, n)) in
    en ∙ (λ i. set (e i) k (ev i)) ∙ set_map lanes_for ps k p (no_lanes ∷ []) low

pub after_none : (g : GridShape) (s : Swap) (table new : List (List ℕ)) (ps : List Position) (v : List ℕ) → s.block.0 + 1 < length table → s.other ≡ None → table ≡ table_from ps → v ≡ lanes_at g s.to → new ≡ set table s.block.0 v → new ≡ table_from (positions_after g ps s)
after_none g s table new ps v h o e ev en = set_table table new ps s.block.0 (position_at g s.to) v h e ev en ∙ ap (λ w. table_from (positions_with g (set ps s.block.0 (position_at g s.to)) w s.from)) (sym o)

pub after_some : (g : GridShape) (s : Swap) (c : BlockId) (table mid new : List (List ℕ)) (ps : List Position) (v w : List ℕ) → s.block.0 + 1 < length table → c.0 + 1 < length table → s.other ≡ Some c → table ≡ table_from ps → v ≡ lanes_at g s.to → w ≡ lanes_at g s.from
    → mid ≡ set table s.block.0 v → new ≡ set mid c.0 w → new ≡ table_from (positions_after g ps s)
after_some g s c table mid new ps v w h k o e ev ew em en =
    let l : c.0 + 1 < length mid = (let m = ap length em in let n = length-set table s.block.0 v in omega (arith, k, m, n)) in
    set_table mid new (set ps s.block.0 (position_at g s.to)) c.0 (position_at g s.from) w l (set_table table mid ps s.block.0 (position_at g s.to) v h e ev em) ew en
    ∙ ap (λ u. table_from (positions_with g (set ps s.block.0 (position_at g s.to)) u s.from)) (sym o)

pub positions_of_from : (ps : List Position) (table : List (List ℕ)) → table ≡ table_from ps → positions_in table ≡ ps
positions_of_from ps table e = ap positions_in e ∙ ap (map position_from) (last_left (map lanes_for ps) no_lanes) ∙ map-map position_from lanes_for ps ∙ map-id ps
  where
    map-id : (ps : List Position) → map (λ p. position_from (lanes_for p)) ps ≡ ps
    map-id [] = refl
    map-id (p ∷ ps) = ap (λ v. p ∷ v) (map-id ps)

length_with : (g : GridShape) (ps : List Position) (o : Option BlockId) (s : Site) → length (positions_with g ps o s) ≡ length ps
length_with g ps None s = refl
length_with g ps (Some b) s = length-set ps b.0 (position_at g s)

pub length_after : (g : GridShape) (ps : List Position) (s : Swap) → length (positions_after g ps s) ≡ length ps
length_after g ps s = length_with g (set ps s.block.0 (position_at g s.to)) s.other s.from ∙ length-set ps s.block.0 (position_at g s.to)

-- boxes

pub seen_long : (nets : List (List ℕ)) (ps : List Position) (kept : List CountedBox) → length (boxes_seen nets ps kept) ≡ length nets
unfolding boxes_seen
seen_long nets ps kept = length-map-range_with_len (box_seen nets ps kept) 0 (length nets)

seen_at : (nets : List (List ℕ)) (ps : List Position) (kept : List CountedBox) (n : ℕ) → n < length nets → counted_at (boxes_seen nets ps kept) n ≡ box_seen nets ps kept n
unfolding boxes_seen counted_at
seen_at nets ps kept n h = get_or-map-range_with_len (box_seen nets ps kept) 0 (length nets) n n nothing_counted h (omega arith)

pub seen_large : (nets : List (List ℕ)) (ps : List Position) (kept : List CountedBox) (n : ℕ) → n < length nets → 16 < length (get_or nets n []) → counted_at (boxes_seen nets ps kept) n ≡ counted_at kept n
seen_large nets ps kept n h l =
    let t : ltb 16 (length (get_or nets n [])) ≡ true = grind (arith, nat_tests) in
    seen_at nets ps kept n h ∙ (λ i. cond (t i) (counted_at kept n) (counted_over ps (get_or nets n [])))

pub seen_small : (nets : List (List ℕ)) (ps : List Position) (kept : List CountedBox) (n : ℕ) → n < length nets → length (get_or nets n []) ≤ 16 → counted_at (boxes_seen nets ps kept) n ≡ counted_over ps (get_or nets n [])
seen_small nets ps kept n h l =
    let t : ltb 16 (length (get_or nets n [])) ≡ false = grind (arith, nat_tests) in
    seen_at nets ps kept n h ∙ (λ i. cond (t i) (counted_at kept n) (counted_over ps (get_or nets n [])))

pub nets_long : (d : Netlist) (nets : List (List ℕ)) → nets ≡ counted_blocks d → length nets ≡ length d.terminals
nets_long d nets e = ap length e ∙ length-map-range_with_len (λ n. cond (net_at d n).global [] (blocks_of d n)) 0 (length d.terminals)

pub row_counted : (d : Netlist) (nets : List (List ℕ)) (n : ℕ) → nets ≡ counted_blocks d → Counts d n → get_or nets n [] ≡ blocks_of d n
row_counted d nets n e c = ap (λ v. get_or v n []) e ∙ listed_row d n c.within ∙ (λ i. cond (c.counted i) [] (blocks_of d n))

-- the kept boxes are those of the large nets
pub large_have : (d : Netlist) (g : GridShape) (sites : List Site) (nets : List (List ℕ)) (ps : List Position) (kept : List CountedBox) → nets ≡ counted_blocks d → length kept ≡ length nets → HaveBoxes (boxes_seen nets ps kept) d g sites → HaveBoxes kept (large_of d) g sites
large_have d g sites nets ps kept e long have = record {
  long = long ∙ nets_long d nets e;
  each = λ n c.
      let p = large_counts d n c in
      let low : n < length nets = (let w = c.within in let l = nets_long d nets e in omega (arith, w, l)) in
      let many : 16 < length (get_or nets n []) = (let t = ltb-true 16 (length (blocks_of d n)) p.1 in let l = ap length (row_counted d nets n e p.0) in omega (arith, t, l)) in
      sym (seen_large nets ps kept n low many) ∙ have.each n p.0 ∙ sym (box_large d g sites n);
}

pub map_each : (f h : ℕ → ℕ) (ks : List ℕ) → ((i : ℕ) → i < length ks → f (get_or ks i 0) ≡ h (get_or ks i 0)) → map f ks ≡ map h ks
map_each f h [] same = refl
map_each f h (k ∷ ks) same =
    let rest = map_each f h ks (λ i l. same (suc i) (omega (arith, l))) in
    let here = same 0 (omega arith) in
    λ j. here j ∷ rest j

-- a net's box by positions
pub over_is : (d : Netlist) (g : GridShape) (sites : List Site) (ps : List Position) (n : ℕ) → IsLawful d → length d.kinds ≡ length sites → ps ≡ map (position_at g) sites → counted_over ps (blocks_of d n) ≡ counted_box d g sites n
unfolding counted_over counted_box counted_on
over_is d g sites ps n is w e =
    let bs = blocks_of d n in
    let at : (i : ℕ) → i < length bs → get_or ps (get_or bs i 0) no_position ≡ position_at g (site_of sites (get_or bs i 0)) =
    λ i l. ap (λ v. get_or v (get_or bs i 0) no_position) e ∙ get_or-map (position_at g) sites (get_or bs i 0) nowhere no_position (let low = is.within n i l in omega (arith, low, w)) in
    let xs = map_each (λ k. (get_or ps k no_position).x) (λ k. clip g.nx (site_of sites k).x) bs (λ i l. ap (λ (p : Position). p.x) (at i l)) ∙ sym (map-map (λ (s : Site). clip g.nx s.x) (site_of sites) bs) in
    let ys = map_each (λ k. (get_or ps k no_position).y) (λ k. clip g.ny (site_of sites k).y) bs (λ i l. ap (λ (p : Position). p.y) (at i l)) ∙ sym (map-map (λ (s : Site). clip g.ny s.y) (site_of sites) bs) in
    λ j. record { x = edges_of (xs j); y = edges_of (ys j) }

pub have_seen : (d : Netlist) (g : GridShape) (sites : List Site) (nets : List (List ℕ)) (ps : List Position) (kept : List CountedBox) → IsLawful d → length d.kinds ≡ length sites → nets ≡ counted_blocks d → ps ≡ map (position_at g) sites → HaveBoxes kept (large_of d) g sites → HaveBoxes (boxes_seen nets ps kept) d g sites
have_seen d g sites nets ps kept is w e ep have = record {
  long = seen_long nets ps kept ∙ nets_long d nets e;
  each = λ n c.
      let low : n < length nets = (let v = c.within in let l = nets_long d nets e in omega (arith, v, l)) in
      let row = row_counted d nets n e c in
      elim (cases_lt 16 (length (get_or nets n []))) [
        | inl l ↦
            (let many : is_large d n ≡ true = (let m = ap length row in let t : 16 < length (blocks_of d n) = omega (arith, l, m) in grind (arith, nat_tests)) in
            seen_large nets ps kept n low l ∙ have.each n (counts_large d n c many) ∙ box_large d g sites n)
        | inr h ↦ seen_small nets ps kept n low h ∙ ap (counted_over ps) row ∙ over_is d g sites ps n is w ep
      ];
}

-- counts of edges

pub counts_shown : (b : CountedBoxesOf) (d : Netlist) (g : GridShape) (sites : List Site) (n : ℕ) (kept : CountedBox) → CountedStandsFor b d g sites → Counts d n → kept ≡ counted_at b.boxes n → counts_of kept ≡ edge_counts d g sites n
unfolding edge_counts
counts_shown b d g sites n kept is c e = ap counts_of (e ∙ is.have.each n c)

-- the whole value

low_row : (d : Netlist) (n i : ℕ) → IsLawful d → i < length (get_or (counted_blocks d) n []) → get_or (get_or (counted_blocks d) n []) i 0 < length d.kinds
low_row d n i is h = go (net_at d n).global (row_is d n)
  where
    go : (g : Bool) → get_or (counted_blocks d) n [] ≡ cond g [] (blocks_of d n) → get_or (get_or (counted_blocks d) n []) i 0 < length d.kinds
    go true e = absurd (let l = ap length e in omega (arith, h, l))
    go false e = (let l = ap length e in let a = ap (λ v. get_or v i 0) e in let w = is.within n i (omega (arith, h, l)) in omega (arith, a, w))

pub kept_new : (d : Netlist) (g : GridShape) (sites : List Site) (table : List (List ℕ)) (r : Runs) (kept : List CountedBox) (most : List ℕ) (total : ℕ) → IsLawful d → length d.kinds ≡ length sites → table ≡ table_of g sites → HasRecords r d → r.terminals ≡ counted_blocks d
    → HaveBoxes kept (large_of d) g sites → AreMost most (counted_blocks d) → total < 2 ^ 43 → IsKept table r kept most total
kept_new d g sites table r kept most total is w et records terminals have are low =
    let long : length (positions_in table) ≡ length d.kinds = ap length (positions_of_table g sites table et) ∙ length-map sites (position_at g) ∙ sym w in
    record {
      below = low;
      vectors = table_by_positions g sites table et;
      long = have.long ∙ sym (nets_long d r.terminals terminals);
      bounds = subst (AreMost most) (sym terminals) are;
      within = λ n i h.
          let e = ap (λ v. get_or v n []) terminals in
          let a = ap (λ v. get_or v i 0) e in
          let v = low_row d n i is (let l = ap length e in omega (arith, h, l)) in
          omega (arith, a, v, long);
      runs = λ e same kinds. alike d e r (sym terminals ∙ same) (sym long ∙ kinds) records;
    }

pub kept_after : (old new : List (List ℕ)) (r : Runs) (boxes kept : List CountedBox) (most left : List ℕ) (was total : ℕ) → IsKept old r boxes most was → length (positions_in new) ≡ length (positions_in old) → new ≡ table_from (positions_in new) → length kept ≡ length boxes → left ≡ most → total < 2 ^ 43 → IsKept new r kept left total
kept_after old new r boxes kept most left was total is long vectors kept_long same low = record {
  below = low;
  vectors = vectors;
  long = kept_long ∙ is.long;
  bounds = subst (λ v. AreMost v r.terminals) (sym same) is.bounds;
  within = λ n i h. let w = is.within n i h in omega (arith, w, long);
  runs = λ e same kinds. is.runs e same (sym long ∙ kinds);
}

pub kept_swapped : (old new : List (List ℕ)) (g : GridShape) (s : Swap) (r : Runs) (boxes kept : List CountedBox) (most left : List ℕ) (was total : ℕ) → IsKept old r boxes most was → new ≡ table_from (positions_after g (positions_in old) s) → length kept ≡ length boxes → left ≡ most → total < 2 ^ 43
    → IsKept new r kept left total
kept_swapped old new g s r boxes kept most left was total is e long same low =
    let at = positions_of_from (positions_after g (positions_in old) s) new e in
    kept_after old new r boxes kept most left was total is (ap length at ∙ length_after g (positions_in old) s) (e ∙ ap table_from (sym at)) long same low

pub stands_by : (d : Netlist) (g : GridShape) (sites : List Site) (table : List (List ℕ)) (r : Runs) (kept : List CountedBox) (total : ℕ) → IsLawful d → length d.kinds ≡ length sites → table ≡ table_of g sites → r.terminals ≡ counted_blocks d → HaveBoxes kept (large_of d) g sites → total ≡ cost_of d g sites
    → CountedStandsFor (record { nets = r.terminals; positions = positions_in table; boxes = boxes_seen r.terminals (positions_in table) kept; total = total }) d g sites
stands_by d g sites table r kept total is w et terminals have sum =
    let at = positions_of_table g sites table et in
    record {
      made = record { nets = terminals; blocks = ap length at ∙ length-map sites (position_at g) ∙ sym w };
      at = at;
      have = have_seen d g sites r.terminals (positions_in table) kept is w terminals at have;
      sum = sum;
      whole = w;
    }
