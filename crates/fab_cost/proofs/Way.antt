-- A value whose placement is on its way to another: one more swap.
use Rattle.std.proofs.Common.{◌≢◌, zero, suc, eqb, set, ◌∷◌, Option, Some, None, get_or-set_other, ◌≡◌, ℕ, ◌<◌, ◌≤◌, Bool, true, false, cond, List, [], length, get_or, map, refl, sym, ap, ◌∙◌, arith, inl, inr}
use Rattle.std.proofs.lemmas.Bool.{cases_lt, eq-eqb, false≢true}
use Rattle.std.proofs.lemmas.List.{length-map}
use Rattle.fab_arch.specs.declared.array.Site.{Site}
use Rattle.fab_arch.specs.Grid.{GridShape}
use Rattle.fab_net.specs.Netlist.{Netlist, has_number, IsLawful}
use Rattle.fab_net.specs.declared.netlist_types.BlockId.{BlockId}
use Rattle.fab_site.specs.declared.placement_types.Swap.{Swap}
use Rattle.fab_site.specs.Placement.{swapped}
use Rattle.fab_site.proofs.Swaps.{length-swapped}
use Rattle.fab_cost.specs.declared.edge_counts.CountedBox.{CountedBox}
use Rattle.fab_cost.specs.Boxes.{Counts}
use Rattle.fab_cost.specs.Cost.{cost_of, sites_on}
use Rattle.fab_cost.specs.Edges.{counted_box, counted_on, edges_of}
use Rattle.fab_cost.specs.Swapping.{CountedBoxesOf, CountedStandsFor, HaveBoxes, IsOnTheWay, Position, position_at, blocks_of, counted_at, counted_blocks, has_block, is_on_swap, positions_after, positions_with}
use Rattle.fab_cost.specs.Runs.{boxes_seen, counted_over, no_position}
use Rattle.fab_cost.proofs.Kept.{nets_long, over_is, row_counted, seen_large, seen_long, seen_small, map_each}
use Rattle.fab_cost.proofs.Renewals.{none_left}
use Rattle.fab_cost.proofs.Split.{same_sites}

-- where the terminals are the same, the box is
same_box : (d : Netlist) (g : GridShape) (sites there : List Site) (n : ℕ) → sites_on d sites n ≡ sites_on d there n → counted_box d g sites n ≡ counted_box d g there n
unfolding counted_box
same_box d g sites there n e = ap (counted_on g) e

abbrev shown : List (List ℕ) → List Position → List CountedBox → ℕ → CountedBoxesOf
shown nets ps kept total = record { nets = nets; positions = ps; boxes = boxes_seen nets ps kept; total = total }

-- the box of a net with many terminals
large_way : (d : Netlist) (g : GridShape) (sites there : List Site) (s : Swap) (nets fnets : List (List ℕ)) (ps fps : List Position) (old fkept kept : List CountedBox) (was n : ℕ) → nets ≡ counted_blocks d → fnets ≡ counted_blocks d
    → IsOnTheWay (shown nets ps old was) d g sites there → HaveBoxes (boxes_seen fnets fps fkept) d g there → Counts d n → 16 < length (blocks_of d n)
    → sites_on d (swapped sites s) n ≡ sites_on d there n → (b : Bool) → is_on_swap d s n ≡ b → counted_at kept n ≡ counted_at (cond b fkept old) n → counted_at kept n ≡ counted_box d g there n
large_way d g sites there s nets fnets ps fps old fkept kept was n en ef up live c many same true on e =
    let low : n < length fnets = (let w = c.within in let l = nets_long d fnets ef in omega (arith, w, l)) in
    let m : 16 < length (get_or fnets n []) = (let l = ap length (row_counted d fnets n ef c) in omega (arith, many, l)) in
    e ∙ sym (seen_large fnets fps fkept n low m) ∙ live.each n c
large_way d g sites there s nets fnets ps fps old fkept kept was n en ef up live c many same false off e =
    let low : n < length nets = (let w = c.within in let l = nets_long d nets en in omega (arith, w, l)) in
    let m : 16 < length (get_or nets n []) = (let l = ap length (row_counted d nets n en c) in omega (arith, many, l)) in
    let p = none_left (has_number s.block.0 (blocks_of d n)) (has_block s.other (blocks_of d n)) off in
    e ∙ sym (seen_large nets ps old n low m) ∙ up.each n c (sym (same_sites d sites s n p.0 p.1) ∙ same)

pub one_more : (d : Netlist) (g : GridShape) (sites there : List Site) (s : Swap) (nets fnets : List (List ℕ)) (ps fps qs : List Position) (old fkept kept : List CountedBox) (was total : ℕ) → IsLawful d → fnets ≡ counted_blocks d
    → IsOnTheWay (shown nets ps old was) d g sites there → HaveBoxes (boxes_seen fnets fps fkept) d g there
    → qs ≡ map (position_at g) (swapped sites s) → ((n : ℕ) → Counts d n → counted_at kept n ≡ counted_at (cond (is_on_swap d s n) fkept old) n)
    → IsOnTheWay (shown nets qs kept total) d g (swapped sites s) there
one_more d g sites there s nets fnets ps fps qs old fkept kept was total is ef up live eq each =
    let en = up.made.nets in
    let whole : length d.kinds ≡ length (swapped sites s) = up.whole ∙ sym (length-swapped sites s) in
    record {
      made = record { nets = en; blocks = ap length eq ∙ length-map (swapped sites s) (position_at g) ∙ sym whole };
      at = eq;
      long = seen_long nets qs kept ∙ nets_long d nets en;
      each = λ n c same.
          let low : n < length nets = (let w = c.within in let l = nets_long d nets en in omega (arith, w, l)) in
          let row = row_counted d nets n en c in
          elim (cases_lt 16 (length (blocks_of d n))) [
            | inl l ↦
                (let m : 16 < length (get_or nets n []) = (let k = ap length row in omega (arith, l, k)) in
                seen_large nets qs kept n low m ∙ large_way d g sites there s nets fnets ps fps old fkept kept was n en ef up live c l same (is_on_swap d s n) refl (each n c))
            | inr h ↦
                (let m : length (get_or nets n []) ≤ 16 = (let k = ap length row in omega (arith, h, k)) in
                seen_small nets qs kept n low m ∙ ap (counted_over qs) row ∙ over_is d g (swapped sites s) qs n is whole eq ∙ same_box d g (swapped sites s) there n same)
          ];
      whole = whole;
    }

-- a net of no block of the swap is left as it was

with_stays : (g : GridShape) (ps : List Position) (o : Option BlockId) (s : Site) (k : ℕ) → ((b : BlockId) → o ≡ Some b → k ≢ b.0) → get_or (positions_with g ps o s) k no_position ≡ get_or ps k no_position
with_stays g ps None s k ne = refl
with_stays g ps (Some b) s k ne = get_or-set_other ps b.0 k (position_at g s) no_position (ne b refl)

position_stays : (g : GridShape) (ps : List Position) (s : Swap) (k : ℕ) → k ≢ s.block.0 → ((b : BlockId) → s.other ≡ Some b → k ≢ b.0) → get_or (positions_after g ps s) k no_position ≡ get_or ps k no_position
position_stays g ps s k one other = with_stays g (set ps s.block.0 (position_at g s.to)) s.other s.from k other ∙ get_or-set_other ps s.block.0 k (position_at g s.to) no_position one

each_apart : (v : ℕ) (xs : List ℕ) → has_number v xs ≡ false → (i : ℕ) → i < length xs → get_or xs i 0 ≢ v
each_apart v [] f i h = absurd (omega arith)
each_apart v (x ∷ xs) f zero h = λ e. false≢true (sym (none_left (eqb v x) (has_number v xs) f).0 ∙ eq-eqb v x (sym e))
each_apart v (x ∷ xs) f (suc i) h = each_apart v xs (none_left (eqb v x) (has_number v xs) f).1 i (omega (arith, h))

over_stays : (g : GridShape) (ps : List Position) (s : Swap) (bs : List ℕ) → has_number s.block.0 bs ≡ false → has_block s.other bs ≡ false → counted_over (positions_after g ps s) bs ≡ counted_over ps bs
unfolding counted_over
over_stays g ps s bs one other =
    let at : (i : ℕ) → i < length bs → get_or (positions_after g ps s) (get_or bs i 0) no_position ≡ get_or ps (get_or bs i 0) no_position =
    λ i h. position_stays g ps s (get_or bs i 0) (each_apart s.block.0 bs one i h) (λ b e. each_apart b.0 bs (ap (λ o. has_block o bs) (sym e) ∙ other) i h) in
    let xs = map_each (λ k. (get_or (positions_after g ps s) k no_position).x) (λ k. (get_or ps k no_position).x) bs (λ i h. ap (λ (p : Position). p.x) (at i h)) in
    let ys = map_each (λ k. (get_or (positions_after g ps s) k no_position).y) (λ k. (get_or ps k no_position).y) bs (λ i h. ap (λ (p : Position). p.y) (at i h)) in
    λ j. record { x = edges_of (xs j); y = edges_of (ys j) }

pub left_as_it_was : (d : Netlist) (g : GridShape) (s : Swap) (nets : List (List ℕ)) (ps qs : List Position) (old fkept kept : List CountedBox) (n : ℕ) → nets ≡ counted_blocks d → qs ≡ positions_after g ps s → Counts d n → is_on_swap d s n ≡ false
    → counted_at kept n ≡ counted_at (cond (is_on_swap d s n) fkept old) n → counted_at (boxes_seen nets qs kept) n ≡ counted_at (boxes_seen nets ps old) n
left_as_it_was d g s nets ps qs old fkept kept n en eq c off each =
    let low : n < length nets = (let w = c.within in let l = nets_long d nets en in omega (arith, w, l)) in
    let row = row_counted d nets n en c in
    let p = none_left (has_number s.block.0 (blocks_of d n)) (has_block s.other (blocks_of d n)) off in
    elim (cases_lt 16 (length (get_or nets n []))) [
      | inl l ↦ seen_large nets qs kept n low l ∙ each ∙ (λ i. counted_at (cond (off i) fkept old) n) ∙ sym (seen_large nets ps old n low l)
      | inr h ↦ seen_small nets qs kept n low h ∙ ap (counted_over qs) row ∙ ap (λ v. counted_over v (blocks_of d n)) eq ∙ over_stays g ps s (blocks_of d n) p.0 p.1 ∙ ap (counted_over ps) (sym row) ∙ sym (seen_small nets ps old n low h)
    ]

-- at the start, and where it has arrived

pub sets_out : (b : CountedBoxesOf) (d : Netlist) (g : GridShape) (sites there : List Site) → CountedStandsFor b d g sites → IsOnTheWay b d g sites there
sets_out b d g sites there stands = record {
  made = stands.made;
  at = stands.at;
  long = stands.have.long;
  each = λ n c same. stands.have.each n c ∙ same_box d g sites there n same;
  whole = stands.whole;
}

pub arrives : (b : CountedBoxesOf) (d : Netlist) (g : GridShape) (sites : List Site) → IsOnTheWay b d g sites sites → b.total ≡ cost_of d g sites → CountedStandsFor b d g sites
arrives b d g sites up total = record {
  made = up.made;
  at = up.at;
  have = record { long = up.long; each = λ n c. up.each n c refl };
  sum = total;
  whole = up.whole;
}
