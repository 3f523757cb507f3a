-- A large net that a swap does not change is passed, and its box is renewed all the same.
use Rattle.std.proofs.Common.{◌≡◌, ℕ, ◌+◌, ◌<◌, Bool, true, false, List, length, get_or, Option, refl, sym, ap, ◌∙◌, arith, inl, inr}
use Rattle.std.proofs.lemmas.Bool.{cases_Bool, cases_eq}
use Rattle.fab_arch.specs.declared.array.Site.{Site}
use Rattle.fab_arch.specs.Grid.{GridShape}
use Rattle.fab_net.specs.declared.netlist_types.BlockId.{BlockId}
use Rattle.fab_net.specs.Netlist.{Netlist, nets_of}
use Rattle.fab_site.specs.declared.placement_types.Swap.{Swap}
use Rattle.fab_site.specs.Placement.{swapped, IsSwapOf}
use Rattle.fab_cost.specs.declared.edge_counts.CountedBox.{CountedBox}
use Rattle.fab_cost.specs.Boxes.{Counts}
use Rattle.fab_cost.specs.Changes.{IsChange, Surrounds}
use Rattle.fab_cost.specs.Edges.{counted_box}
use Rattle.fab_cost.specs.Swapping.{AreRenewed, blocks_of, cost_unless, counted_at, has_block, sites_by}
use Rattle.fab_cost.proofs.Changes.{left_out, passed, passed_box}
use Rattle.fab_cost.proofs.Renewals.{done_elsewhere, done_here, done_to, old_here}

pub exact_change : (before after gained lost : ℕ) → gained ≡ after → lost ≡ before → IsChange before after gained lost
exact_change before after gained lost g l = record { balance = omega (arith, g, l); gained_within = omega (arith, g); lost_within = omega (arith, l) }

-- the box is the same before and after, so it is one after
box_done : (boxes : List CountedBox) (d : Netlist) (g : GridShape) (sites : List Site) (s : Swap) (n : ℕ) → IsSwapOf g sites s → Surrounds g (counted_at boxes n) s → (done : Bool) → counted_at boxes n ≡ counted_box d g (sites_by done sites (swapped sites s)) n → counted_at boxes n ≡ counted_box d g (swapped sites s) n
box_done boxes d g sites s n is around true e = e
box_done boxes d g sites s n is around false e = passed_box d g g sites s n (counted_at boxes n) is around e

pub net_passed : (boxes : List CountedBox) (d : Netlist) (g : GridShape) (sites : List Site) (s : Swap) (b : ℕ) (but : Option BlockId) (k n : ℕ) → IsSwapOf g sites s → AreRenewed boxes d g sites (swapped sites s) (done_to d b but k) → Counts d n → k < length (nets_of d b) → n ≡ get_or (nets_of d b) k 0 → Surrounds g (counted_at boxes n) s
    → AreRenewed boxes d g sites (swapped sites s) (done_to d b but (k + 1)) × IsChange (cost_unless d g sites but n) (cost_unless d g (swapped sites s) but n) 0 0
net_passed boxes d g sites s b but k n is left c h e around = (
  record {
    long = left.long;
    each = λ m cm. elim (cases_eq m n) [
      | inl q ↦
          ap (counted_at boxes) q ∙ box_done boxes d g sites s n is around (done_to d b but k n) (left.each n c)
          ∙ sym (ap (λ v. counted_box d g (sites_by v sites (swapped sites s)) n) (done_here d b but k n h e)) ∙ ap (λ v. counted_box d g (sites_by (done_to d b but (k + 1) v) sites (swapped sites s)) v) (sym q)
      | inr ne ↦ left.each m cm ∙ ap (λ v. counted_box d g (sites_by v sites (swapped sites s)) m) (sym (done_elsewhere d b but k n m h e ne))
    ];
  },
  elim (cases_Bool (has_block but (blocks_of d n))) [
    | inl t ↦ left_out d g sites (swapped sites s) but n (has_block but (blocks_of d n)) refl t
    | inr f ↦ passed d g g sites s but n (counted_at boxes n) is around (old_here boxes d g sites (swapped sites s) b but k n (has_block but (blocks_of d n)) (counted_at boxes n) left c h e refl f refl)
  ],
)
