use Rattle.std.proofs.Common.{length, sym, ap, subst, ◌∙◌}
use Rattle.fab_cost.specs.Runs.{HasRecords}
use Rattle.fab_cost.specs.Swapping.{CountedBoxesOf}
use Rattle.fab_cost.proofs.edge_boxes.EdgeBoxes.lift_near.Goals as goal

pub lift_near-requires-clause-records : goal.lift_near-requires-clause-records
lift_near-requires-clause-records c =
    let d = c.args.design.now in
    subst (λ r. HasRecords r d) (sym c.deref.ensures) (c.self.invariant.runs d (ap (λ (b : CountedBoxesOf). b.nets) c.self.view_is ∙ c.requires.made.nets) (ap (λ (b : CountedBoxesOf). length b.positions) c.self.view_is ∙ c.requires.made.blocks))
