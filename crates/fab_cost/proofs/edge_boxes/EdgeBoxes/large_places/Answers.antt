use Rattle.std.proofs.Common.{length, sym, ap, subst, ◌∙◌, arith}
use Rattle.fab_cost.specs.Runs.{AreLarge, HasRecords}
use Rattle.fab_cost.specs.Swapping.{CountedBoxesOf}
use Rattle.fab_cost.proofs.edge_boxes.EdgeBoxes.large_places.Goals as goal

pub large_row-requires : goal.large_row-requires
large_row-requires c =
    let d = c.args._design.now in
    let records : HasRecords c.deref-runs.result.now d = subst (λ r. HasRecords r d) (sym c.deref-runs.ensures) (c.self.invariant.runs d (ap (λ (b : CountedBoxesOf). b.nets) c.self.view_is ∙ c.requires.made.nets) (ap (λ (b : CountedBoxesOf). length b.positions) c.self.view_is ∙ c.requires.made.blocks)) in
    let long = records.large.long in
    let low = c.requires.block in
    omega (arith, long, low)

pub returns : goal.returns
returns c =
    let d = c.args._design.now in
    let records : HasRecords c.deref-runs.result.now d = subst (λ r. HasRecords r d) (sym c.deref-runs.ensures) (c.self.invariant.runs d (ap (λ (b : CountedBoxesOf). b.nets) c.self.view_is ∙ c.requires.made.nets) (ap (λ (b : CountedBoxesOf). length b.positions) c.self.view_is ∙ c.requires.made.blocks)) in
    subst (AreLarge d c.args.block.0) (sym c.large_row.ensures) (records.large.each c.args.block.0 c.requires.block)
