use Rattle.std.proofs.Common.{◌∙◌}
use Rattle.fab_cost.proofs.LaneBoxes.{moved, back, still}
use Rattle.fab_cost.proofs.lane_boxes.lanes_swapped.Goals as goal
use Rattle.fab_cost.proofs.lane_boxes.lanes_swapped.Goals.{then-eq, else-eq, then-eq-2, else-eq-2}

pub returns : goal.returns
returns c = λ g sites lawful table to from low.
    let s = c.args.swap.now in
    elim c.if-eq.branch [
      | then-eq w ↦ w.result-is ∙ moved g sites s c.args.block c.args.to lawful w.if-eq.ensures to low
      | else-eq w ↦ w.result-is ∙ elim w.if-eq-2.branch [
        | then-eq-2 w2 ↦ w2.result-is ∙ back g sites s c.args.block c.args.back c.args.from lawful c.requires.back w2.if-eq-2.ensures w.if-eq.ensures from low
        | else-eq-2 w2 ↦ w2.result-is ∙ still g sites s c.args.block c.args.back c.args.lanes.now _ c.requires.back w2.if-eq-2.ensures w.if-eq.ensures table low
      ]
    ]
