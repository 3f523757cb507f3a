use Rattle.std.proofs.Common.{get_or, ◌∙◌, arith}
use Rattle.fab_cost.proofs.LaneBoxes.{net_by_lanes}
use Rattle.fab_cost.proofs.Making.{terminals_within}
use Rattle.fab_cost.proofs.lane_boxes.box_by_lanes.Goals as goal

pub around_swapped-requires-clause-within : goal.around_swapped-requires-clause-within
around_swapped-requires-clause-within c = λ k z h.
    terminals_within c.args.design.now c.args.net.0 c.terminals-terminals.result.now c.args.placement.now.sites c.nets-nets.ensures.lawful c.requires.net.within c.terminals-terminals.ensures c.requires.whole k z h

pub invariant_of-result : goal.invariant_of-result
invariant_of-result c =
    let is = net_by_lanes c.args.design.now c.args.grid.now c.args.placement.now.sites c.args.swap.now c.args.net.0 c.terminals-terminals.result.now c.around_swapped.result c.nets-nets.ensures.lawful (omega arith, omega arith) (omega arith, omega arith) c.requires.net.within c.requires.whole c.terminals-terminals.ensures c.around_swapped.ensures in
    let x = is.columns in
    let y = is.rows in
    record { columns = omega (arith, x, c.saturating_sub.ensures); rows = omega (arith, y, c.saturating_sub-2.ensures) }

pub returns : goal.returns
returns c =
    let is = net_by_lanes c.args.design.now c.args.grid.now c.args.placement.now.sites c.args.swap.now c.args.net.0 c.terminals-terminals.result.now c.around_swapped.result c.nets-nets.ensures.lawful (omega arith, omega arith) (omega arith, omega arith) c.requires.net.within c.requires.whole c.terminals-terminals.ensures c.around_swapped.ensures in
    let v = c.around_swapped.result in
    (λ i. record { xmin = get_or v 0 0; xmax = c.saturating_sub.ensures i; ymin = get_or v 2 0; ymax = c.saturating_sub-2.ensures i }) ∙ is.is
