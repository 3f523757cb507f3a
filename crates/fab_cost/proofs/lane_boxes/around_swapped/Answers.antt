use Rattle.fab_site.specs.Placement.{swapped}
use Rattle.fab_cost.specs.Runs.{lanes_in}
use Rattle.fab_cost.proofs.LaneBoxes.{more}
use Rattle.fab_cost.proofs.lane_boxes.around_swapped.Goals as goal

pub terminals-preserved : goal.terminals-preserved
terminals-preserved c =
    let g = c.args.grid.now in
    let sites = c.args.placement.now.sites in
    let ts = c.args.terminals.now in
    more (lanes_in g (swapped sites c.args.swap.now)) ts c.terminals.i _ c.terminals.all c.lanes_swapped-one.result c.joined-all.result c.terminals-test.true c.terminals.invariant
    (c.lanes_swapped-one.ensures g sites c.requires.lawful c.requires.table c.lanes_of-to.ensures c.lanes_of-from.ensures (c.requires.within c.terminals.i _ c.terminals-test.true)) c.joined-all.ensures
