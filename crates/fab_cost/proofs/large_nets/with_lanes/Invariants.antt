use Rattle.fab_cost.proofs.EdgeLanes.{AreInnerTo}
use Rattle.fab_cost.proofs.large_nets.with_lanes.Given as goal

abbrev pub invariant-boxes : goal.invariant-boxes
invariant-boxes l = AreInnerTo l.inner.items l.most.items l.boxes.items l.i
