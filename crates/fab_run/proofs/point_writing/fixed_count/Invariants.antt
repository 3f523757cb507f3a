use Rattle.std.proofs.Common.{◌≡◌, ◌≤◌, length}
use Rattle.fab_run.proofs.PointPushed.{fixed_below}
use Rattle.fab_run.proofs.point_writing.fixed_count.Given as goal

abbrev pub invariant-loop-b : goal.invariant-loop-b
invariant-loop-b l = (l.count ≡ length (fixed_below l.fixed l.b)) × (l.count ≤ l.b)
