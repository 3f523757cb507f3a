use Rattle.std.proofs.Common.{◌≡◌, ◌++◌, map}
use Rattle.std.specs.List.{flat_map}
use Rattle.fab_file.specs.Written.{ended}
use Rattle.fab_run.specs.PointText.{fixed_line}
use Rattle.fab_run.proofs.PointPushed.{fixed_below}
use Rattle.fab_run.proofs.point_writing.push_fixed.Given as goal

abbrev pub invariant-loop-b : goal.invariant-loop-b
invariant-loop-b l = l.text.items ≡ l.initial.text.items ++ flat_map ended (map (fixed_line l.design) (fixed_below l.fixed l.b))
