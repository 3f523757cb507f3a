use Rattle.fab_run.proofs.PointLists.{Naming}
use Rattle.fab_run.proofs.point_reading.take_names.Given as goal

abbrev pub invariant-names : goal.invariant-names
invariant-names l = Naming l.version l.design l.count l.fn.left l.left l.named.items l.counter
