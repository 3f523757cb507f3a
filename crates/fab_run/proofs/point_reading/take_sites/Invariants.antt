use Rattle.fab_run.proofs.PointLists.{Seating}
use Rattle.fab_run.proofs.point_reading.take_sites.Given as goal

abbrev pub invariant-places : goal.invariant-places
invariant-places l = Seating l.design l.grid l.fn.left l.left l.placed l.counter
