use Rattle.fab_move.proofs.Tested.{IsFree}
use Rattle.fab_move.proofs.cost_tests.is_free.Given as goal

abbrev pub invariant-loop-other : goal.invariant-loop-other
invariant-loop-other l = IsFree l.sites l.other l.block
