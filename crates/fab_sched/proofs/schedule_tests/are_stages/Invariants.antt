use Rattle.fab_sched.specs.Annealing.{IsStage}
use Rattle.fab_sched.proofs.schedule_tests.are_stages.Given as goal

abbrev pub invariant-rows : goal.invariant-rows
invariant-rows l = IsStage l.schedule l.side l.stage
