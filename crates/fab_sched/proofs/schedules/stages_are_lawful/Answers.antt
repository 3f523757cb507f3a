use Rattle.fab_sched.proofs.Falling.{first_is, goes_on, few_moves}
use Rattle.fab_sched.proofs.schedules.stages_are_lawful.Goals as goal

pub returns : goal.returns
returns c = record { first = first_is; next = goes_on; few = few_moves }
