use Rattle.fab_sched.proofs.Falling.{colder_on}
use Rattle.fab_sched.proofs.schedules.Schedule.next_stage.Goals as goal

pub returns-clause-falls : goal.returns-clause-falls
returns-clause-falls c = colder_on c.args.self.now c.args.side c.args.stage.now c.args.accepted c.following_stage.result c.following_stage.ensures.stage c.following_stage.ensures.lawful c.requires.side.0 c.requires.stage
