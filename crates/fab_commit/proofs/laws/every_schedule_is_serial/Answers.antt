use Rattle.fab_commit.proofs.ModelLemmas.Schedules.{serial}
use Rattle.fab_commit.proofs.laws.every_schedule_is_serial.Goals as goal

pub returns : goal.returns
returns c = serial
