use Rattle.fab_commit.proofs.ModelLemmas.Reasons.{accepted_serial, redone_serial}
use Rattle.fab_commit.proofs.laws.spoiled_verdicts_are_serial.Goals as goal

pub returns-clause-accepted : goal.returns-clause-accepted
returns-clause-accepted c = accepted_serial

pub returns-clause-redone : goal.returns-clause-redone
returns-clause-redone c = redone_serial
