use Rattle.fab_run.proofs.SameAnswers.{answers_are_told, redone_is_told, resumed_are_told, resumed_redone_is_told, shown_is_told}
use Rattle.fab_run.proofs.laws.answers_are_told.Goals as goal

pub returns-clause-placed : goal.returns-clause-placed
returns-clause-placed c = answers_are_told

pub returns-clause-resumed : goal.returns-clause-resumed
returns-clause-resumed c = resumed_are_told

pub returns-clause-redone : goal.returns-clause-redone
returns-clause-redone c = redone_is_told

pub returns-clause-resumed_redone : goal.returns-clause-resumed_redone
returns-clause-resumed_redone c = resumed_redone_is_told

pub returns-clause-shown : goal.returns-clause-shown
returns-clause-shown c = shown_is_told
