use Rattle.vplace.proofs.Chains.{pieces_are_one_run, unbroken_calls_are_told}
use Rattle.vplace.proofs.laws.pieces_are_one_run.Goals as goal

pub returns-clause-one : goal.returns-clause-one
returns-clause-one c = pieces_are_one_run

pub returns-clause-told : goal.returns-clause-told
returns-clause-told c = unbroken_calls_are_told
