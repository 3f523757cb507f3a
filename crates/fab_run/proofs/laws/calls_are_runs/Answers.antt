use Rattle.fab_run.proofs.Calls.{calls_are_runs, resumed_calls_are_runs}
use Rattle.fab_run.proofs.laws.calls_are_runs.Goals as goal

pub returns-clause-placed : goal.returns-clause-placed
returns-clause-placed c = calls_are_runs

pub returns-clause-resumed : goal.returns-clause-resumed
returns-clause-resumed c = resumed_calls_are_runs
