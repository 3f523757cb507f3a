use Rattle.fab_run.proofs.Lawful.{moves_keep_standings, resumed_begin_lawfully, runs_begin_lawfully}
use Rattle.fab_run.proofs.laws.standings_are_lawful.Goals as goal

pub returns-clause-moves : goal.returns-clause-moves
returns-clause-moves c = moves_keep_standings

pub returns-clause-runs : goal.returns-clause-runs
returns-clause-runs c = runs_begin_lawfully

pub returns-clause-resumed : goal.returns-clause-resumed
returns-clause-resumed c = resumed_begin_lawfully
