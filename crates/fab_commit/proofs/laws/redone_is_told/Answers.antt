use Rattle.fab_commit.proofs.ModelLemmas.RunLaws.{redone_in_runs, ways_of_a_beginning, ways_of_a_turn, ways_of_runs}
use Rattle.fab_commit.proofs.laws.redone_is_told.Goals as goal

pub returns-clause-beginning : goal.returns-clause-beginning
returns-clause-beginning c = ways_of_a_beginning

pub returns-clause-turn : goal.returns-clause-turn
returns-clause-turn c = ways_of_a_turn

pub returns-clause-ways : goal.returns-clause-ways
returns-clause-ways c = ways_of_runs

pub returns-clause-runs : goal.returns-clause-runs
returns-clause-runs c = redone_in_runs
