use Rattle.fab_commit.proofs.run.state.judge_on.Goals as goal

pub returns-clause-lawful : goal.returns-clause-lawful
returns-clause-lawful g c = rw (c.view_of.ensures.placement, c.view_of.ensures.grid) at c.judge.ensures.lawful
