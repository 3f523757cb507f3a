use Rattle.fab_run.proofs.Chaining.{chains}
use Rattle.fab_run.proofs.laws.chains_are_runs.Goals as goal

pub returns : goal.returns
returns c = chains
