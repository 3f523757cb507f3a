use Rattle.fab_commit.proofs.ModelLemmas.Reasons.{moves_compose}
use Rattle.fab_commit.proofs.laws.moves_compose.Goals as goal

pub returns : goal.returns
returns c = moves_compose
