use Rattle.fab_commit.proofs.ModelLemmas.Reasons.{verdicts_of_their_base}
use Rattle.fab_commit.proofs.laws.verdicts_are_of_their_base.Goals as goal

pub returns : goal.returns
returns c = verdicts_of_their_base
