use Rattle.fab_commit.proofs.ModelLemmas.Reasons.{stamps_tell}
use Rattle.fab_commit.proofs.laws.stamps_tell.Goals as goal

pub returns : goal.returns
returns c = stamps_tell
