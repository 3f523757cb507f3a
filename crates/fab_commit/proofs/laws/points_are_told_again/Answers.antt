use Rattle.fab_commit.proofs.RunLemmas.Standings.{points_are_told_again}
use Rattle.fab_commit.proofs.laws.points_are_told_again.Goals as goal

pub returns : goal.returns
returns g c = points_are_told_again g.W.Words.moves
