use Rattle.fab_run.proofs.Lawful.{watchers_read_lawful}
use Rattle.fab_run.proofs.laws.readings_are_of_lawful_standings.Goals as goal

pub returns : goal.returns
returns g c = watchers_read_lawful g.W.Words.moves
