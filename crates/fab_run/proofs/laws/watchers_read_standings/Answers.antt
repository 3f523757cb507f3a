use Rattle.fab_run.proofs.Watching.{pieces_show, turns_show, watchers_read_in_order, watchers_read_standings}
use Rattle.fab_run.proofs.laws.watchers_read_standings.Goals as goal

pub returns-clause-turns : goal.returns-clause-turns
returns-clause-turns g c = turns_show g.W.Words.moves

pub returns-clause-pieces : goal.returns-clause-pieces
returns-clause-pieces g c = pieces_show

pub returns-clause-watched : goal.returns-clause-watched
returns-clause-watched g c = watchers_read_standings g.W.Words.moves

pub returns-clause-order : goal.returns-clause-order
returns-clause-order g c = watchers_read_in_order g.W.Words.moves
