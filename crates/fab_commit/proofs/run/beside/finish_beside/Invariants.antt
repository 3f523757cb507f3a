use Rattle.std.proofs.Common.{Some}
use Rattle.fab_commit.proofs.run.beside.finish_beside.Given as goal

abbrev pub ghosts-made_beside-J-Naming : goal.ghosts-made_beside-J-Naming
ghosts-made_beside-J-Naming g a = record { book = a.opened }

abbrev pub ghosts-made_beside-J-Boarding : goal.ghosts-made_beside-J-Boarding
ghosts-made_beside-J-Boarding g a = record { board = a.parts.board.name }

abbrev pub ghosts-made_beside-J-Origin : goal.ghosts-made_beside-J-Origin
ghosts-made_beside-J-Origin g a = record { start = Some a.parts.first }
