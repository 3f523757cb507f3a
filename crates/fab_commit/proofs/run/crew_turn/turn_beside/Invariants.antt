use Rattle.std.proofs.Common.{Some}
use Rattle.fab_commit.proofs.run.crew_turn.turn_beside.Given as goal

abbrev pub ghosts-turned_by-J-Naming : goal.ghosts-turned_by-J-Naming
ghosts-turned_by-J-Naming g a = record { book = a.opened }

abbrev pub ghosts-turned_by-J-Boarding : goal.ghosts-turned_by-J-Boarding
ghosts-turned_by-J-Boarding g a = record { board = a.parts.board.name }

abbrev pub ghosts-turned_by-J-Origin : goal.ghosts-turned_by-J-Origin
ghosts-turned_by-J-Origin g a = record { start = Some a.parts.first }
