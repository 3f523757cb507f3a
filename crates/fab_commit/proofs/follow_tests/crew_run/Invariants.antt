use Rattle.std.proofs.Common.{Some}
use Rattle.fab_commit.proofs.follow_tests.crew_run.Given as goal

abbrev pub ghosts-posted_by-J-Naming : goal.ghosts-posted_by-J-Naming
ghosts-posted_by-J-Naming g a = record { book = a.opened }

abbrev pub ghosts-posted_by-J-Boarding : goal.ghosts-posted_by-J-Boarding
ghosts-posted_by-J-Boarding g a = record { board = a.founded.board.name }

abbrev pub ghosts-posted_by-J-Origin : goal.ghosts-posted_by-J-Origin
ghosts-posted_by-J-Origin g a = record { start = Some a.founded.first }
