use Rattle.std.proofs.Common.{Some}
use Rattle.fab_board.proofs.judge.judge_with.Given as goal

abbrev pub ghosts-judged_by-J-Naming : goal.ghosts-judged_by-J-Naming
ghosts-judged_by-J-Naming g a = record { book = a.opened }

abbrev pub ghosts-judged_by-J-Boarding : goal.ghosts-judged_by-J-Boarding
ghosts-judged_by-J-Boarding g a = record { board = a.parts.board.name }

abbrev pub ghosts-judged_by-J-Origin : goal.ghosts-judged_by-J-Origin
ghosts-judged_by-J-Origin g a = record { start = Some a.parts.first }
