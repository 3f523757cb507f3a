use Rattle.std.proofs.Common.{◌≡◌}
use Rattle.fab_commit.proofs.board_tests.drain.Given as goal

abbrev pub invariant-loop-turn : goal.invariant-loop-turn
invariant-loop-turn g l = l.seat.board ≡ l.board.name
