use Rattle.std.proofs.Common.{◌≡◌, All, length}
use Rattle.fab_board.proofs.follow_crew.seats_of.Given as goal

abbrev pub invariant-loop-worker : goal.invariant-loop-worker
invariant-loop-worker g l = All (λ s. s.board ≡ g.J.Boarding.board) l.room.items

abbrev pub decreases-loop-worker : goal.decreases-loop-worker
decreases-loop-worker g l = length l.workers.items
