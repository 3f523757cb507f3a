use Rattle.std.proofs.Common.{◌≡◌, []}
use Rattle.fab_board.proofs.Gathering.{Gathered}
use Rattle.fab_board.proofs.board.gather.Given as goal

abbrev pub invariant-loop-next : goal.invariant-loop-next
invariant-loop-next l = (l.seat.table_id ≡ l.shared.table_id) × (l.seat.me.1 ≡ []) × Gathered l.shared.table_id l.fn.seats.items l.seats.items l.seat.me.0

abbrev pub decreases-loop-next : goal.decreases-loop-next
decreases-loop-next l = goal.left-loop-next l
