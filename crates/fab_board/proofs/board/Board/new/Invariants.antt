use Rattle.std.proofs.Common.{◌≡◌, ◌+◌, ◌-◌, [], length, All, false}
use Rattle.fab_board.specs.Dealt.{knows}
use Rattle.fab_board.proofs.board.Board.new.Given as goal

abbrev pub invariant-loop-part : goal.invariant-loop-part
invariant-loop-part l = (l.seat.table_id ≡ l.table.shared.table_id) × (l.seat.me ≡ (knows l.count (l.seats + 1 - l._part) [] 0, [])) × (length l.all.items + 1 ≡ l._part)
    × All (λ s. (s.board ≡ record { table = l.table.shared.table_id; count = l.count }) × (s.list ≡ []) × (s.told ≡ false)) l.all.items
