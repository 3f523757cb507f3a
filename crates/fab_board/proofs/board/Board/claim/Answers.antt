use Rattle.std.proofs.Common.{cond, ap, ◌∙◌, rules}
use Rattle.fab_board.proofs.Moves.{claims}
use Rattle.fab_board.proofs.board.Board.claim.Goals as goal

pub fetch_add-found-requires : goal.fetch_add-found-requires
fetch_add-found-requires c = (search rules, search rules, claims _ _ _ _ c.seat.invariant.1 (c.seat.invariant.2 ∙ ap (λ b. cond b 1 0) c.if-seat.false))
