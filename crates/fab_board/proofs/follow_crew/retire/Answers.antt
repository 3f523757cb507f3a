use Rattle.std.proofs.Common.{sym, ◌∙◌, arith}
use Rattle.fab_board.proofs.follow_crew.retire.Goals as goal

pub invariant_of-result : goal.invariant_of-result
invariant_of-result g c =
    let all = c.if-len-seats.false in
    let long = c.len.ensures in
    let many = c.seats.ensures in
    let is = c.board.view_is in
    (omega (arith, all, long, many), λ k d l. c.in_ok-seats.ensures k d l ∙ sym c.into_board-board.ensures)
