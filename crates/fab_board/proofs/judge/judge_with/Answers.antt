use Rattle.std.proofs.Common.{◌+◌, get_or, subst}
use Rattle.fab_board.proofs.Placing.{given_by, if_ok}
use Rattle.fab_board.proofs.judge.judge_with.Goals as goal

pub returns-clause-each : goal.returns-clause-each
returns-clause-each g c =
    let parts = c.in_ok-parts.parts in
    if_ok _ _ c.judged_by.result
    (λ v h k d l. subst (λ b. g.B.Judging.gives b (c.args.ask.first + k) (get_or v.items k d)) c.in_ok-parts.ensures.first (given_by g.B.Judging.gives parts.first (c.args.ask.first + k) (get_or v.items k d) (h k d l)))
    c.judged_by.ensures.each
