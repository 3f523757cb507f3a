use Rattle.std.proofs.Common.{◌+◌, get_or, ap, subst}
use Rattle.fab_board.specs.Follows.{IsAnswerAfter, followed}
use Rattle.fab_commit.specs.Run.Foreseen.{IsForeseen}
use Rattle.fab_commit.proofs.run.followers.Followers.foreseen_from.Goals as goal

pub returns-clause-each : goal.returns-clause-each
returns-clause-each g c = λ r x tied i f low.
    let here = followed g.S.Follow.after tied.0 c.args.self.now.1 in
    let number = c.args.number + i in
    let seen = get_or c.answers.result.now i f in
    let answered = subst (λ posts. IsAnswerAfter g.S.Follow.after g.S.Follow.answer g.J.Origin.start posts number seen) (ap (λ lead. lead.1) c.self.view_is) (c.answers.ensures.each i f low) in
    let is = g.met.S.Pursue.answers here number seen (answered tied.0 tied.1) in
    subst (λ y. IsForeseen r y number seen) tied.3 (subst (λ q. IsForeseen q (g.S.Pursue.standing here) number seen) tied.2 is)
