use Rattle.std.proofs.Common.{length, sym, subst, arith, true}
use Rattle.fab_commit.specs.Run.Commits.{run_for}
use Rattle.fab_commit.specs.Run.Followed.{IsTied}
use Rattle.fab_commit.proofs.RunLemmas.Moves.{may_less, open_less}
use Rattle.fab_commit.proofs.run.followed.commit_next.Goals as goal

pub commit_foreseen-requires-clause-may : goal.commit_foreseen-requires-clause-may
commit_foreseen-requires-clause-may g c κs within =
    may_less true (run_for g.W.Words.moves c.args.given.now) c.args.owner.now c.args.ahead.base c.args.ahead.moves (length c.foreseen_from-foreseen.result.now) c.requires.may c.foreseen_from-foreseen.ensures.most

pub commit_foreseen-requires-clause-due : goal.commit_foreseen-requires-clause-due
commit_foreseen-requires-clause-due g c κs within =
    let r = run_for g.W.Words.moves c.args.given.now in
    let next = open_less r c.args.owner.now c.args.ahead.base c.args.ahead.moves (length c.foreseen_from-foreseen.result.now) c.foreseen_from-foreseen.ensures.most c.requires.due.0 in
    let tied = subst (λ f. IsTied g.S.Pursue.run g.S.Pursue.standing g.S.Follow.after g.J.Origin.start f.1 r next.due.start) (sym c.look.ensures) (subst (IsTied g.S.Pursue.run g.S.Pursue.standing g.S.Follow.after g.J.Origin.start c.args.followers.now.1 r) (sym next.is) c.requires.due.1) in
    (next.due, c.foreseen_from-foreseen.ensures.each r next.due.start tied)

pub commit_alone-requires-clause-may : goal.commit_alone-requires-clause-may
commit_alone-requires-clause-may g c κs within =
    let some = c.requires.some in
    let left = c.min-left.ensures in
    let moves = c.max-moves.ensures in
    may_less true (run_for g.W.Words.moves c.args.given.now) c.args.owner.now c.args.ahead.base c.args.ahead.moves c.max-moves.result c.requires.may (omega (arith, some, left, moves))
