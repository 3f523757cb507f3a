use Rattle.std.proofs.Common.{List, length, refl, sym, ap, subst, ◌∙◌, arith}
use Rattle.std.specs.Prelude.{IfSome}
use Rattle.fab_commit.specs.declared.run.post.Post.{Post}
use Rattle.fab_commit.specs.Run.Commits.{run_for}
use Rattle.fab_commit.specs.Run.Followed.{IsTied}
use Rattle.fab_commit.specs.Run.Foreseen.{AreForeseen}
use Rattle.fab_commit.proofs.run.crew_turn.judged_ahead.Goals as goal

pub post-requires : goal.post-requires
post-requires g c =
    let r = run_for g.W.Words.moves c.args.given.now in
    let m = c.requires.may in
    record { may = (r, m.0, subst (λ w. IfSome w (λ f. IsTied g.S.Pursue.run g.S.Pursue.standing g.S.Follow.after g.J.Origin.start f.0 r m.0)) c.in-Some.is m.2, m.1) }

pub verdicts_of-requires-clause-foreseen : goal.verdicts_of-requires-clause-foreseen
verdicts_of-requires-clause-foreseen g c =
    let r = run_for g.W.Words.moves c.args.given.now in
    let m = c.requires.may in
    let tied = subst (λ w. IfSome w (λ f. IsTied g.S.Pursue.run g.S.Pursue.standing g.S.Follow.after g.J.Origin.start f.0 r m.0)) c.in-Some.is m.2 in
    (m.0, subst (AreForeseen r m.0 c.args.range.first) (sym c.deref.ensures.value) (c.in_ok-foreseen.ensures.are m.0 (subst (λ (l : List Post). IsTied g.S.Pursue.run g.S.Pursue.standing g.S.Follow.after g.J.Origin.start l r m.0) (sym (c.if-not-post.ensures.base refl)) tied)))

pub verdicts_of-requires-clause-limits : goal.verdicts_of-requires-clause-limits
verdicts_of-requires-clause-limits g c =
    let limits = c.requires.limits in
    let many = c.in_ok-foreseen.ensures.many in
    let same = ap (λ l. length l) c.deref.ensures.value in
    (limits.0, omega (arith, limits, many, same))

pub returns-clause-many : goal.returns-clause-many
returns-clause-many g c = c.in_ok-answers.ensures.many ∙ ap (λ l. length l) c.deref.ensures.value ∙ c.in_ok-foreseen.ensures.many

pub returns-clause-judged : goal.returns-clause-judged
returns-clause-judged g c x tied =
    let r = run_for g.W.Words.moves c.args.given.now in
    let here = subst (λ w. IfSome w (λ f. IsTied g.S.Pursue.run g.S.Pursue.standing g.S.Follow.after g.J.Origin.start f.0 r x)) c.in-Some.is tied in
    let sights = c.in_ok-foreseen.ensures.are x (subst (λ (l : List Post). IsTied g.S.Pursue.run g.S.Pursue.standing g.S.Follow.after g.J.Origin.start l r x) (sym (c.if-not-post.ensures.base refl)) here) in
    record {
      answers_are = c.in_ok-answers.ensures.are x (subst (AreForeseen r x c.args.range.first) (sym c.deref.ensures.value) sights);
      foreseen_are = sights;
      long = sym (c.in_ok-answers.ensures.many ∙ ap (λ l. length l) c.deref.ensures.value);
    }
