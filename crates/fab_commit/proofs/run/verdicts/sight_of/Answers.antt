use Rattle.std.proofs.Common.{List, sym, subst}
use Rattle.fab_commit.specs.declared.run.post.Post.{Post}
use Rattle.fab_commit.specs.Run.Commits.{run_for}
use Rattle.fab_commit.specs.Run.Followed.{IsTied}
use Rattle.fab_commit.proofs.run.verdicts.sight_of.Goals as goal

pub returns-in-Some-clause-is : goal.returns-in-Some-clause-is
returns-in-Some-clause-is g c x tied =
    c.in-Some.ensures (run_for g.W.Words.moves c.args._given.now) x (subst (λ (f : List Post × List Post). IsTied g.S.Pursue.run g.S.Pursue.standing g.S.Follow.after g.J.Origin.start f.1 (run_for g.W.Words.moves c.args._given.now) x) (sym c.seek.ensures) tied)
