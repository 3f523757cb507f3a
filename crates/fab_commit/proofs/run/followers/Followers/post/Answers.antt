use Rattle.std.proofs.Common.{ap}
use Rattle.fab_commit.proofs.RunLemmas.Followed.{tied_post}
use Rattle.fab_commit.proofs.run.followers.Followers.post.Goals as goal

pub returns-in-Ok-Some-clause-tied : goal.returns-in-Ok-Some-clause-tied
returns-in-Ok-Some-clause-tied g c = λ r x t _.
    tied_post g.S.Pursue.run g.S.Pursue.standing g.S.Follow.after g.J.Origin.start c.args.self.now.0 c.self.inside.lead.0 c.post.new.self.0 c.args.post r x g.met.S.Pursue.stays g.met.S.Pursue.goes (ap (λ w. w.0) c.self.view_is) c.in-Ok-Some.ensures.posts t

pub returns-in-Ok-None-clause-tied : goal.returns-in-Ok-None-clause-tied
returns-in-Ok-None-clause-tied g c = λ r x t _.
    tied_post g.S.Pursue.run g.S.Pursue.standing g.S.Follow.after g.J.Origin.start c.args.self.now.0 c.self.inside.lead.0 c.post.new.self.0 c.args.post r x g.met.S.Pursue.stays g.met.S.Pursue.goes (ap (λ w. w.0) c.self.view_is) c.in-Ok-None.ensures.posts t
