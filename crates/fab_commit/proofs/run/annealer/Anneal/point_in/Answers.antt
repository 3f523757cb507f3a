use Rattle.std.proofs.Common.{Some, ap, subst, ◌∙◌}
use Rattle.std.specs.Arc.{arc_value}
use Rattle.fab_site.specs.Placement.{fixed_at}
use Rattle.fab_commit.specs.Serial.{Standing}
use Rattle.fab_commit.specs.Run.Commits.{run_for}
use Rattle.fab_commit.specs.Run.Points.{TellsPoint}
use Rattle.fab_commit.proofs.RunLemmas.Beginning.{stage_told}
use Rattle.fab_commit.proofs.run.annealer.Anneal.point_in.Goals as goal

pub returns-clause-tells : goal.returns-clause-tells
returns-clause-tells g c =
    let a = c.self.inside in
    let s = a.pipeline.owner.state in
    let r = run_for g.W.Words.moves (arc_value a.given) in
    let point = c.point_in.result in
    subst (λ m. TellsPoint m point) c.self.view_is
    (record {
      schedule = c.point_in.ensures.schedule ∙ ap (λ x. x.schedule) c.deref.ensures;
      stage = ap Some c.point_in.ensures.stage ∙ stage_told r s c.self.invariant.0.1.at_turn.owned.sound c.if-self.false;
      total = ap (λ (x : Standing). x.total) c.point_in.ensures.stands;
      fixed = λ b. c.point_in.ensures.fixed b ∙ ap (λ x. fixed_at x.fixed b) c.deref.ensures;
      array = c.point_in.ensures.lawful.array ∙ ap (λ x. x.grid.now) c.deref.ensures;
      sites = ap (λ (x : Standing). x.sites) c.point_in.ensures.stands;
    })
