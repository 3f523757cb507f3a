use Rattle.std.proofs.Common.{true, refl, sym, subst, ◌∙◌}
use Rattle.std.specs.Arc.{arc_value}
use Rattle.fab_commit.specs.declared.run.pipeline.Pipeline.{Pipeline}
use Rattle.fab_commit.specs.Run.Commits.{run_for, standing_of}
use Rattle.fab_commit.specs.Run.Pipelines.{HasTurn}
use Rattle.fab_commit.specs.Run.Since.{IsSince}
use Rattle.fab_commit.proofs.RunLemmas.Since.{forgets, since_forgotten}
use Rattle.fab_commit.proofs.run.annealer.Anneal+W.keeping.Goals as goal
use Rattle.fab_commit.proofs.run.annealer.Anneal+W.keeping.Goals.{then-not-keeps+in-Some-1, then-not-keeps+in-None-1, else-not-keeps}

pub invariant_of-result : goal.invariant_of-result
invariant_of-result g c =
    let a = c.self.inside in
    let r = run_for g.W.Words.moves (arc_value a.given) in
    let x = standing_of a.began.value in
    let t = c.self.invariant.0.0 in
    let b = c.self.invariant.0.1 in
    let since = c.self.invariant.1 in
    let p = c.if-not-keeps.pipeline in
    elim c.if-not-keeps.branch [
      | then-not-keeps+in-Some-1 w ↦ ((t, forgets r t a.pipeline p w.pipeline-is b), subst (λ k. IsSince r k a.before x p.owner.state) (sym w.if-not-keeps.true ∙ c.keeps.ensures) (since_forgotten r true a.before x a.pipeline.owner.state p a.pipeline w.pipeline-is refl since))
      | then-not-keeps+in-None-1 w ↦ ((t, forgets r t a.pipeline p w.pipeline-is b), subst (λ k. IsSince r k a.before x p.owner.state) (sym w.if-not-keeps.true ∙ c.keeps.ensures) (since_forgotten r true a.before x a.pipeline.owner.state p a.pipeline w.pipeline-is refl since))
      | else-not-keeps w ↦ (subst (λ (v : Pipeline). HasTurn r v) (sym w.pipeline-is) c.self.invariant.0, subst (λ (v : Pipeline). IsSince r g.K.Keeping.numbers a.before x v.owner.state) (sym w.pipeline-is) (subst (λ k. IsSince r k a.before x a.pipeline.owner.state) (sym w.if-not-keeps.false ∙ c.keeps.ensures) since))
    ]
