use Rattle.std.proofs.Common.{refl, subst}
use Rattle.std.specs.Arc.{arc_value}
use Rattle.fab_commit.specs.Serial.{IsStanding}
use Rattle.fab_commit.specs.Run.Commits.{run_for, run_of}
use Rattle.fab_commit.proofs.RunLemmas.Beginning.{standing_is}
use Rattle.fab_commit.proofs.run.annealer.Anneal.done.Goals as goal

pub returns-clause-lawful : goal.returns-clause-lawful
returns-clause-lawful g c =
    let a = c.self.inside in
    let s = a.pipeline.owner.state in
    subst (λ m. IsStanding (run_of g.W.Words.moves m) m.standing) c.self.view_is
    (standing_is (run_for g.W.Words.moves (arc_value a.given)) s s.ended c.self.invariant.0.1.at_turn.owned.sound refl)
