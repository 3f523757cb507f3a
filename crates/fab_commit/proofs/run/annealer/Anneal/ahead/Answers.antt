use Rattle.std.proofs.Common.{◌≡◌, map, ap, subst, ◌∙◌}
use Rattle.fab_move.specs.declared.verdicts.Verdict.{Verdict as Answer}
use Rattle.fab_move.specs.Judge.{says}
use Rattle.fab_commit.specs.declared.model.judged.JudgedMove.{JudgedMove}
use Rattle.fab_commit.proofs.RunLemmas.Annealing.{numbers_told, says_told}
use Rattle.fab_commit.proofs.run.annealer.Anneal.ahead.Goals as goal

pub returns-clause-numbers : goal.returns-clause-numbers
returns-clause-numbers g c =
    let p = c.self.inside.pipeline in
    subst (λ m. map (λ (v : Answer). v.k) c.deref.result.now ≡ map (λ (v : JudgedMove). v.number) m.ahead) c.self.view_is
    (ap (map (λ (v : Answer). v.k)) c.deref.ensures.value ∙ numbers_told p.base p.ahead.items)

pub returns-clause-says : goal.returns-clause-says
returns-clause-says g c =
    let p = c.self.inside.pipeline in
    subst (λ m. map says c.deref.result.now ≡ map (λ (v : JudgedMove). v.judged) m.ahead) c.self.view_is
    (ap (map says) c.deref.ensures.value ∙ says_told p.base p.ahead.items)
