use Rattle.std.proofs.Common.{◌≡◌, ◌-◌, length, sym, ap, ◌∙◌, arith}
use Rattle.std.specs.Arc.{arc_value}
use Rattle.fab_commit.specs.Run.Commits.{AnnealOf, run_for, standing_of}
use Rattle.fab_commit.specs.Run.Since.{accepted_since}
use Rattle.fab_commit.proofs.RunLemmas.Since.{count_since}
use Rattle.fab_commit.proofs.run.annealer.Anneal.accepted_count.Goals as goal

pub overflow_sub-result : goal.overflow_sub-result
overflow_sub-result g c =
    let a = c.self.inside in
    let s = a.pipeline.owner.state in
    let all = count_since (run_for g.W.Words.moves (arc_value a.given)) g.K.Keeping.numbers a.before (standing_of a.began.value) s c.self.invariant.1 in
    let total : c.total.result ≡ s.total = c.total.ensures ∙ ap (λ (m : AnnealOf g.row.W.Denot). m.standing.total) (sym c.self.view_is) in
    omega (arith, all, total)

pub returns : goal.returns
returns g c =
    let a = c.self.inside in
    let s = a.pipeline.owner.state in
    let r = run_for g.W.Words.moves (arc_value a.given) in
    let all = count_since r g.K.Keeping.numbers a.before (standing_of a.began.value) s c.self.invariant.1 in
    let total : c.total.result ≡ s.total = c.total.ensures ∙ ap (λ (m : AnnealOf g.row.W.Denot). m.standing.total) (sym c.self.view_is) in
    let told : c.total.result - a.before ≡ length (accepted_since r (standing_of a.began.value) s.done) = omega (arith, all, total) in
    told ∙ ap (λ (m : AnnealOf g.row.W.Denot). length m.accepted) c.self.view_is
