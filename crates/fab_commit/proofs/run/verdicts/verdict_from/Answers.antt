use Rattle.std.proofs.Common.{◌≡◌, to_z, of_z, w64, rules, ap, ◌∙◌}
use Rattle.fab_move.specs.declared.verdicts.Decision.{Decision}
use Rattle.fab_commit.specs.Run.Commits.{run_for}
use Rattle.fab_commit.proofs.run.verdicts.verdict_from.Goals as goal

pub footprint_of-requires-clause-block : goal.footprint_of-requires-clause-block
footprint_of-requires-clause-block g c = c.requires.foreseen.1.block

pub footprint_of-requires-clause-other : goal.footprint_of-requires-clause-other
footprint_of-requires-clause-other g c = c.requires.foreseen.1.other

pub returns : goal.returns
returns g c = λ x f.
    let r = run_for g.W.Words.moves c.args.given.now in
    let is = c.decision-decision.ensures in
    let swap = ap (λ (d : Decision). d.swap) is ∙ f.decides.swap in
    let d = c.decision-decision.result in
    let read : to_z w64 (of_z w64 d.delta) ≡ d.delta = search rules in
    let change = read ∙ ap (λ (d : Decision). d.delta) is ∙ f.decides.change in
    let accepted = ap (λ (d : Decision). d.accepted) is ∙ f.decides.accepted in
    let marks = c.in_ok-footprint.ensures ∙ f.marks in
    (λ i. record { worker = c.args.number; number = c.args.number; base = x.done; judged = record { swap = swap i; change = change i; accepted = accepted i; footprint = marks i } })
