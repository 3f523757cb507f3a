use Rattle.std.proofs.Common.{◌≡◌, sym, ◌∙◌, rules, to_z, of_z, w64}
use Rattle.fab_cost.proofs.Sited.{block_below, other_below}
use Rattle.fab_move.specs.Judge.{problem}
use Rattle.fab_move.proofs.Judgements.{decided_says, judged_on}
use Rattle.fab_move.proofs.judgement.judge.Goals as goal

pub footprint_of-requires-clause-block : goal.footprint_of-requires-clause-block
footprint_of-requires-clause-block g c = λ s is. block_below c.args.view.now.grid.now c.args.view.now.placement.now.sites s _ (c.proposed-proposal.ensures.lawful s is) (sym c.requires.legal.all)

pub footprint_of-requires-clause-other : goal.footprint_of-requires-clause-other
footprint_of-requires-clause-other g c = λ s b is there. other_below c.args.view.now.grid.now c.args.view.now.placement.now.sites s b _ (c.proposed-proposal.ensures.lawful s is) there (sym c.requires.legal.all)

pub returns-clause-judged : goal.returns-clause-judged
returns-clause-judged g c =
    let p = problem c.args.view.now.design.now c.args.view.now.grid.now c.args.view.now.fixed.now (g.W.Words.moves c.args.view.now.words.now) in
    let sites = c.args.view.now.placement.now.sites in
    let t = c.args.view.now.t in
    let found = c.proposed-proposal in
    let d = c.weigh-decision.result in
    let z : to_z w64 (of_z w64 d.delta) ≡ d.delta = search rules in
    let told = decided_says p sites t found.result.1 found.result.0 d c.in_ok-footprint.footprint.items c.weigh-decision.ensures.decided c.in_ok-footprint.ensures in
    (λ i. record { swap = d.swap; change = z i; accepted = d.accepted; footprint = c.in_ok-footprint.footprint.items })
    ∙ told
    ∙ judged_on p sites c.args.k t c.args.view.now.range found.result.1 found.result.0 found.ensures.word found.ensures.value
