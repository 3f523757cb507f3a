use Rattle.std.proofs.Common.{◌≡◌, refl, sym, ap, subst, ◌∙◌}
use Rattle.std.specs.Prelude.{slice_index}
use Rattle.fab_move.specs.Judge.{IsDecision, judged, judged_as, problem}
use Rattle.fab_move.specs.Propose.{proposal}
use Rattle.fab_move.proofs.Judgements.{decided_on}
use Rattle.fab_commit.specs.Serial.{or_zero}
use Rattle.fab_commit.specs.Run.Commits.{heat_of}
use Rattle.fab_commit.proofs.run.state.decide_by.Goals as goal

pub returns-clause-lawful : goal.returns-clause-lawful
returns-clause-lawful g c = rw (c.view_of-view.ensures.placement, c.view_of-view.ensures.grid) at c.weigh.ensures.lawful

pub returns-clause-decides : goal.returns-clause-decides
returns-clause-decides g c =
    let given = c.args.given.now in
    let state = c.args.state.now in
    let p = problem given.design.now given.grid.now given.fixed (g.W.Words.moves given.words) in
    let v = c.view_of-view.ensures in
    let q = c.propose-proposal.result in
    let d = c.weigh.result in
    let k = c.args.number in
    let w = slice_index c.args.words 3 in
    let is : q ≡ proposal p.design p.grid p.fixed state.placement.sites state.stage.range (p.words k) =
    c.propose-proposal.ensures.value ∙ (λ i. proposal (v.design i) (v.grid i) (v.fixed i) (v.placement i).sites (v.range i) (c.requires.words i)) in
    let decided : IsDecision d (judged_as p state.placement.sites state.stage.t w q) =
    subst (IsDecision d) (λ i. judged_as (problem (v.design i) (v.grid i) (v.fixed i) (g.W.Words.moves (v.words i))) (v.placement i).sites (v.t i) w q) c.weigh.ensures.decided in
    let cold : IsDecision d (judged p state.placement.sites k state.stage.t state.stage.range) =
    decided_on p state.placement.sites k state.stage.t state.stage.range (p.words k) w q d refl (λ i. slice_index (c.requires.words i) 3) is decided in
    let hot : or_zero (heat_of state.ended state.stage.t) ≡ state.stage.t = ap (λ b. or_zero (heat_of b state.stage.t)) c.requires.going in
    subst (λ t. IsDecision d (judged p state.placement.sites k t state.stage.range)) (sym hot) cold
