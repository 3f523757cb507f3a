use Rattle.std.proofs.Common.{◌≡◌, sym, ap, subst, ◌∙◌, refl}
use Rattle.std.proofs.lemmas.Bool.{false≢true}
use Rattle.std.specs.Prelude.{nat_lt, slice_index}
use Rattle.std.specs.List.{list_any}
use Rattle.fab_move.specs.Judge.{IsDecision, Judged, footprint, judged, judged_as, problem}
use Rattle.fab_move.specs.Propose.{proposal}
use Rattle.fab_move.proofs.Judgements.{decided_on, judged_on}
use Rattle.fab_commit.specs.Serial.{or_zero}
use Rattle.fab_commit.specs.Run.Commits.{heat_of}
use Rattle.fab_move.specs.StampTables.{kept_stamp}
use Rattle.fab_commit.proofs.ModelLemmas.Noninterference.{judged_as-footprint}
use Rattle.fab_move.proofs.KeptLists.{none_kept}
use Rattle.fab_commit.proofs.RunLemmas.Making.{is_off}
use Rattle.fab_commit.proofs.RunLemmas.Owning.{within_of}
use Rattle.fab_commit.proofs.run.alone.decided_alone.Goals as goal

pub is_touched-again-requires-clause-block : goal.is_touched-again-requires-clause-block
is_touched-again-requires-clause-block g c s e =
    let d = c.args.given.now.design.now in
    let grid = c.args.given.now.grid.now in
    let sites = c.args.owner.now.state.placement.sites in
    let is = rw (c.view_of-view.ensures.grid, c.view_of-view.ensures.placement) at (c.propose-proposal.ensures.lawful s e) in
    (within_of d grid c.args.given.now.fixed sites s c.requires.owned.sound.legal is).block

pub is_touched-again-requires-clause-other : goal.is_touched-again-requires-clause-other
is_touched-again-requires-clause-other g c s b e o =
    let d = c.args.given.now.design.now in
    let grid = c.args.given.now.grid.now in
    let sites = c.args.owner.now.state.placement.sites in
    let is = rw (c.view_of-view.ensures.grid, c.view_of-view.ensures.placement) at (c.propose-proposal.ensures.lawful s e) in
    rw o at (within_of d grid c.args.given.now.fixed sites s c.requires.owned.sound.legal is).other

pub is_touched-again-requires-clause-nets : goal.is_touched-again-requires-clause-nets
is_touched-again-requires-clause-nets g c s e = none_kept c.args.given.now.design.now s c.none-nets.result c.none-nets.ensures

pub returns-clause-again : goal.returns-clause-again
returns-clause-again g c e =
    let given = c.args.given.now in
    let state = c.args.owner.now.state in
    let p = problem given.design.now given.grid.now given.fixed (g.W.Words.moves given.words) in
    let v = c.view_of-view.ensures in
    let q = c.propose-proposal.result in
    let t = or_zero (heat_of state.ended state.stage.t) in
    let w = slice_index (p.words state.done) 3 in
    let is : q ≡ proposal p.design p.grid p.fixed state.placement.sites state.stage.range (p.words state.done) =
    c.propose-proposal.ensures.value ∙ (λ i. proposal (v.design i) (v.grid i) (v.fixed i) (v.placement i).sites (v.range i) (c.requires.words i)) in
    let marks : footprint p.design q ≡ (judged p state.placement.sites state.done t state.stage.range).footprint =
    sym (judged_as-footprint p state.placement.sites t w q) ∙ ap (λ (j : Judged). j.footprint) (judged_on p state.placement.sites state.done t state.stage.range w q refl is) in
    c.is_touched-again.ensures ∙ ap (list_any (λ m. nat_lt c.args.base (kept_stamp p.grid c.args.owner.now.stamps m))) marks

pub returns-clause-lawful : goal.returns-clause-lawful
returns-clause-lawful g c = rw (c.view_of-view.ensures.placement, c.view_of-view.ensures.grid) at c.weigh.ensures.lawful

pub returns-clause-decides : goal.returns-clause-decides
returns-clause-decides g c =
    let given = c.args.given.now in
    let state = c.args.owner.now.state in
    let p = problem given.design.now given.grid.now given.fixed (g.W.Words.moves given.words) in
    let v = c.view_of-view.ensures in
    let q = c.propose-proposal.result in
    let d = c.weigh.result in
    let w = slice_index c.asked_again-used.result 3 in
    let is : q ≡ proposal p.design p.grid p.fixed state.placement.sites state.stage.range (p.words state.done) =
    c.propose-proposal.ensures.value ∙ (λ i. proposal (v.design i) (v.grid i) (v.fixed i) (v.placement i).sites (v.range i) (c.requires.words i)) in
    let decided : IsDecision d (judged_as p state.placement.sites state.stage.t w q) =
    subst (IsDecision d) (λ i. judged_as (problem (v.design i) (v.grid i) (v.fixed i) (g.W.Words.moves (v.words i))) (v.placement i).sites (v.t i) w q) c.weigh.ensures.decided in
    let cold : IsDecision d (judged p state.placement.sites state.done state.stage.t state.stage.range) =
    decided_on p state.placement.sites state.done state.stage.t state.stage.range (p.words state.done) w q d refl (λ i. slice_index (c.asked_again-used.ensures i) 3) is decided in
    let hot : or_zero (heat_of state.ended state.stage.t) ≡ state.stage.t = ap (λ b. or_zero (heat_of b state.stage.t)) c.requires.going in
    subst (λ t. IsDecision d (judged p state.placement.sites state.done t state.stage.range)) (sym hot) cold

pub returns-then-not-this-clause-again : goal.returns-then-not-this-clause-again
returns-then-not-this-clause-again g c e = absurd (false≢true (sym (is_off g.row.COUNTED c.if-not-this.true) ∙ e))

pub returns-then-not-this-clause-lawful : goal.returns-then-not-this-clause-lawful
returns-then-not-this-clause-lawful g c = c.decide_by.ensures.lawful

pub returns-then-not-this-clause-decides : goal.returns-then-not-this-clause-decides
returns-then-not-this-clause-decides g c = c.decide_by.ensures.decides
