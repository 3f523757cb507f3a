use Rattle.std.proofs.Common.{◌≡◌, ◌+ℤ◌, to_z, of_z, w64, FitsSigned, rules, refl, sym, ap, subst, ◌∙◌}
use Rattle.fab_site.specs.Placement.{IsSwapOf}
use Rattle.fab_cost.specs.Swapping.{change}
use Rattle.fab_cost.proofs.Few.{change_fits}
use Rattle.fab_move.specs.Accept.{is_accepted}
use Rattle.fab_move.specs.Judge.{IsDecision}
use Rattle.fab_commit.specs.Serial.{or_zero}
use Rattle.fab_commit.specs.Run.Commits.{heat_of, run_for, standing_of}
use Rattle.fab_commit.proofs.RunLemmas.Larger.{some_is, still_judged, still_lawful, still_says}
use Rattle.fab_commit.proofs.run.sheet.decided_by_large.Goals as goal

pub delta_of_large-large-requires-clause-lawful : goal.delta_of_large-large-requires-clause-lawful
delta_of_large-large-requires-clause-lawful g c = still_lawful (run_for g.W.Words.moves c.args.given.now) c.args.state.now c.args.few c.args.swap c.requires.sound c.requires.still

pub overflow_add-delta : goal.overflow_add-delta
overflow_add-delta g c =
    let r = run_for g.W.Words.moves c.args.given.now in
    let state = c.args.state.now in
    let few : to_z w64 (of_z w64 c.args.few) ≡ c.args.few = search rules in
    let large : to_z w64 (of_z w64 c.delta_of_large-large.result) ≡ c.delta_of_large-large.result = search rules in
    let sum = still_says r (standing_of state) state.done c.args.few c.delta_of_large-large.result _ c.args.swap c.requires.still c.delta_of_large-large.ensures.change refl in
    subst (FitsSigned w64) (sym ((λ i. few i +ℤ large i) ∙ sum)) (change_fits r.problem.design r.problem.grid state.placement.sites c.args.swap c.delta_of_large-large.ensures.below)

pub returns-clause-lawful : goal.returns-clause-lawful
returns-clause-lawful g c = λ s e.
    let r = run_for g.W.Words.moves c.args.given.now in
    subst (IsSwapOf r.problem.grid c.args.state.now.placement.sites) (some_is c.args.swap s e) (still_lawful r c.args.state.now c.args.few c.args.swap c.requires.sound c.requires.still)

pub returns-clause-decides : goal.returns-clause-decides
returns-clause-decides g c =
    let r = run_for g.W.Words.moves c.args.given.now in
    let state = c.args.state.now in
    let y = standing_of state in
    let s = c.args.swap in
    let few : to_z w64 (of_z w64 c.args.few) ≡ c.args.few = search rules in
    let large : to_z w64 (of_z w64 c.delta_of_large-large.result) ≡ c.delta_of_large-large.result = search rules in
    let sum = (λ i. few i +ℤ large i) ∙ still_says r y state.done c.args.few c.delta_of_large-large.result _ s c.requires.still c.delta_of_large-large.ensures.change refl in
    let fits = change_fits r.problem.design r.problem.grid state.placement.sites s c.delta_of_large-large.ensures.below in
    let delta : to_z w64 (of_z w64 (to_z w64 (of_z w64 c.args.few) +ℤ to_z w64 (of_z w64 c.delta_of_large-large.result))) ≡ change r.problem.design r.problem.grid state.placement.sites s = (let k = sum in search rules) in
    let hot : or_zero (heat_of state.ended state.stage.t) ≡ state.stage.t = ap (λ b. or_zero (heat_of b state.stage.t)) c.requires.going in
    subst (IsDecision _) (still_judged r y state.done c.args.few s c.requires.still)
    (record { swap = refl; change = delta; accepted = c.accepts.ensures ∙ (λ i. is_accepted (delta i) (sym hot i) (c.requires.word i)) })
