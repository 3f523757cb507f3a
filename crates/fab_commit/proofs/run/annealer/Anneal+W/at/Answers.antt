use Rattle.std.proofs.Common.{◌≡◌, true, map, sym, ap, subst, ◌∙◌}
use Rattle.std.specs.Arc.{arc_value}
use Rattle.fab_commit.specs.declared.run.state.State.{State}
use Rattle.fab_commit.specs.Run.Commits.{run_for, standing_of}
use Rattle.fab_commit.specs.Run.Owners.{verdict_of}
use Rattle.fab_commit.specs.Run.Since.{IsSince}
use Rattle.fab_commit.specs.Model.TurnEvents.{no_turn}
use Rattle.fab_commit.proofs.RunLemmas.Since.{none_since, since_start}
use Rattle.fab_commit.proofs.run.annealer.Anneal+W.at.Goals as goal

pub invariant_of-result : goal.invariant_of-result
invariant_of-result g c =
    let live = c.args.live in
    let p = c.in_ok-pipeline.pipeline in
    let told = c.in_ok-pipeline.ensures.told in
    let r = run_for g.W.Words.moves c.args.given in
    let here = subst (λ (s : State). IsSince r true live.total (standing_of live) s) (sym told.2) (since_start r live c.requires.none) in
    let since = subst (λ (v : State). IsSince r true live.total (standing_of v) p.owner.state) (sym c.of-began.ensures) here in
    let given = c.in-Ok.ensures.ok in
    rw given ((no_turn (standing_of live), c.in_ok-pipeline.ensures.behind), since)

pub returns-in-Ok : goal.returns-in-Ok
returns-in-Ok g c =
    let live = c.args.live in
    let p = c.in_ok-pipeline.pipeline in
    let stands = c.in_ok-pipeline.ensures.behind.at_turn.led.here in
    let told = c.in_ok-pipeline.ensures.told in
    let ahead = ap (map (verdict_of p.base)) told.0 in
    let given = c.in-Ok.ensures.ok in
    let made : p.owner.state.done ≡ (standing_of c.of-began.result.value).done = ap (λ (s : State). s.done) told.2 ∙ ap (λ (s : State). s.done) (sym c.of-began.ensures) in
    let none = none_since (run_for g.W.Words.moves (arc_value c.in-Ok.given)) (standing_of c.of-began.result.value) p.owner.state.done made in
    (λ i. record { design = (given i).design.now; grid = (given i).grid.now; fixed = (given i).fixed; plan = (given i).schedule; words = (given i).words; standing = stands i; ahead = ahead i; swaps = told.1 i; accepted = none i; redone = told.3 i })
