use Rattle.std.proofs.Common.{◌≡◌, ℕ, ◌<◌, length, ap, sym, subst, ◌∙◌, arith}
use Rattle.fab_move.specs.Propose.{near_positions}
use Rattle.fab_move.specs.Sides.{positions}
use Rattle.std.proofs.Common.{slice_index_or, Some}
use Rattle.fab_arch.specs.Grid.{kind_at}
use Rattle.fab_arch.specs.declared.array.SiteKind.TheVariants.{Pad}
use Rattle.fab_site.specs.Placement.{site}
use Rattle.fab_move.proofs.Targets.{pad_bounds, some_near, pad_near}
use Rattle.fab_move.proofs.proposals.pad_target.Goals as goal

pub around-window-requires-clause-x : goal.around-window-requires-clause-x
around-window-requires-clause-x c =
    let b = pad_bounds c.args.grid.now c.args.from c.requires.from in
    grind (arith, b)

pub around-window-requires-clause-y : goal.around-window-requires-clause-y
around-window-requires-clause-y c =
    let b = pad_bounds c.args.grid.now c.args.from c.requires.from in
    grind (arith, b)

pub at-x-requires : goal.at-x-requires
at-x-requires c =
    let some = some_near c.args.grid.now c.args.from c.args.reach c.requires.from in
    let same : length (positions c.around-window.result) ≡ length (near_positions c.args.grid.now c.args.from c.args.reach) = ap length c.around-window.ensures in
    let long = c.len.ensures in
    let below = c.pick.ensures.below in
    grind (arith, some, same, long, below)

pub returns-clause-kind : goal.returns-clause-kind
returns-clause-kind c =
    let g = c.args.grid.now in
    let some = some_near g c.args.from c.args.reach c.requires.from in
    let same : length (positions c.around-window.result) ≡ length (near_positions g c.args.from c.args.reach) = ap length c.around-window.ensures in
    let long = c.len.ensures in
    let below = c.pick.ensures.below in
    let sub : c.pick-2.result < g.io_rat = (let b = c.pick-2.ensures.below in let v = c.io_rat.ensures.value in let l = c.io_rat.ensures.limits in let f = c.from.ensures in grind (arith, b, v, l, f)) in
    let at : c.at-x.result ≡ slice_index_or (near_positions g c.args.from c.args.reach) c.pick.result (0, 0) = c.at-x.ensures ∙ ap (λ ps. slice_index_or ps c.pick.result (0, 0)) c.around-window.ensures in
    subst (λ (p : ℕ × ℕ). kind_at g (site p.0 p.1 c.pick-2.result) ≡ Some Pad) (sym at)
    (pad_near g c.args.from c.args.reach c.pick.result c.pick-2.result (grind (arith, some, same, long, below)) sub)
