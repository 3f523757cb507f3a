use Rattle.std.proofs.Common.{◌<◌, length, Some, sym, ap, subst, ◌∙◌, arith}
use Rattle.std.specs.Prelude.{is_some}
use Rattle.fab_site.specs.Placement.{Fits}
use Rattle.fab_move.specs.Propose.{propose_to, target}
use Rattle.fab_move.specs.Chosen.{number_of}
use Rattle.fab_move.proofs.Choices.{chosen_below, nothing_chosen, some_chosen, lawful_to, stands_at}
use Rattle.fab_move.proofs.proposals.propose.Goals as goal

pub site_of-from-requires : goal.site_of-from-requires
site_of-from-requires c =
    let l = chosen_below c.args.design.now c.args.fixed.now _ c.in-Some.block.0 (sym c.in-Some.ensures) in
    let all = c.requires.legal.all in
    grind (arith, l, all)

pub target-to-requires-clause-block : goal.target-to-requires-clause-block
target-to-requires-clause-block c =
    chosen_below c.args.design.now c.args.fixed.now _ c.in-Some.block.0 (sym c.in-Some.ensures)

pub target-to-requires-clause-from : goal.target-to-requires-clause-from
target-to-requires-clause-from c =
    let l = chosen_below c.args.design.now c.args.fixed.now _ c.in-Some.block.0 (sym c.in-Some.ensures) in
    let all = c.requires.legal.all in
    subst (Fits c.args.design.now c.args.grid.now c.in-Some.block.0) (sym c.site_of-from.ensures) (c.requires.legal.fit c.in-Some.block.0 (grind (arith, l, all)))

pub returns-in-None-clause-value : goal.returns-in-None-clause-value
returns-in-None-clause-value c =
    let e = ap number_of (sym c.in-None.is) ∙ c.chosen.ensures in
    nothing_chosen c.args.design.now c.args.grid.now c.args.fixed.now c.args.placement.now.sites c.args.range c.args.words e

pub returns-in-Some-clause-value : goal.returns-in-Some-clause-value
returns-in-Some-clause-value c =
    let d = c.args.design.now in
    let g = c.args.grid.now in
    let fixed = c.args.fixed.now in
    let sites = c.args.placement.now.sites in
    let from = c.site_of-from.ensures in
    let to = c.target-to.ensures.value in
    c.propose_to.ensures
    ∙ ap (propose_to fixed sites c.in-Some.block c.site_of-from.result) to
    ∙ ap (λ f. propose_to fixed sites c.in-Some.block f (target d g c.in-Some.block.0 f c.args.range c.args.words)) from
    ∙ some_chosen d g fixed sites c.args.range c.args.words c.in-Some.block c.in-Some.ensures

pub returns-in-Some-clause-lawful : goal.returns-in-Some-clause-lawful
returns-in-Some-clause-lawful c = λ s is.
    let g = c.args.grid.now in
    let sites = c.args.placement.now.sites in
    let l = chosen_below c.args.design.now c.args.fixed.now _ c.in-Some.block.0 (sym c.in-Some.ensures) in
    let all = c.requires.legal.all in
    let inside : c.in-Some.block.0 < length sites = grind (arith, l, all) in
    let there : Fits c.args.design.now g c.in-Some.block.0 c.site_of-from.result = subst (Fits c.args.design.now g c.in-Some.block.0) (sym c.site_of-from.ensures) (c.requires.legal.fit c.in-Some.block.0 inside) in
    lawful_to g c.args.fixed.now sites c.in-Some.block c.site_of-from.result c.target-to.result s
    (stands_at sites c.in-Some.block.0 inside ∙ ap (λ x. Some x) (sym c.site_of-from.ensures))
    (c.target-to.ensures.fits ∙ sym there)
    (ap is_some there)
    (sym c.propose_to.ensures ∙ is)
