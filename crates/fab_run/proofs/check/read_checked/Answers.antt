use Rattle.std.proofs.Common.{sym, ap, ◌∙◌}
use Rattle.std.proofs.lemmas.Result.{err_from_is_err_and}
use Rattle.fab_text.specs.Lines.{lines}
use Rattle.fab_file.specs.Place.{StandsFor}
use Rattle.fab_run.specs.Check.{FitsOn}
use Rattle.fab_run.specs.RunFaults.{of_place}
use Rattle.fab_run.proofs.Checking.{of_design, placed}
use Rattle.fab_run.proofs.Readers.{place_text, text_reads}
use Rattle.fab_run.proofs.check.read_checked.Goals as goal

pub returns-in_err-placement-clause-text : goal.returns-in_err-placement-clause-text
returns-in_err-placement-clause-text c =
    let p = err_from_is_err_and c.from_residual-in_err-placement.result c.from_residual-in_err-placement.ensures.1 in
    rw (p.1, p.2) (place_text _ _ (text_reads c.in_ok-io_rat.design c.in_ok-grid.grid (lines c.args.place.now)) c.in_err-placement.ensures.fault)

pub returns-in_err-io_rat-clause-only : goal.returns-in_err-io_rat-clause-only
returns-in_err-io_rat-clause-only c d g sites k =
    let p = err_from_is_err_and c.from_residual.result c.from_residual.ensures.1 in
    rw (p.1, p.2) (c.in_err-io_rat.ensures.only g.io_rat d k.array.design)

pub returns-in_err-io_rat-clause-fault : goal.returns-in_err-io_rat-clause-fault
returns-in_err-io_rat-clause-fault c =
    let p = err_from_is_err_and c.from_residual.result c.from_residual.ensures.1 in
    rw (p.1, p.2) (of_design c.args.arch.now c.args.net.now c.args.place.now _ c.in_err-io_rat.ensures.fault)

pub returns-in_err-grid-clause-only : goal.returns-in_err-grid-clause-only
returns-in_err-grid-clause-only c d g sites k =
    let p = err_from_is_err_and c.from_residual-in_err-grid.result c.from_residual-in_err-grid.ensures.1 in
    let one = c.in_ok-io_rat.ensures.only g.io_rat d k.array.design in
    let fits : FitsOn c.in_ok-io_rat.design g = rw one.1 k.fits in
    rw (p.1, p.2) (c.in_err-grid.ensures.only g (sym one.0) k.array.size fits)

pub returns-in_err-placement-clause-only : goal.returns-in_err-placement-clause-only
returns-in_err-placement-clause-only c d g sites k =
    let p = err_from_is_err_and c.from_residual-in_err-placement.result c.from_residual-in_err-placement.ensures.1 in
    let one = c.in_ok-io_rat.ensures.only g.io_rat d k.array.design in
    let fits : FitsOn c.in_ok-io_rat.design g = rw one.1 k.fits in
    let two = c.in_ok-grid.ensures.only g (sym one.0) k.array.size fits in
    let stands : StandsFor c.in_ok-io_rat.design c.in_ok-grid.grid (lines c.args.place.now) sites = rw (one.1, two) k.stands in
    rw p.1 (p.2 ∙ ap of_place (c.in_err-placement.ensures.only sites stands))

pub returns-in_err-placement-clause-fault : goal.returns-in_err-placement-clause-fault
returns-in_err-placement-clause-fault c =
    let p = err_from_is_err_and c.from_residual-in_err-placement.result c.from_residual-in_err-placement.ensures.1 in
    let found = c.in_ok-grid.ensures.found in
    rw (p.1, p.2) (placed c.args.arch.now c.args.net.now c.args.place.now c.in_ok-io_rat.io_rat c.in_ok-io_rat.design c.in_ok-grid.grid _ c.in_ok-io_rat.ensures.found found.0 found.1 found.2 c.in_err-placement.ensures.fault)

pub returns-clause-only : goal.returns-clause-only
returns-clause-only c d g sites k =
    let one = c.in_ok-io_rat.ensures.only g.io_rat d k.array.design in
    let fits : FitsOn c.in_ok-io_rat.design g = rw one.1 k.fits in
    let two = c.in_ok-grid.ensures.only g (sym one.0) k.array.size fits in
    let stands : StandsFor c.in_ok-io_rat.design c.in_ok-grid.grid (lines c.args.place.now) sites = rw (one.1, two) k.stands in
    (one.1, two, c.in_ok-placement.ensures.only sites stands)
