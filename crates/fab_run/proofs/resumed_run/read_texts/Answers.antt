use Rattle.std.proofs.Common.{ap, ◌∙◌}
use Rattle.std.proofs.lemmas.Result.{err_from_is_err_and}
use Rattle.fab_text.specs.Lines.{lines}
use Rattle.fab_run.specs.PointMeaning.{StandsForPoint}
use Rattle.fab_run.specs.RunFaults.{of_point}
use Rattle.fab_run.proofs.PointNever.{point_text}
use Rattle.fab_run.proofs.resumed_run.read_texts.Goals as goal

pub returns-in_err-io_rat-clause-only : goal.returns-in_err-io_rat-clause-only
returns-in_err-io_rat-clause-only c s k =
    let p = err_from_is_err_and c.from_residual.result c.from_residual.ensures.1 in
    rw (p.1, p.2) (c.in_err-io_rat.ensures.only s.grid.io_rat s.design k.mean)

pub returns-in_err-seed-clause-only : goal.returns-in_err-seed-clause-only
returns-in_err-seed-clause-only c s k =
    let p = err_from_is_err_and c.from_residual-in_err-seed.result c.from_residual-in_err-seed.ensures.1 in
    let one = c.in_ok-io_rat.ensures.only s.grid.io_rat s.design k.mean in
    let stands : StandsForPoint c.in_ok-io_rat.io_rat c.in_ok-io_rat.design (lines c.args.point.now) s.seed s.grid s.point = rw (one.0, one.1) k.stands in
    rw p.1 (p.2 ∙ ap of_point (c.in_err-seed.ensures.only s.seed s.grid s.point stands))

pub returns-in_err-seed-clause-text : goal.returns-in_err-seed-clause-text
returns-in_err-seed-clause-text c =
    let p = err_from_is_err_and c.from_residual-in_err-seed.result c.from_residual-in_err-seed.ensures.1 in
    rw (p.1, p.2) (point_text c.in_ok-io_rat.io_rat c.in_ok-io_rat.design (lines c.args.point.now) _ c.in_err-seed.ensures.fault)
