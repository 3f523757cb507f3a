use Rattle.std.proofs.Common.{◌∙◌, ap, subst}
use Rattle.std.proofs.lemmas.Result.{err_from_is_err_and}
use Rattle.fab_text.specs.Lines.{lines}
use Rattle.fab_run.specs.PointMeaning.{StandsForPoint}
use Rattle.fab_run.specs.RunFaults.{of_point}
use Rattle.fab_run.proofs.PointNever.{point_text}
use Rattle.vplace.specs.Forecasts.{IsForecast}
use Rattle.vplace.proofs.Stopping.{forecast_same}
use Rattle.vplace.proofs.resume_command.keep.Goals as goal

pub returns-in_err-arch-clause-only : goal.returns-in_err-arch-clause-only
returns-in_err-arch-clause-only c s k =
    let p = err_from_is_err_and c.from_residual.result c.from_residual.ensures.1 in
    rw (p.1, p.2) (c.in_err-arch.ensures.only s.grid.io_rat s.design k.mean)

pub returns-in_err-seed-clause-only : goal.returns-in_err-seed-clause-only
returns-in_err-seed-clause-only c s k =
    let p = err_from_is_err_and c.from_residual-in_err-seed.result c.from_residual-in_err-seed.ensures.1 in
    let one = c.in_ok-arch.ensures.only s.grid.io_rat s.design k.mean in
    let stands : StandsForPoint c.in_ok-arch.arch.io_rat c.in_ok-arch.design (lines c.args.restart.now.point.now) s.seed s.grid s.point = rw (one.0, one.1) k.stands in
    rw p.1 (p.2 ∙ ap of_point (c.in_err-seed.ensures.only s.seed s.grid s.point stands))

pub returns-in_err-seed-clause-text : goal.returns-in_err-seed-clause-text
returns-in_err-seed-clause-text c =
    let p = err_from_is_err_and c.from_residual-in_err-seed.result c.from_residual-in_err-seed.ensures.1 in
    rw (p.1, p.2) (point_text c.in_ok-arch.arch.io_rat c.in_ok-arch.design (lines c.args.restart.now.point.now) _ c.in_err-seed.ensures.fault)

pub returns-clause-kept : goal.returns-clause-kept
returns-clause-kept c s k =
    let one = c.in_ok-arch.ensures.only s.grid.io_rat s.design k.mean in
    let stands : StandsForPoint c.in_ok-arch.arch.io_rat c.in_ok-arch.design (lines c.args.restart.now.point.now) s.seed s.grid s.point = rw (one.0, one.1) k.stands in
    let read = c.in_ok-seed.ensures.only s.seed s.grid s.point stands in
    let forecast = subst (λ n. IsForecast c.in_ok-seed.point.schedule n c.args.restart.now.stop c.forecast_for-forecast.result) c.moves_made.ensures c.forecast_for-forecast.ensures in
    (forecast_same c.in_ok-seed.point s.point c.args.restart.now.stop c.forecast_for-forecast.result read.2 forecast, (read.0, one.1, read.1))
