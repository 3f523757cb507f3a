use Rattle.std.proofs.Common.{◌≡◌, refl, ◌∙◌}
use Rattle.std.proofs.lemmas.Result.{err_from_is_err_and}
use Rattle.fab_cost.specs.Cost.{cost_of}
use Rattle.fab_run.proofs.check.checked_report.Goals as goal

pub returns-in_err-design-clause-only : goal.returns-in_err-design-clause-only
returns-in_err-design-clause-only c d g sites k =
    let p = err_from_is_err_and c.from_residual.result c.from_residual.ensures.1 in
    rw (p.1, p.2) (c.in_err-design.ensures.only d g sites k)

pub returns-clause-only : goal.returns-clause-only
returns-clause-only c d g sites k =
    let same = c.in_ok-design.ensures.only d g sites k in
    let cost : cost_of c.in_ok-design.design c.in_ok-design.grid c.in_ok-design.placement.sites ≡ cost_of d g sites = rw (same.0, same.1, same.2) refl in
    c.in_ok-report.ensures.value ∙ cost

pub returns-in_err-report-clause-only : goal.returns-in_err-report-clause-only
returns-in_err-report-clause-only c d g sites k =
    let p = err_from_is_err_and c.from_residual-in_err-report.result c.from_residual-in_err-report.ensures.1 in
    rw p.1 p.2
