use Rattle.std.proofs.Common.{inl}
use Rattle.std.proofs.lemmas.Result.{err_from_is_err_and}
use Rattle.fab_run.proofs.check.check_run.Goals as goal

pub returns-in_err-cost-clause-only : goal.returns-in_err-cost-clause-only
returns-in_err-cost-clause-only g c d grid sites k =
    let p = err_from_is_err_and c.from_residual.result c.from_residual.ensures.1 in
    rw (p.1, p.2) (inl (c.in_err-cost.ensures.only d grid sites k))
