use Rattle.std.proofs.Common.{◌∙◌, ap}
use Rattle.std.proofs.lemmas.Result.{err_from_is_err_and}
use Rattle.fab_run.specs.RunFaults.{of_arch}
use Rattle.vplace.proofs.results.arch_and_design.Goals as goal

pub returns-in_err-arch-clause-only : goal.returns-in_err-arch-clause-only
returns-in_err-arch-clause-only c io_rat d m =
    let p = err_from_is_err_and c.from_residual.result c.from_residual.ensures.1 in
    let none = c.in_err-arch.ensures.only io_rat m.pins m.architecture in
    rw p.1 (p.2 ∙ ap of_arch none)
