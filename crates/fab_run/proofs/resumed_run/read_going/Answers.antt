use Rattle.std.proofs.lemmas.Result.{err_from_is_err_and}
use Rattle.fab_run.specs.Setting.{texts_of}
use Rattle.fab_run.proofs.GoingOn.{number_going}
use Rattle.fab_run.proofs.resumed_run.read_going.Goals as goal

pub returns-in_err-design-clause-only : goal.returns-in_err-design-clause-only
returns-in_err-design-clause-only c s k =
    let p = err_from_is_err_and c.from_residual.result c.from_residual.ensures.1 in
    rw (p.1, p.2) (c.in_err-design.ensures.only s k.text)

pub returns-in_err-check_numbers-clause-fault : goal.returns-in_err-check_numbers-clause-fault
returns-in_err-check_numbers-clause-fault c =
    let p = err_from_is_err_and c.from_residual-in_err-check_numbers.result c.from_residual-in_err-check_numbers.ensures.1 in
    rw (p.1, p.2) (number_going (texts_of c.args.inputs.now) c.args.point.now c.args.batch c.args.workers _ (_, c.in_ok-design.ensures.found) c.in_err-check_numbers.ensures.fault)
