use Rattle.std.proofs.lemmas.Result.{err_from_is_err_and}
use Rattle.vplace.proofs.place_command.keep.Goals as goal

pub returns-in_err-arch-clause-only : goal.returns-in_err-arch-clause-only
returns-in_err-arch-clause-only c s k =
    let p = err_from_is_err_and c.from_residual.result c.from_residual.ensures.1 in
    rw (p.1, p.2) (c.in_err-arch.ensures.only s.grid.io_rat s.design k.asked.pins.array.mean)
