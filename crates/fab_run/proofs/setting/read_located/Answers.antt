use Rattle.std.proofs.Common.{sym}
use Rattle.std.specs.Prelude.{option_copied}
use Rattle.std.proofs.lemmas.Result.{err_from_is_err_and}
use Rattle.fab_run.specs.Check.{FitsOn}
use Rattle.fab_run.specs.Setting.{ArePinned, IsSized}
use Rattle.fab_run.proofs.setting.read_located.Goals as goal

pub returns-in_err-io_rat-clause-only : goal.returns-in_err-io_rat-clause-only
returns-in_err-io_rat-clause-only c d g fixed begun k =
    let p = err_from_is_err_and c.from_residual.result c.from_residual.ensures.1 in
    rw (p.1, p.2) (c.in_err-io_rat.ensures.only g.io_rat d k.array.mean)

pub returns-in_err-pins-clause-only : goal.returns-in_err-pins-clause-only
returns-in_err-pins-clause-only c d g fixed begun k =
    let p = err_from_is_err_and c.from_residual-in_err-pins.result c.from_residual-in_err-pins.ensures.1 in
    let one = c.in_ok-io_rat.ensures.only g.io_rat d k.array.mean in
    let fits : FitsOn c.in_ok-io_rat.design g = rw one.1 k.array.fits in
    let size : IsSized c.args.options.now.size c.in_ok-io_rat.design g = rw one.1 k.array.size in
    let two = c.in_ok-grid.ensures.only g (sym one.0) size fits in
    let pins : ArePinned (option_copied c.args.inputs.now.pads) c.in_ok-io_rat.design c.in_ok-grid.grid fixed begun = rw (one.1, two) k.pins in
    rw (p.1, p.2) (c.in_err-pins.ensures.only fixed begun pins)
