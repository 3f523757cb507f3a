use Rattle.std.proofs.Common.{◌-◌, sym, arith}
use Rattle.fab_arch.specs.Grid.{shape}
use Rattle.fab_arch.proofs.Perimeter.{at_left, at_top, at_right, at_bottom, past_all}
use Rattle.fab_arch.proofs.array.position_at.Goals as goal

pub returns-then-i-rows : goal.returns-then-i-rows
returns-then-i-rows c = λ io_rat. sym (at_left (shape c.args.nx c.args.ny io_rat) c.args.i (omega arith))

pub returns-then-i-rows-2 : goal.returns-then-i-rows-2
returns-then-i-rows-2 c = λ io_rat. sym (at_top (shape c.args.nx c.args.ny io_rat) c.args.i (c.args.i - c.from-rows.result) (omega arith) (omega arith))

pub returns-then-i-rows-3 : goal.returns-then-i-rows-3
returns-then-i-rows-3 c =
    let j = c.args.i - c.from-rows.result - c.from-columns.result in
    λ io_rat. sym (at_right (shape c.args.nx c.args.ny io_rat) c.args.i j (c.args.ny - j) (omega arith) (omega arith) (omega arith))

pub returns-then-i-rows-4 : goal.returns-then-i-rows-4
returns-then-i-rows-4 c =
    let j = c.args.i - c.from-rows.result - c.from-columns.result - c.from-rows.result in
    λ io_rat. sym (at_bottom (shape c.args.nx c.args.ny io_rat) c.args.i j (c.args.nx - j) (omega arith) (omega arith) (omega arith))

pub returns-else-i-rows-4 : goal.returns-else-i-rows-4
returns-else-i-rows-4 c = λ io_rat. sym (past_all (shape c.args.nx c.args.ny io_rat) c.args.i (omega arith))
