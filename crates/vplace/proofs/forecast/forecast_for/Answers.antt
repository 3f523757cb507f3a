use Rattle.std.proofs.Common.{◌<◌, ◌+◌, zero, arith}
use Rattle.std.proofs.Math.Nat.{le-mul_of_pos_right}
use Rattle.vplace.proofs.forecast.forecast_for.Goals as goal

pub overflow_add-most : goal.overflow_add-most
overflow_add-most c =
    let some : zero < c.args.schedule.now.moves = omega (arith, c.moves-moves.ensures.value, c.moves-moves.ensures.limits) in
    let most = le-mul_of_pos_right (c.last_index.result + 1) some in
    omega (arith, most, c.last_index.ensures.bound)
