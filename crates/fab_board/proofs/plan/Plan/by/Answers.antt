use Rattle.std.proofs.Common.{◌≡◌, ◌*◌, ◌%◌, ◌^◌, arith}
use Rattle.std.proofs.Math.Nat.{mod-eq_of_lt}
use Rattle.std.proofs.Math.Pow.{pow_pos}
use Rattle.fab_board.proofs.Powers.{cut_into, small_exponents}
use Rattle.fab_board.proofs.plan.Plan.by.Goals as goal

pub invariant_of-result : goal.invariant_of-result
invariant_of-result c = let p = pow_pos c.ilog2-size.result in let low = c.ilog2-size.ensures.power_le in
    let one : 1 * 2 ^ c.ilog2-size.result % 18446744073709551616 ≡ 1 * 2 ^ c.ilog2-size.result = mod-eq_of_lt (omega (arith, low)) in
    let s = small_exponents c.ilog2-size.result c.ilog2.result c.clamp.result (1 * 2 ^ c.ilog2-size.result % 18446744073709551616) c.min.result c.div_ceil-units.result c.next_power_of_two.result
    (omega arith) low (omega arith) c.div_ceil-units.ensures (omega (arith, one, p)) c.next_power_of_two.ensures.upper_bound c.ilog2.ensures.power_le in
    (omega (arith, s.0), omega (arith, s.1))

pub returns : goal.returns
returns c = let low = c.ilog2-size.ensures.power_le in
    let one : 1 * 2 ^ c.ilog2-size.result % 18446744073709551616 ≡ 1 * 2 ^ c.ilog2-size.result = mod-eq_of_lt (omega (arith, low)) in
    let power = c.next_power_of_two.ensures.power in
    cut_into c.args.batch c.args.numbers c.clamp.result c.ilog2-size.result c.min.result (1 * 2 ^ c.ilog2-size.result % 18446744073709551616) c.div_ceil-units.result c.next_power_of_two.result c.ilog2.result
    (omega arith) (omega arith) (omega arith) (omega arith) low c.ilog2-size.ensures.next_power_gt (omega (arith, one)) c.min.ensures c.div_ceil-units.ensures power.0 power.1
    c.next_power_of_two.ensures.lower_bound c.next_power_of_two.ensures.upper_bound c.ilog2.ensures.power_le c.ilog2.ensures.next_power_gt
