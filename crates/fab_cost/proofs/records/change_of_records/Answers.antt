use Rattle.std.proofs.Common.{◌≡◌, ◌+◌, ◌*◌, ap, arith}
use lib.Lanes.{sum_l}
use Rattle.fab_cost.specs.Runs.{least_of, seen_in, weight}
use Rattle.fab_cost.proofs.Mins.{change_more}
use Rattle.fab_cost.proofs.records.change_of_records.Goals as goal

pub run-preserved : goal.run-preserved
run-preserved g c =
    let f = seen_in c.args.table.now c.args.moved.now.block c.args.moved.now.place in
    let r = c.index-records-i.result in
    let before = weight {W = g.row.W} f c.args.base in
    let after = weight {W = g.row.W} f c.args.target in
    let eb : r.factor * sum_l (least_of c.around-all.result c.args.base) ≡ before r = ap (λ v. r.factor * sum_l (least_of v c.args.base)) c.around-all.ensures in
    let ea : r.factor * sum_l (least_of c.around-all.result c.args.target) ≡ after r = ap (λ v. r.factor * sum_l (least_of v c.args.target)) c.around-all.ensures in
    let fall = c.weighed-gained.ensures.fall in
    let few = c.weighed-gained.ensures.few in
    let m = c.run.invariant.gained_few in
    let n = c.run.invariant.factors_few in
    let step : c.weighed-gained.result + after r ≡ 4004 * r.factor + before r = omega (arith, fall, eb, ea) in
    let ib = ap before c.index-records-i.is in
    let ia = ap after c.index-records-i.is in
    let more = change_more before after c.args.records.now c.run.i r c.run.gained (4004 * c.run.factors) c.weighed-gained.result (4004 * r.factor) c.run-test.true c.run.invariant.balance (omega (arith, step, ib, ia)) in
    record {
      balance = omega (arith, more);
      gained_few = omega (arith, few, m);
      factors_few = omega (arith, n);
    }
