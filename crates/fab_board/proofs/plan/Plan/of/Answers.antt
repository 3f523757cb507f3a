use Rattle.std.proofs.Common.{◌≡◌, ◌^◌, ◌/◌, ◌≤◌, max, ap, arith}
use Rattle.fab_board.proofs.Powers.{units_reach}
use Rattle.fab_board.proofs.plan.Plan.of.Goals as goal
use Rattle.fab_board.proofs.plan.Plan.of.Goals.{then-batch-gt128, else-batch-gt128}

pub returns-clause-shared : goal.returns-clause-shared
returns-clause-shared c = λ fits. let d : c.args.batch / c.max.result ≡ c.args.batch / max c.args.workers 1 = ap (λ x. c.args.batch / x) c.max.ensures in
    let longest : c.if-batch-gt128.longest ≤ 32 = elim c.if-batch-gt128.branch [ then-batch-gt128 w ↦ omega (arith, w.longest-is) | else-batch-gt128 w ↦ omega (arith, w.longest-is) ] in
    let cut = c.by.ensures fits (omega (arith, longest)) in
    record {
      room = cut.room;
      each = units_reach c.args.batch c.args.workers (2 ^ c.by.result.units) (2 ^ c.by.result.size) c.min-share.result cut.room cut.within (omega (arith, d));
    }
