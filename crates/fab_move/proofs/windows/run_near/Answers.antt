use Rattle.std.proofs.Common.{◌≡◌, ◌+◌, ◌-◌, min, max, arith, sym, ◌∙◌}
use Rattle.std.specs.List.{range_with_len}
use Rattle.fab_move.proofs.Nearby.{near_run}
use Rattle.fab_move.proofs.windows.run_near.Goals as goal

pub returns : goal.returns
returns c =
    let low : c.bounds_near-low.result.0 ≡ max 1 (c.args.here - c.args.reach) = c.bounds_near-low.ensures.least in
    let high = c.bounds_near-low.ensures.greatest in
    let count : c.saturating_sub.result ≡ min c.args.n (c.args.here + c.args.reach) + 1 - max 1 (c.args.here - c.args.reach) = grind (arith, low, high) in
    (λ i. range_with_len (low i) (count i)) ∙ sym (near_run c.args.here c.args.reach c.args.n)
