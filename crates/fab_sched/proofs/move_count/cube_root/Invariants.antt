use Rattle.std.proofs.Common.{◌-◌, ◌<◌, ◌≤◌}
use Rattle.fab_sched.specs.Roots.{cube}
use Rattle.fab_sched.proofs.move_count.cube_root.Given as goal

abbrev pub invariant-halving : goal.invariant-halving
invariant-halving l = record {
  some : 1 ≤ l.low;
  order : l.low < l.high;
  limit : l.high ≤ 1073741825;
  low : cube l.low ≤ l.bound;
  high : l.bound < cube l.high;
}

abbrev pub decreases-halving : goal.decreases-halving
decreases-halving l = l.high - l.low
