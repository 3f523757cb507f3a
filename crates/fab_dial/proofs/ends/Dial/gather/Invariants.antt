use Rattle.std.proofs.Common.{◌≡◌}
use Rattle.fab_dial.proofs.Gathering.{Gathers}
use Rattle.fab_dial.proofs.ends.Dial.gather.Given as goal

abbrev pub invariant-loop-watcher : goal.invariant-loop-watcher
invariant-loop-watcher g l = record {
  same : l.shower ≡ l.fn.shower;
  gathered : Gathers l.self l.fn.shower.shown l.fn.watchers.items l.watchers.items;
}

abbrev pub decreases-loop-watcher : goal.decreases-loop-watcher
decreases-loop-watcher g l = goal.left-loop-watcher g l
