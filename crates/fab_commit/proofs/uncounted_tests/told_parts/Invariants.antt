use Rattle.std.proofs.Common.{◌≡◌}
use Rattle.fab_commit.proofs.uncounted_tests.told_parts.Given as goal

abbrev pub invariant-loop-number : goal.invariant-loop-number
invariant-loop-number g l =
    record {
      shower : l.shower.dial ≡ l.dial;
      watcher : l.watcher.dial ≡ l.dial;
    }
