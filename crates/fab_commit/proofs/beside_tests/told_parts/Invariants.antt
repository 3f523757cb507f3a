use Rattle.std.proofs.Common.{◌≡◌}
use Rattle.fab_commit.proofs.beside_tests.told_parts.Given as goal

abbrev pub invariant-loop-part : goal.invariant-loop-part
invariant-loop-part g l =
    record {
      shower : l.shower.dial ≡ l.dial;
      watcher : l.watcher.dial ≡ l.dial;
    }
