use Rattle.std.proofs.Common.{◌≡◌}
use Rattle.fab_commit.proofs.shown_tests.put_readings.Given as goal

abbrev pub invariant-loop-turn : goal.invariant-loop-turn
invariant-loop-turn g l = record { shower : l.shower.dial ≡ l.dial; watcher : l.watcher.dial ≡ l.dial }
