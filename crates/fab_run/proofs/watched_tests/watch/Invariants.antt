use Rattle.std.proofs.Common.{◌≡◌}
use Rattle.fab_run.proofs.watched_tests.watch.Given as goal

abbrev pub invariant-loop-turn : goal.invariant-loop-turn
invariant-loop-turn g l = record { own : l.watcher.dial ≡ l.dial }
