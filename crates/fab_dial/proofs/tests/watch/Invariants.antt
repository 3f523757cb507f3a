use Rattle.std.proofs.Common.{◌≡◌}
use Rattle.fab_dial.proofs.tests.watch.Given as goal

abbrev pub invariant-loop-turn : goal.invariant-loop-turn
invariant-loop-turn g l = l.watcher.dial ≡ l.dial
