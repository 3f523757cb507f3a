use Rattle.std.proofs.Common.{◌≡◌}
use Rattle.fab_dial.proofs.tests.show_all.Given as goal

abbrev pub invariant-loop-number : goal.invariant-loop-number
invariant-loop-number g l = l.shower.dial ≡ l.dial
