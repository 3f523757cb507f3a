use Rattle.std.proofs.Common.{◌≡◌, drop}
use Rattle.fab_net.specs.Faults.{driver_fault}
use Rattle.fab_net.specs.Text.{net_names}
use Rattle.fab_net.proofs.reading.check_drivers.Given as goal

abbrev pub invariant-loop-net : goal.invariant-loop-net
invariant-loop-net l = driver_fault l.pins (drop l.net (net_names l.pins)) ≡ driver_fault l.pins (net_names l.pins)
