use Rattle.std.proofs.Common.{take}
use Rattle.fab_net.specs.Netlist.{has_number}
use Rattle.fab_cost.specs.Near.{AreLifted}
use Rattle.fab_cost.proofs.near.lift_record.Given as goal

abbrev pub invariant-others : goal.invariant-others
invariant-others g l = AreLifted (λ k. has_number k (take l.i l.net.others)) l.stamp l.initial.numbers.items l.numbers.items
