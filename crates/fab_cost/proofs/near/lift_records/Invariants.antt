use Rattle.std.proofs.Common.{take}
use Rattle.fab_net.specs.Netlist.{has_number}
use Rattle.fab_cost.specs.Near.{AreLifted, blocks_in}
use Rattle.fab_cost.proofs.near.lift_records.Given as goal

abbrev pub invariant-records : goal.invariant-records
invariant-records g l = AreLifted (λ k. has_number k (blocks_in (take l.i l.records))) l.stamp l.initial.numbers.items l.numbers.items
