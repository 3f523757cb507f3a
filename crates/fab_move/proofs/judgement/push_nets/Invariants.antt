use Rattle.std.proofs.Common.{◌≡◌, ◌++◌, map, take}
use Rattle.fab_net.specs.declared.netlist_types.NetId.{NetId}
use Rattle.fab_move.specs.declared.marks.Mark.TheVariants.{Net}
use Rattle.fab_move.proofs.judgement.push_nets.Given as goal

abbrev pub invariant-loop-net : goal.invariant-loop-net
invariant-loop-net l = l.footprint.items ≡ l.initial.footprint.items ++ map (λ (n : NetId). Net n) (take l.net-index l.nets)
