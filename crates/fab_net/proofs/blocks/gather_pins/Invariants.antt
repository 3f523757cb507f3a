use Rattle.fab_net.proofs.PinCounts.{Gathered}
use Rattle.fab_net.proofs.blocks.gather_pins.Given as goal

abbrev pub invariant-loop-net : goal.invariant-loop-net
invariant-loop-net l = Gathered l.blocks l.terminals l.globals l.net l.entries.items l.counts.items
