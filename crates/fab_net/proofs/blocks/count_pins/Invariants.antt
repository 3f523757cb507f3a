use Rattle.std.proofs.Common.{length}
use Rattle.fab_net.proofs.PinCounts.{Counting}
use Rattle.fab_net.proofs.blocks.count_pins.Given as goal

abbrev pub invariant-loop-t : goal.invariant-loop-t
invariant-loop-t l = Counting (length l.initial.counts) l.row l.t-index l.counts
