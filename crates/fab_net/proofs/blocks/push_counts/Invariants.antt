use Rattle.std.proofs.Common.{length}
use Rattle.fab_net.proofs.PinCounts.{Taking}
use Rattle.fab_net.proofs.blocks.push_counts.Given as goal

abbrev pub invariant-loop-t : goal.invariant-loop-t
invariant-loop-t l = Taking (length l.initial.counts) l.row l.t-index l.initial.entries.items l.entries.items l.counts
