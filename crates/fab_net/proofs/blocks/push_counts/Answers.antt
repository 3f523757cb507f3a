use Rattle.std.proofs.Common.{length}
use Rattle.fab_net.proofs.PinCounts.{all_taken}
use Rattle.fab_net.proofs.blocks.push_counts.Goals as goal

pub returns-clause-none : goal.returns-clause-none
returns-clause-none c b bl =
    all_taken (length c.args.counts.now) c.args.row.now c.loop-t.t-index c.args.entries.now.items c.loop-t.entries.items c.loop-t.counts c.loop-t-test.false c.loop-t.invariant b bl
