use Rattle.std.proofs.Common.{length}
use Rattle.fab_run.proofs.Telling.{cut_between}
use Rattle.fab_run.proofs.piece.write_head.Goals as goal

pub returns-then-not-is_ready-clause-cut : goal.returns-then-not-is_ready-clause-cut
returns-then-not-is_ready-clause-cut g c = (length c.args.head.now, cut_between _ _ c.args.head.now c.in_ok-write_whole.ensures.whole)
