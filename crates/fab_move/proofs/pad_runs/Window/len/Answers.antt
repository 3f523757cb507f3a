use Rattle.std.proofs.Common.{arith}
use Rattle.fab_move.proofs.Nearby.{length_all}
use Rattle.fab_move.proofs.pad_runs.Window.len.Goals as goal

pub returns : goal.returns
returns c =
    let w = c.args.self.now in
    let long = length_all w.nx w.ny w.left.first w.left.count w.top.first w.top.count w.right.first w.right.count w.bottom.first w.bottom.count in
    grind (arith, long)
