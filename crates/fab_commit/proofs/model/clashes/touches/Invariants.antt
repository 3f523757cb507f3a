use Rattle.std.proofs.Common.{◌≡◌, drop}
use Rattle.fab_move.specs.Judge.{meet, touched}
use Rattle.fab_commit.proofs.model.clashes.touches.Given as goal

abbrev pub invariant-loop-mark : goal.invariant-loop-mark
invariant-loop-mark l = meet (touched l.design l.swap) (drop l.mark-index l.marks) ≡ meet (touched l.design l.swap) l.marks
