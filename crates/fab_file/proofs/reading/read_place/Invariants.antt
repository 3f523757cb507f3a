use Rattle.std.proofs.Common.{length}
use Rattle.fab_text.specs.Lines.{lines}
use Rattle.fab_file.proofs.Underway.{Reading}
use Rattle.fab_file.proofs.reading.read_place.Given as goal

abbrev pub invariant-loop-placed : goal.invariant-loop-placed
invariant-loop-placed l = Reading l.design l.grid (lines l.bytes) l.left l.placed

abbrev pub decreases-loop-placed : goal.decreases-loop-placed
decreases-loop-placed l = length l.left
