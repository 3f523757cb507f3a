use Rattle.fab_arch.specs.Grid.{NoSquareHolds}
use Rattle.fab_arch.proofs.array.Grid.fit.Given as goal

abbrev pub invariant-loop-side : goal.invariant-loop-side
invariant-loop-side l = NoSquareHolds l.side l.logic l.pads l.io_rat
