use Rattle.std.proofs.Common.{◌≡◌, length}
use Rattle.fab_text.specs.Lines.{lines}
use Rattle.fab_file.proofs.PinLines.{Pinning}
use Rattle.fab_file.proofs.location_texts.read_pins.Given as goal

abbrev pub invariant-loop-begun : goal.invariant-loop-begun
invariant-loop-begun l =
    record {
      pinning : Pinning l.design l.grid (lines l.bytes) l.left l.placed l.fixed.items l.begun.items;
      fixed_long : length l.fixed.items ≡ length l.design.kinds;
      begun_long : length l.begun.items ≡ length l.design.kinds;
    }

abbrev pub decreases-loop-begun : goal.decreases-loop-begun
decreases-loop-begun l = length l.left
