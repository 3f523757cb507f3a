use Rattle.std.proofs.Common.{◌≡◌, ◌+◌, ◌≤◌, ◌++◌, length, map, drop}
use Rattle.fab_net.specs.Text.{entries, pins_at}
use Rattle.fab_net.proofs.reading.push_entries.Given as goal

abbrev pub invariant-loop-i : goal.invariant-loop-i
invariant-loop-i l = record {
  few : length l.pins ≤ 1048576 + l.i;
  left : l.pins ++ pins_at l.arch l.kind l.block l.i (entries (drop l.i (map (λ w. w.now) l.words)) (drop l.i l.spans)) ≡ l.fn.pins ++ pins_at l.arch l.kind l.block 0 (entries (map (λ w. w.now) l.words) l.spans);
}
