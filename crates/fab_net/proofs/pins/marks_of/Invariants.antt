use Rattle.std.proofs.Common.{◌≡◌, ℕ, ◌<◌, [], false, length, get_or, take, map}
use Rattle.fab_net.specs.Text.{is_global_in}
use Rattle.fab_net.proofs.pins.marks_of.Given as goal

abbrev pub invariant-loop-name : goal.invariant-loop-name
invariant-loop-name l = record {
  size : length l.marks.items ≡ length l.names;
  marks : (r : ℕ) → r < length l.names → get_or l.marks.items r false ≡ is_global_in (map (λ w. w.now) (take l.name-index l.globals)) (get_or l.names r []);
}
