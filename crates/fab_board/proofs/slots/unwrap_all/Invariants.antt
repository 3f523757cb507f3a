use Rattle.std.proofs.Common.{◌≡◌, ◌++◌, length, Some, map}
use Rattle.std.specs.Vec.Iter.{into_iter_items, into_iter_len}
use Rattle.fab_board.proofs.slots.unwrap_all.Given as goal

abbrev pub invariant-loop-slot : goal.invariant-loop-slot
invariant-loop-slot g l = (l.yielded ++ into_iter_items l.slot-iterator ≡ into_iter_items l.initial.slot-iterator)
    × (into_iter_len l.slot-iterator ≡ length (into_iter_items l.slot-iterator))
    × (map (λ (x : g.row.T.Denot). Some x) l.all.items ≡ l.yielded)
