use Rattle.std.proofs.Common.{◌≡◌, ℕ, ◌==◌, cond, length, take}
use Rattle.std.specs.Prelude.{slice_index}
use Rattle.std.specs.List.{list_any}
use Rattle.fab_net.specs.declared.netlist_types.NetId.{NetId}
use Rattle.fab_move.proofs.stamps.stamp_nets.Given as goal

abbrev pub invariant-loop-net : goal.invariant-loop-net
invariant-loop-net l =
    (length l.stamps.items ≡ length l.initial.stamps.items)
    × ((k : ℕ) → slice_index l.stamps.items k ≡ cond (list_any (λ (n : NetId). k == n.0) (take l.net-index l.nets)) l.stamp (slice_index l.initial.stamps.items k))
