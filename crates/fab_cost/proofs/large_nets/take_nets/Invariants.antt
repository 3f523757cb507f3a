use Rattle.std.proofs.Common.{◌≡◌, ℕ, ◌==◌, cond, length, take}
use Rattle.std.specs.List.{list_any}
use Rattle.fab_net.specs.declared.netlist_types.NetId.{NetId}
use Rattle.fab_cost.specs.Swapping.{counted_at}
use Rattle.fab_cost.proofs.large_nets.take_nets.Given as goal

abbrev pub invariant-loop-net : goal.invariant-loop-net
invariant-loop-net l =
    (length l.large.boxes.items ≡ length l.initial.large.boxes.items)
    × (l.large.most.items ≡ l.initial.large.most.items)
    × ((k : ℕ) → counted_at l.large.boxes.items k ≡ cond (list_any (λ (n : NetId). k == n.0) (take l.net-index l.nets)) (counted_at l.from.boxes.items k) (counted_at l.initial.large.boxes.items k))
