use Rattle.std.proofs.Common.{◌≡◌, ◌&&◌, false, not, take}
use Rattle.std.specs.Prelude.{nat_lt, slice_index}
use Rattle.std.specs.List.{list_any}
use Rattle.fab_net.specs.declared.netlist_types.NetId.{NetId}
use Rattle.fab_cost.specs.Runs.{is_large}
use Rattle.fab_move.proofs.stamps.is_net_of_few_touched.Given as goal

abbrev pub invariant-nets : goal.invariant-nets
invariant-nets l = list_any (λ (n : NetId). nat_lt l.base (slice_index l.stamps n.0) && not (is_large l.design n.0)) (take l.i l.nets) ≡ false
