use Rattle.std.proofs.Common.{◌≡◌, map, take}
use Rattle.fab_cost.specs.Runs.{lanes_at}
use Rattle.fab_cost.proofs.small_nets.lanes_for.Given as goal

abbrev pub invariant-blocks-2 : goal.invariant-blocks-2
invariant-blocks-2 l = l.lanes.items ≡ map (lanes_at l.grid) (take l.number l.placement.sites)
