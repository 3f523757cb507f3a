use Rattle.std.proofs.Common.{◌≡◌, map, take}
use Rattle.fab_net.specs.Netlist.{block_on}
use Rattle.fab_site.specs.Placement.{swapped}
use Rattle.fab_cost.specs.Runs.{lanes_in, least_among}
use Rattle.fab_cost.proofs.lane_boxes.around_swapped.Given as goal

abbrev pub invariant-terminals : goal.invariant-terminals
invariant-terminals l = l.all ≡ least_among (lanes_in l.grid (swapped l.placement.sites l.swap)) (map block_on (take l.i l.terminals))
