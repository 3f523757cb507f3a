use Rattle.std.proofs.Common.{take}
use Rattle.std.specs.List.{sum_by}
use Rattle.fab_net.specs.Netlist.{nets_of}
use Rattle.fab_site.specs.Placement.{swapped}
use Rattle.fab_cost.specs.Changes.{IsChange}
use Rattle.fab_cost.specs.Runs.{large_of}
use Rattle.fab_cost.specs.Swapping.{cost_unless}
use Rattle.fab_cost.proofs.large_nets.change_of_larges.Given as goal

abbrev pub invariant-places : goal.invariant-places
invariant-places l = IsChange (sum_by (cost_unless (large_of l.view.design.now) l.view.grid.now l.view.placement.now.sites l.part.but) (take l.k (nets_of (large_of l.view.design.now) l.part.block.0))) (sum_by (cost_unless (large_of l.view.design.now) l.view.grid.now (swapped l.view.placement.now.sites l.view.swap.now) l.part.but) (take l.k (nets_of (large_of l.view.design.now) l.part.block.0))) l.gained l.lost
