use Rattle.std.proofs.Common.{◌≡◌, take}
use Rattle.std.specs.List.{sum_by}
use Rattle.fab_net.specs.Netlist.{nets_of}
use Rattle.fab_site.specs.Placement.{swapped}
use Rattle.fab_cost.specs.Changes.{IsChange}
use Rattle.fab_cost.specs.Runs.{large_of}
use Rattle.fab_cost.specs.Swapping.{AreRenewed, cost_unless}
use Rattle.fab_cost.proofs.Renewals.{done_to}
use Rattle.fab_cost.proofs.large_nets.renew_larges.Given as goal

abbrev pub invariant-places : goal.invariant-places
invariant-places l = record {
  change : IsChange (sum_by (cost_unless (large_of l.view.design.now) l.view.grid.now l.view.placement.now.sites l.part.but) (take l.k (nets_of (large_of l.view.design.now) l.part.block.0))) (sum_by (cost_unless (large_of l.view.design.now) l.view.grid.now (swapped l.view.placement.now.sites l.view.swap.now) l.part.but) (take l.k (nets_of (large_of l.view.design.now) l.part.block.0))) l.gained l.lost;
  most : l.large.most.items ≡ l.initial.large.most.items;
  left : AreRenewed l.large.boxes.items (large_of l.view.design.now) l.view.grid.now l.view.placement.now.sites (swapped l.view.placement.now.sites l.view.swap.now) (done_to (large_of l.view.design.now) l.part.block.0 l.part.but l.k);
}
