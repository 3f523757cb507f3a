use Rattle.std.proofs.Common.{◌≡◌}
use Rattle.fab_cost.specs.Runs.{large_of}
use Rattle.fab_cost.proofs.Making.{cost_to}
use Rattle.fab_cost.proofs.CountedMaking.{AreMade}
use Rattle.fab_cost.proofs.large_nets.boxes_for.Given as goal

abbrev pub invariant-nets : goal.invariant-nets
invariant-nets l = record {
  made : AreMade l.boxes.items (large_of l.design) l.grid l.placement.sites l.number;
  sum : l.total ≡ cost_to l.design l.grid l.placement.sites l.number;
}
