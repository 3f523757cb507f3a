use Rattle.std.proofs.Common.{◌≡◌}
use Rattle.fab_cost.specs.Boxes.{StandsFor}
use Rattle.fab_cost.specs.Swapping.{CountedStandsFor}
use Rattle.fab_move.proofs.cost_tests.agree_at_each.Given as goal

abbrev pub invariant-draws : goal.invariant-draws
invariant-draws l = record {
  boxes : StandsFor l.boxes l.design l.grid l.placement.sites;
  edges : CountedStandsFor l.edges l.design l.grid l.placement.sites;
  grid : l.placement.grid ≡ l.grid;
}
