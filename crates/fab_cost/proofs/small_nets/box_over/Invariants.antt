use Rattle.std.proofs.Common.{◌≡◌, ◌≤◌, map, take}
use Rattle.fab_cost.specs.Edges.{edges_of}
use Rattle.fab_cost.specs.Runs.{positions_in}
use Rattle.fab_cost.proofs.Over.{x_at, y_at}
use Rattle.fab_cost.proofs.small_nets.box_over.Given as goal

abbrev pub invariant-blocks-2 : goal.invariant-blocks-2
invariant-blocks-2 l = record {
  some : 1 ≤ l.i;
  x : l.x ≡ edges_of (map (x_at (positions_in l.lanes)) (take l.i l.blocks));
  y : l.y ≡ edges_of (map (y_at (positions_in l.lanes)) (take l.i l.blocks));
}
