use Rattle.std.proofs.Common.{◌≡◌, ◌≤◌}
use Rattle.fab_cost.specs.Edges.{edges_of}
use Rattle.fab_cost.specs.Cost.{xs_of, ys_of}
use Rattle.fab_cost.specs.Swapping.{swapped_by}
use Rattle.fab_cost.proofs.Edges.{sites_to}
use Rattle.fab_cost.proofs.counted_box.counted_box.Given as goal

abbrev pub invariant-terminals : goal.invariant-terminals
invariant-terminals l = record {
  some : 1 ≤ l.i;
  x : l.x ≡ edges_of (xs_of l.grid (sites_to (swapped_by l.placement.sites l.swap) l.terminals l.i));
  y : l.y ≡ edges_of (ys_of l.grid (sites_to (swapped_by l.placement.sites l.swap) l.terminals l.i));
}
