use Rattle.fab_cost.specs.Runs.{ArePacked}
use Rattle.fab_cost.proofs.runs.push_records.Given as goal

abbrev pub invariant-nets : goal.invariant-nets
invariant-nets g l = ArePacked {W = g.row.W} l.design l.above l.most l.block.0 l.i l.entries.items
