use Rattle.fab_cost.specs.Runs.{ArePacked}
use Rattle.fab_cost.proofs.runs.records_between.Given as goal

abbrev pub invariant-blocks-2 : goal.invariant-blocks-2
invariant-blocks-2 g l = ArePacked {W = g.row.W} l.design l.above l.most l.number 0 l.entries.items
