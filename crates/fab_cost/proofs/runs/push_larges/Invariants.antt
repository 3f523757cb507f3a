use Rattle.fab_cost.specs.Runs.{AreLarger}
use Rattle.fab_cost.proofs.runs.push_larges.Given as goal

abbrev pub invariant-nets : goal.invariant-nets
invariant-nets l = AreLarger l.design l.block.0 l.i l.entries.items
