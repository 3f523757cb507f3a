use Rattle.fab_cost.specs.Runs.{AreLarger}
use Rattle.fab_cost.proofs.runs.large_nets.Given as goal

abbrev pub invariant-blocks-2 : goal.invariant-blocks-2
invariant-blocks-2 l = AreLarger l.design l.number 0 l.entries.items
