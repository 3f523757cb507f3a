use Rattle.fab_cost.specs.Runs.{AreListed}
use Rattle.fab_cost.proofs.runs.blocks_by_net.Given as goal

abbrev pub invariant-nets : goal.invariant-nets
invariant-nets l = AreListed l.design l.number l.entries.items
