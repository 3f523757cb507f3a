use Rattle.fab_cost.specs.Runs.{AreRaised}
use Rattle.fab_cost.proofs.most_pins.raise_nets.Given as goal

abbrev pub invariant-nets : goal.invariant-nets
invariant-nets l = AreRaised l.design l.block.0 l.i l.initial.most.items l.most.items
