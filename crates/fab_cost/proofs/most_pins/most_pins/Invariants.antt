use Rattle.fab_cost.proofs.Most.{AreReached}
use Rattle.fab_cost.proofs.most_pins.most_pins.Given as goal

abbrev pub invariant-all : goal.invariant-all
invariant-all l = AreReached l.design l.number l.most.items
