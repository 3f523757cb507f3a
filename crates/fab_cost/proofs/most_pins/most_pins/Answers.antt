use Rattle.std.proofs.Common.{arith}
use Rattle.fab_cost.proofs.Most.{reached_all, reached_more, reached_none}
use Rattle.fab_cost.proofs.most_pins.most_pins.Goals as goal

pub all-init : goal.all-init
all-init c = reached_none c.args.design.now c.in_ok-most.most.items (omega (arith, c.in_ok-most.ensures.len, c.nets-nets.ensures.count))

pub all-preserved : goal.all-preserved
all-preserved c = reached_more c.args.design.now c.all.number c.all.most.items _ c.all.invariant c.raise_nets.ensures

pub returns : goal.returns
returns c = record { long = c.all.invariant.long; most = reached_all c.args.design.now c.all.number c.all.most.items c.blocks-blocks.ensures.lawful (omega arith) c.all.invariant }
