use Rattle.std.proofs.Common.{length, ◌∙◌}
use Rattle.fab_cost.proofs.TakenOver.{nets_below, one_block, both_blocks}
use Rattle.fab_cost.proofs.large_nets.take_boxes.Goals as goal

pub take_nets-requires-clause-within : goal.take_nets-requires-clause-within
take_nets-requires-clause-within c = nets_below c.args.design.now c.args.swap.now.block.0 c.nets_of.result.now (length c.args.large.now.boxes.items) c.nets_of.ensures c.requires.long

pub take_nets-requires-in-Some-clause-within : goal.take_nets-requires-in-Some-clause-within
take_nets-requires-in-Some-clause-within c = nets_below c.args.design.now c.in-Some.other.0 c.nets_of-in-Some.result.now _ c.nets_of-in-Some.ensures (c.take_nets.ensures.length ∙ c.requires.long)

pub returns-in-Some-clause-each : goal.returns-in-Some-clause-each
returns-in-Some-clause-each c n counts =
    both_blocks c.args.design.now c.args.swap.now c.in-Some.other c.args.from.now.boxes.items c.args.large.now.boxes.items c.take_nets.new.large.boxes.items c.take_nets-in-Some.new.large.boxes.items c.nets_of.result.now c.nets_of-in-Some.result.now n c.in-Some.is c.nets_of.ensures c.nets_of-in-Some.ensures counts (c.take_nets.ensures.each n) (c.take_nets-in-Some.ensures.each n)

pub returns-in_default-clause-each : goal.returns-in_default-clause-each
returns-in_default-clause-each c n counts =
    one_block c.args.design.now c.args.swap.now c.args.from.now.boxes.items c.args.large.now.boxes.items c.take_nets.new.large.boxes.items c.nets_of.result.now n c.in_default.is c.nets_of.ensures counts (c.take_nets.ensures.each n)
