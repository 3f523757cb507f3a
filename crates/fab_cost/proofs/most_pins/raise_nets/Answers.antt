use Rattle.std.proofs.Common.{◌<◌, length, arith}
use Rattle.fab_net.specs.Netlist.{nets_of}
use Rattle.fab_cost.proofs.Most.{raised_more}
use Rattle.fab_cost.proofs.most_pins.raise_nets.Goals as goal

pub nets-preserved : goal.nets-preserved
nets-preserved c =
    let low : c.nets.i < length (nets_of c.args.design.now c.args.block.0) = omega arith in
    raised_more c.args.design.now c.args.block.0 c.nets.i c.args.most.now.items c.nets.most.items _ low c.requires.long c.nets.invariant c.raise_net.ensures
