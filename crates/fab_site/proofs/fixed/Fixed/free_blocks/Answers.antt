use Rattle.std.proofs.Common.{arith}
use Rattle.fab_site.proofs.Freed.{free_count, free_few}
use Rattle.fab_site.proofs.fixed.Fixed.free_blocks.Goals as goal

pub overflow_sub-result : goal.overflow_sub-result
overflow_sub-result c =
    let count = free_count c.args.self.now c.args.blocks c.requires in
    grind (arith, count)

pub overflow_cast-result : goal.overflow_cast-result
overflow_cast-result c =
    let count = free_count c.args.self.now c.args.blocks c.requires in
    let few = free_few c.args.self.now c.args.blocks in
    grind (arith, count, few)

pub returns : goal.returns
returns c =
    let count = free_count c.args.self.now c.args.blocks c.requires in
    grind (arith, count)
