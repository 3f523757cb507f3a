use Rattle.std.proofs.Common.{arith}
use Rattle.fab_cost.proofs.Packs.{larger_next}
use Rattle.fab_cost.proofs.Steps.{nets_few}
use Rattle.fab_cost.proofs.runs.push_larges.Goals as goal

pub returns : goal.returns
returns c =
    let few = nets_few c.args.design.now c.args.block.0 c.nets-nets.ensures.lawful in
    let e = c.count_of_nets-nets.ensures in
    let f = c.nets-test.false in
    let h = c.nets.auto.i-end in
    larger_next c.args.design.now c.args.block.0 c.nets.i c.nets.entries.items c.nets-nets.ensures.lawful (omega arith) (omega (arith, few, e, h)) c.nets.invariant
