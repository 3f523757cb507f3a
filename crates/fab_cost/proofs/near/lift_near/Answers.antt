use Rattle.fab_cost.proofs.Lifting.{lifted_near}
use Rattle.fab_cost.proofs.near.lift_near.Goals as goal

pub returns : goal.returns
returns c =
    lifted_near c.args.runs.now c.args._design.now c.args.block.0 c.args.numbers.now.items c.lift_records.new.numbers.items c.lift_records-2.new.numbers.items c.lift_records-3.new.numbers.items c.args.stamp
    c.small_row.result.now c.middle_row.result.now c.wide_row.result.now c.requires.records c.requires.block c.requires.long c.small_row.ensures c.middle_row.ensures c.wide_row.ensures
    c.lift_records.ensures c.lift_records-2.ensures c.lift_records-3.ensures
