use Rattle.fab_cost.proofs.Lifting.{lifted_record}
use Rattle.fab_cost.proofs.near.lift_records.Goals as goal

pub records-preserved : goal.records-preserved
records-preserved g c =
    lifted_record c.args.numbers.now.items c.records.numbers.items c.lift_record.new.numbers.items c.args.stamp c.records.i c.args.records.now c.index-records-i.result c.records-test.true c.index-records-i.is c.records.invariant c.lift_record.ensures
