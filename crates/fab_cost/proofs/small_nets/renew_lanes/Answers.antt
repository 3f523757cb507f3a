use Rattle.std.proofs.Common.{refl}
use Rattle.fab_cost.proofs.Kept.{after_none, after_some}
use Rattle.fab_cost.proofs.Steps.{table_none, table_some}
use Rattle.fab_cost.proofs.small_nets.renew_lanes.Goals as goal

pub returns-in-Some : goal.returns-in-Some
returns-in-Some c =
    let g = c.args.grid.now in
    let s = c.args.swap.now in
    record {
      swapped = λ sites lawful table. table_some g g sites s c.in-Some.other c.args.lanes.now.items _ _ c.lanes_of.result c.lanes_of-in-Some.result lawful c.in-Some.is table c.lanes_of.ensures c.lanes_of-in-Some.ensures refl refl;
      table = λ positions table. after_some g s c.in-Some.other c.args.lanes.now.items _ _ positions c.lanes_of.result c.lanes_of-in-Some.result c.requires.block (c.requires.other c.in-Some.other c.in-Some.is) c.in-Some.is table c.lanes_of.ensures c.lanes_of-in-Some.ensures refl refl;
    }

pub returns-in_default : goal.returns-in_default
returns-in_default c =
    let g = c.args.grid.now in
    let s = c.args.swap.now in
    record {
      swapped = λ sites lawful table. table_none g g sites s c.args.lanes.now.items _ c.lanes_of.result lawful c.in_default.is table c.lanes_of.ensures refl;
      table = λ positions table. after_none g s c.args.lanes.now.items _ positions c.lanes_of.result c.requires.block c.in_default.is table c.lanes_of.ensures refl;
    }
