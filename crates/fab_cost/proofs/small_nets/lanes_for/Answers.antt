use Rattle.std.proofs.Common.{arith}
use Rattle.fab_cost.proofs.Steps.{table_more}
use Rattle.fab_cost.proofs.small_nets.lanes_for.Goals as goal

pub blocks-2-preserved : goal.blocks-2-preserved
blocks-2-preserved c =
    let t = c.blocks-2-test.true in
    let e = c.blocks-number-end.ensures.count in
    table_more c.args.grid.now c.args.placement.now.sites c.blocks-2.number c.site_of-site.result c.blocks-2.lanes.items _ c.lanes_of.result (omega (arith, t, e)) c.blocks-2.invariant c.site_of-site.ensures c.lanes_of.ensures c.in_ok-push.ensures.items
