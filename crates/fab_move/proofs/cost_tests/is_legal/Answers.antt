use Rattle.std.proofs.Common.{rules, below_more}
use Rattle.fab_site.specs.Placement.{Fits, site_of}
use Rattle.fab_move.proofs.Tested.{IsFree}
use Rattle.fab_move.proofs.cost_tests.is_legal.Goals as goal

pub loop-block-preserved : goal.loop-block-preserved
loop-block-preserved c =
    let fit : Fits c.args.design.now c.args.grid.now c.loop-block.block (site_of c.args.sites.now c.loop-block.block) = search rules in
    let free : IsFree c.args.sites.now c.loop-block.block c.loop-block.block = search rules in
    record {
      fit = below_more _ _ c.loop-block.invariant.fit fit;
      apart = below_more (λ b. IsFree c.args.sites.now b b) _ c.loop-block.invariant.apart free;
    }
