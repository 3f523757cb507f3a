use Rattle.std.proofs.Common.{◌≡◌, true, rules, below_more}
use Rattle.fab_site.specs.Placement.{Fits, site_of}
use Rattle.fab_site.proofs.legal.all_fit.Goals as goal

pub loop-block-preserved : goal.loop-block-preserved
loop-block-preserved c =
    let is : c.fits.result ≡ true = search rules in
    below_more (λ b. Fits c.args.design.now c.args.grid.now b (site_of c.args.sites.now b)) c.loop-block.block c.loop-block.invariant (c.fits.ensures.0 is)
