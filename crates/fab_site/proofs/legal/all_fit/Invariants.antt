use Rattle.std.proofs.Common.{ℕ, ◌<◌}
use Rattle.fab_site.specs.Placement.{Fits, site_of}
use Rattle.fab_site.proofs.legal.all_fit.Given as goal

abbrev pub invariant-loop-block : goal.invariant-loop-block
invariant-loop-block l = (b : ℕ) → b < l.block → Fits l.design l.grid b (site_of l.sites b)
