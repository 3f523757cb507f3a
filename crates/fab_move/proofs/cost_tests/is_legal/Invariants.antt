use Rattle.std.proofs.Common.{ℕ, ◌<◌}
use Rattle.fab_site.specs.Placement.{Fits, site_of}
use Rattle.fab_move.proofs.Tested.{IsFree}
use Rattle.fab_move.proofs.cost_tests.is_legal.Given as goal

abbrev pub invariant-loop-block : goal.invariant-loop-block
invariant-loop-block l = record {
  fit : (b : ℕ) → b < l.block → Fits l.design l.grid b (site_of l.sites b);
  apart : (b : ℕ) → b < l.block → IsFree l.sites b b;
}
