use Rattle.std.proofs.Common.{◌≡◌, ℕ}
use Rattle.fab_site.specs.Placement.{fixed_at}
use Rattle.fab_run.proofs.PointStages.{fixed_upto}
use Rattle.fab_run.proofs.point_reading.fix_named.Given as goal

abbrev pub invariant-loop-b : goal.invariant-loop-b
invariant-loop-b l = (a : ℕ) → fixed_at l.fixed a ≡ fixed_upto l.named l.placement.sites l.b a
