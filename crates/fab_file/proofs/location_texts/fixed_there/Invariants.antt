use Rattle.std.proofs.Common.{◌≡◌, ℕ, ◌<◌, ◌≤◌, None}
use Rattle.fab_site.specs.Placement.{fixed_at}
use Rattle.fab_file.proofs.location_texts.fixed_there.Given as goal

abbrev pub invariant-each : goal.invariant-each
invariant-each l =
    record {
      below : (b : ℕ) → b < l.block → fixed_at l.fixed b ≡ fixed_at l.sites b;
      above : (b : ℕ) → l.block ≤ b → fixed_at l.fixed b ≡ None;
    }
