use Rattle.std.proofs.Common.{◌≡◌, ℕ, ◌-◌, length}
use Rattle.fab_site.specs.Placement.{fixed_at}
use Rattle.fab_site.specs.Free.{free_below}
use Rattle.fab_site.proofs.fixed.lengthen.Given as goal

abbrev pub invariant-loop-sites : goal.invariant-loop-sites
invariant-loop-sites l =
    record {
      tied : l.free.items ≡ free_below l.sites.items (length l.sites.items);
      same : (b : ℕ) → fixed_at l.sites.items b ≡ fixed_at l.initial.sites.items b;
    }

abbrev pub decreases-loop-sites : goal.decreases-loop-sites
decreases-loop-sites l = l.len - length l.sites.items
