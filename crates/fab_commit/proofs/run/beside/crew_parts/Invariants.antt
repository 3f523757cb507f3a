use Rattle.std.proofs.Common.{◌≡◌, All, length}
use Rattle.std.specs.Arc.{arc_value}
use Rattle.fab_commit.specs.Run.Commits.{standing_of}
use Rattle.fab_commit.proofs.run.beside.crew_parts.Given as goal

abbrev pub invariant-loop-worker : goal.invariant-loop-worker
invariant-loop-worker g l =
    record {
      same : All (λ s. s ≡ record { given = arc_value l.fn.given; standing = standing_of l.fn.state }) l.others.items;
      many : length l.others.items ≡ l._worker;
    }
