use Rattle.std.proofs.Common.{◌≡◌, All, length}
use Rattle.fab_commit.proofs.follow_tests.found.Given as goal

abbrev pub invariant-loop-worker : goal.invariant-loop-worker
invariant-loop-worker l =
    record {
      same : All (λ s. s ≡ 0) l.others.items;
      many : length l.others.items ≡ l._worker;
    }
