use Rattle.std.proofs.Common.{◌≡◌, All, length}
use Rattle.fab_board.proofs.judge.crew_parts.Given as goal

abbrev pub invariant-loop-worker : goal.invariant-loop-worker
invariant-loop-worker g l =
    record {
      same : All (λ s. s ≡ l.fn.by) l.others.items;
      many : length l.others.items ≡ l._worker;
    }
