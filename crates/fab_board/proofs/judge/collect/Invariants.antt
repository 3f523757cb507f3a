use Rattle.std.proofs.Common.{◌≡◌, ◌+◌, ◌≤◌, Some, length}
use Rattle.fab_board.specs.Follows.{IsAnswered}
use Rattle.fab_board.specs.Judged.{Placed}
use Rattle.fab_board.proofs.judge.collect.Given as goal

abbrev pub invariant-loop-place : goal.invariant-loop-place
invariant-loop-place g l =
    record {
      low : l.place ≤ l.count;
      many : length l.slots.items ≡ l.count;
      placed : Placed (λ k x. IsAnswered g.S.Follow.after g.S.Follow.answer g.J.Origin.start (l.first + k) (Some x)) l.slots.items;
    }

abbrev pub decreases-loop-place : goal.decreases-loop-place
decreases-loop-place g l = l.place
