use Rattle.std.proofs.Common.{◌≡◌, ◌+◌, All, Some, length}
use Rattle.fab_board.proofs.follow_crew.all_workers.Given as goal

abbrev pub invariant-loop-state : goal.invariant-loop-state
invariant-loop-state g l =
    record {
      start : All (λ s. g.J.Origin.start ≡ Some s) l.states.items;
      claims : All (λ s. s.board ≡ g.J.Boarding.board) l.claims.items;
      same : length l.claims.items ≡ length l.states.items;
      many : length l.workers.items + length l.states.items ≡ length l.fn.states.items;
    }

abbrev pub decreases-loop-state : goal.decreases-loop-state
decreases-loop-state g l = length l.states.items
