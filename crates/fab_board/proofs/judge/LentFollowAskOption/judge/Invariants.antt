use Rattle.std.proofs.Common.{◌≡◌, ℕ, ◌+◌, ◌<◌, Option, length, get_or}
use Rattle.std.specs.Prelude.{IfSome}
use Rattle.fab_board.proofs.judge.LentFollowAskOption.judge.Given as goal

abbrev pub invariant-places : goal.invariant-places
invariant-places g l = (length l.places ≡ length l.fn.places)
    × ((k : ℕ) (d : Option g.row.T.Denot) → k < l.i → IfSome (get_or l.places k d) (λ a. g.B.Judging.gives l.fn.self (l.first + k) a))
