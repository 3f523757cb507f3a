use Rattle.std.proofs.Common.{◌≡◌, ◌<◌, List, [], ◌∷◌, length, true, All, Any, refl, ◌∙◌, arith, rules}
use Rattle.fab_board.specs.Views.{SeatModel}
use Rattle.fab_commit.proofs.board_tests.drained_by_four.Goals as goal

any_told : (xs : List SeatModel) → 0 < length xs → All (λ s. s.told ≡ true) xs → Any (λ s. s.told ≡ true) xs
any_told [] l h = absurd (omega arith)
any_told (x ∷ xs) l h = (0, x, l, refl, h 0 x l)

pub returns : goal.returns
returns g c =
    let b = c.in_ok-board.ensures in
    let n : length c.in_ok-seats.seats.items ≡ 4 = search rules in
    let told : All (λ (s : SeatModel). s.told ≡ true) c.in_ok-seats.seats.items = search rules in
    c.close.ensures.told (any_told _ (omega arith) told) ∙ b.board.0
