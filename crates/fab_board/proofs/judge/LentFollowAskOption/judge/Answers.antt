use Rattle.std.proofs.Common.{◌≡◌, ℕ, ◌+◌, ◌-◌, subst, arith}
use Rattle.fab_board.proofs.judge.LentFollowAskOption.judge.Goals as goal

pub judge-judged-requires : goal.judge-judged-requires
judge-judged-requires g c =
    let n = c.args.first + c.places.i in
    let low = c.if-number-self.false in
    let high = c.if-number-self-2.false in
    let is : c.self.inside.first + (n - c.self.inside.first) ≡ n = omega (arith, low) in
    subst (λ (k : ℕ). g.B.Judging.may c.self.inside.by k) is (c.self.invariant (n - c.self.inside.first) (omega (arith, low, high)))
