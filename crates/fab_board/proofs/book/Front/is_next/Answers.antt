use Rattle.std.proofs.Common.{◌≡◌, ◌+◌, length, Some, List, subst, ap, arith}
use mathlib.Core.List.{IsPrefix}
use Rattle.fab_board.proofs.Fronts.{prefix_shorter}
use Rattle.fab_board.proofs.Steps.{one_more}
use Rattle.fab_board.specs.Posts.{latest}
use Rattle.fab_board.proofs.book.Front.is_next.Goals as goal

pub returns : goal.returns
returns g c = λ is e last.
    let both = c.learn.new.self.log in
    let this : IsPrefix c.self.inside.seen.log both = subst (λ (l : List g.row.E.Denot). IsPrefix l both) (ap (λ s. s.log) c.again-both.ensures) c.learn.ensures.2 in
    let n : c.other.inside.count ≡ c.self.inside.count + 1 = c.is_one_more.ensures is in
    let len : length c.other.inside.seen.log ≡ length c.self.inside.seen.log + 1 = omega (arith, c.self.invariant.0, c.other.invariant.0, n) in
    let p = prefix_shorter c.self.inside.seen.log c.other.inside.seen.log both this c.learn.ensures.3 (omega (arith, len)) in
    let last' : latest c.other.inside.seen.log ≡ Some e = rw c.other.view_is last in
    rw (← c.self.view_is, ← c.other.view_is) (one_more c.self.inside.seen.log c.other.inside.seen.log e p len last')
