use Rattle.std.proofs.Common.{◌≡◌, ◌≤◌, ap, subst, arith, length, List}
use Rattle.std.proofs.lemmas.Bool.Decides.{nat_tests}
use mathlib.Core.List.{IsPrefix}
use Rattle.fab_board.proofs.Fronts.{prefix_shorter, prefix_whole}
use Rattle.fab_board.proofs.book.Front.is_same.Goals as goal

pub returns-clause-same : goal.returns-clause-same
returns-clause-same g c = λ is.
    let both = c.learn.new.self.log in
    let this : IsPrefix c.self.inside.seen.log both = subst (λ (l : List g.row.E.Denot). IsPrefix l both) (ap (λ s. s.log) c.again-both.ensures) c.learn.ensures.2 in
    let e : c.self.inside.count ≡ c.other.inside.count = grind (arith, is, nat_tests) in
    let less : length c.self.inside.seen.log ≤ length c.other.inside.seen.log = omega (arith, c.self.invariant.0, c.other.invariant.0, e) in
    let more : length c.other.inside.seen.log ≤ length c.self.inside.seen.log = omega (arith, c.self.invariant.0, c.other.invariant.0, e) in
    let p = prefix_shorter c.self.inside.seen.log c.other.inside.seen.log both this c.learn.ensures.3 less in
    rw (← c.self.view_is, ← c.other.view_is) (prefix_whole c.self.inside.seen.log c.other.inside.seen.log p more)
