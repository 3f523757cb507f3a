use Rattle.std.proofs.Common.{◌≡◌, ℕ, ◌+◌, ◌-◌, ◌<◌, ◌≤◌, List, slice_index_or, subst, sym, ap, arith}
use Rattle.fab_board.specs.Follows.{followed}
use Rattle.fab_board.proofs.follow.Sheet.at.Goals as goal

pub returns : goal.returns
returns g c = λ s0 is.
    let low : c.self.inside.first ≤ c.args.number = omega (arith, ap (λ w. w.1) c.self.view_is, c.requires.0) in
    let high : c.args.number - c.self.inside.first < c.self.inside.filled = omega (arith, ap (λ w. w.1) c.self.view_is, ap (λ w. w.2) c.self.view_is, c.requires.1) in
    let mine = c.self.invariant.1 (c.args.number - c.self.inside.first) c.index.result.now high s0 is in
    let n : c.self.inside.first + (c.args.number - c.self.inside.first) ≡ c.args.number = omega (arith, low) in
    let there = subst (λ (x : g.row.T.Denot). g.S.Follow.answer (followed g.S.Follow.after s0 c.self.inside.front) c.args.number x) (sym c.index.ensures) (subst (λ (k : ℕ). g.S.Follow.answer (followed g.S.Follow.after s0 c.self.inside.front) k (slice_index_or c.self.inside.places.items (c.args.number - c.self.inside.first) c.index.result.now)) n mine) in
    subst (λ (l : List g.row.E.Denot). g.S.Follow.answer (followed g.S.Follow.after s0 l) c.args.number c.index.result.now) (ap (λ w. w.0) c.self.view_is) there
