use Rattle.std.proofs.Common.{ℕ, ◌+◌, ◌-◌, Some, length-set, ◌∙◌, arith}
use Rattle.fab_board.specs.Follows.{IsAnswered}
use Rattle.fab_board.proofs.Placing.{all_unwrapped, answered_if, if_ok, placed_set}
use Rattle.fab_board.proofs.judge.collect.Goals as goal

pub loop-place-preserved-in-Some : goal.loop-place-preserved-in-Some
loop-place-preserved-in-Some g c =
    let inv = c.loop-place.invariant in
    let P = λ (k : ℕ) (x : g.row.T.Denot). IsAnswered g.S.Follow.after g.S.Follow.answer g.J.Origin.start (c.args.first + k) (Some x) in
    let slots = c.loop-place.slots.items in
    let i = c.loop-place.place - 1 in
    let low = inv.low in
    let many = inv.many in
    let some = c.loop-place-test.true in
    record {
      low = omega (arith, low);
      many = length-set slots i c.in-Some.answer ∙ many;
      placed = placed_set P slots i c.in-Some.answer (omega (arith, low, many, some)) (answered_if g.S.Follow.after g.S.Follow.answer g.J.Origin.start c.seek.new.self.1 (c.args.first + i) c.in-Some.answer (λ s0 is. c.in-Some.ensures s0 is)) inv.placed;
    }

pub loop-place-preserved-in-Some-2 : goal.loop-place-preserved-in-Some-2
loop-place-preserved-in-Some-2 g c =
    let inv = c.loop-place.invariant in
    let P = λ (k : ℕ) (x : g.row.T.Denot). IsAnswered g.S.Follow.after g.S.Follow.answer g.J.Origin.start (c.args.first + k) (Some x) in
    let slots = c.loop-place.slots.items in
    let i = c.loop-place.place - 1 in
    let low = inv.low in
    let many = inv.many in
    let some = c.loop-place-test.true in
    record {
      low = omega (arith, low);
      many = length-set slots i c.in-Some.answer ∙ many;
      placed = placed_set P slots i c.in-Some.answer (omega (arith, low, many, some)) (answered_if g.S.Follow.after g.S.Follow.answer g.J.Origin.start c.seek.new.self.1 (c.args.first + i) c.in-Some.answer (λ s0 is. c.in-Some.ensures s0 is)) inv.placed;
    }

pub returns-clause-each : goal.returns-clause-each
returns-clause-each g c =
    let P = λ (k : ℕ) (x : g.row.T.Denot). IsAnswered g.S.Follow.after g.S.Follow.answer g.J.Origin.start (c.args.first + k) (Some x) in
    if_ok _ _ c.unwrap_all.result (λ v is. all_unwrapped P c.loop-place.slots.items v.items is c.loop-place.invariant.placed) c.unwrap_all.ensures
