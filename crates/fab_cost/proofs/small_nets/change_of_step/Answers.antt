use Rattle.std.proofs.Common.{ℕ, List, ◌+◌, ◌≡◌, ap, arith}
use Rattle.std.specs.List.{sum_by}
use Rattle.fab_cost.specs.Runs.{lanes_at, seen_in, weight}
use Rattle.fab_cost.specs.declared.records.Record.{Record}
use Rattle.fab_cost.proofs.Steps.{few_step}
use Rattle.fab_cost.proofs.small_nets.change_of_step.Goals as goal

-- at the lanes of its sites
placed : (W : ℕ) (f : ℕ → List ℕ) (rs : List (Record W)) (v w base target : List ℕ) (gained lost : ℕ) → v ≡ base → w ≡ target → gained + sum_by (weight {W = W} f w) rs ≡ lost + sum_by (weight {W = W} f v) rs
    → gained + sum_by (weight {W = W} f target) rs ≡ lost + sum_by (weight {W = W} f base) rs
placed W f rs v w base target gained lost ev ew h =
    let p = ap (λ u. sum_by (weight {W = W} f u) rs) ev in
    let q = ap (λ u. sum_by (weight {W = W} f u) rs) ew in
    omega (arith, h, p, q)

pub returns-clause-step : goal.returns-clause-step
returns-clause-step c = λ sites whole seen.
    let d = c.args.design.now in
    let g = c.args.grid.now in
    let s = c.args.step.now in
    let f = seen_in c.args.lanes.now c.args.moved.now.block c.args.moved.now.place in
    let eb = c.lanes_of-base.ensures in
    let et = c.lanes_of-target.ensures in
    let one = c.change_of_records-one.ensures in
    let two = c.change_of_records-two.ensures in
    let three = c.change_of_records-three.ensures in
    let a = c.plus.ensures in
    let b = c.plus-2.ensures in
    let k = one.gained_few in
    let l = one.lost_few in
    let m2 = two.gained_few in
    let n2 = two.lost_few in
    let m3 = three.gained_few in
    let n3 = three.lost_few in
    let a0 = a.gained in
    let a1 = a.lost in
    let b0 = b.gained in
    let b1 = b.lost in
    few_step d g sites s.block.0 s.from s.to f
    _ c.small_row.result.now _ c.middle_row.result.now _ c.wide_row.result.now
    c.change_of_records-one.result.gained c.change_of_records-one.result.lost c.change_of_records-two.result.gained c.change_of_records-two.result.lost c.change_of_records-three.result.gained c.change_of_records-three.result.lost
    c.plus-2.result.gained c.plus-2.result.lost
    c.blocks-blocks.ensures.lawful (omega arith, omega arith) (omega arith, omega arith) whole c.requires.block (λ i k. seen.each k i)
    (c.requires.records.small.each s.block.0 c.requires.block) (c.requires.records.middle.each s.block.0 c.requires.block) (c.requires.records.wide.each s.block.0 c.requires.block)
    (c.small_row.ensures) (c.middle_row.ensures) (c.wide_row.ensures)
    (placed 3 f c.small_row.result.now _ _ (lanes_at g s.from) (lanes_at g s.to) c.change_of_records-one.result.gained c.change_of_records-one.result.lost eb et one.balance)
    (placed 7 f c.middle_row.result.now _ _ (lanes_at g s.from) (lanes_at g s.to) c.change_of_records-two.result.gained c.change_of_records-two.result.lost eb et two.balance)
    (placed 15 f c.wide_row.result.now _ _ (lanes_at g s.from) (lanes_at g s.to) c.change_of_records-three.result.gained c.change_of_records-three.result.lost eb et three.balance)
    (omega (arith, a0, b0)) (omega (arith, a1, b1)) (omega (arith, a0, b0, k, m2, m3)) (omega (arith, a1, b1, l, n2, n3))
