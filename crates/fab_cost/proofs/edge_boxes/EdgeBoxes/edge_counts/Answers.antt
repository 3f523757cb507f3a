use Rattle.std.proofs.Common.{◌<◌, ◌≤◌, length, [], get_or, sym, ap, ◌∙◌, arith}
use Rattle.std.proofs.lemmas.Grind.{get_or_default_zero}
use Rattle.std.specs.Arc.{arc_value}
use Rattle.fab_cost.specs.declared.runs.Runs.{Runs}
use Rattle.fab_cost.specs.Swapping.{CountedBoxesOf, counted_at}
use Rattle.fab_cost.specs.Runs.{counted_over, positions_in}
use Rattle.fab_cost.proofs.Kept.{counts_shown, seen_large, seen_long, seen_small}
use Rattle.fab_cost.proofs.edge_boxes.EdgeBoxes.edge_counts.Goals as goal

pub row-blocks-requires : goal.row-blocks-requires
row-blocks-requires c =
    let e = ap (λ (v : CountedBoxesOf). length v.boxes) c.self.view_is in
    let l = seen_long (arc_value c.self.inside.runs).terminals (positions_in c.self.inside.lanes.items) c.self.inside.large.boxes.items in
    let r = c.requires in
    let same = ap (λ (r : Runs). length r.terminals) c.deref-runs.ensures in
    omega (arith, e, l, r, same)

pub box_over-kept-requires-clause-within : goal.box_over-kept-requires-clause-within
box_over-kept-requires-clause-within c = λ k z h.
    let e = c.row-blocks.ensures ∙ ap (λ (r : Runs). get_or r.terminals c.args.net.0 []) c.deref-runs.ensures in
    let low = c.self.invariant.within c.args.net.0 k (let l = ap length e in omega (arith, h, l)) in
    let a = get_or_default_zero c.row-blocks.result.now k z h ∙ ap (λ v. get_or v k 0) e in
    let p = ap (λ v. length (positions_in v)) c.deref.ensures.value in
    omega (arith, low, a, p)

pub returns-then-blocks-gt-WIDE : goal.returns-then-blocks-gt-WIDE
returns-then-blocks-gt-WIDE c = λ d g sites stands counts.
    let n = c.args.net.0 in
    let nets = (arc_value c.self.inside.runs).terminals in
    let ps = positions_in c.self.inside.lanes.items in
    let kept = c.self.inside.large.boxes.items in
    let e = ap (λ (v : CountedBoxesOf). length v.boxes) c.self.view_is in
    let low : n < length nets = (let l = seen_long nets ps kept in let r = c.requires in omega (arith, e, l, r)) in
    let many : 16 < length (get_or nets n []) = (let l = ap length (c.row-blocks.ensures ∙ ap (λ (r : Runs). get_or r.terminals c.args.net.0 []) c.deref-runs.ensures) in let t = c.if-blocks-gt-WIDE.true in omega (arith, l, t)) in
    counts_shown c.args.self.now d g sites n c.kept-kept.result stands counts
    (c.kept-kept.ensures ∙ sym (seen_large nets ps kept n low many) ∙ ap (λ (v : CountedBoxesOf). counted_at v.boxes n) c.self.view_is)

pub returns-else-blocks-gt-WIDE : goal.returns-else-blocks-gt-WIDE
returns-else-blocks-gt-WIDE c = λ d g sites stands counts.
    let n = c.args.net.0 in
    let nets = (arc_value c.self.inside.runs).terminals in
    let ps = positions_in c.self.inside.lanes.items in
    let kept = c.self.inside.large.boxes.items in
    let e = ap (λ (v : CountedBoxesOf). length v.boxes) c.self.view_is in
    let low : n < length nets = (let l = seen_long nets ps kept in let r = c.requires in omega (arith, e, l, r)) in
    let few : length (get_or nets n []) ≤ 16 = (let l = ap length (c.row-blocks.ensures ∙ ap (λ (r : Runs). get_or r.terminals c.args.net.0 []) c.deref-runs.ensures) in let t = c.if-blocks-gt-WIDE.false in omega (arith, l, t)) in
    counts_shown c.args.self.now d g sites n c.box_over-kept.result stands counts
    (c.box_over-kept.ensures ∙ ap (λ v. counted_over (positions_in v) c.row-blocks.result.now) c.deref.ensures.value ∙ ap (counted_over ps) (c.row-blocks.ensures ∙ ap (λ (r : Runs). get_or r.terminals c.args.net.0 []) c.deref-runs.ensures) ∙ sym (seen_small nets ps kept n low few) ∙ ap (λ (v : CountedBoxesOf). counted_at v.boxes n) c.self.view_is)
