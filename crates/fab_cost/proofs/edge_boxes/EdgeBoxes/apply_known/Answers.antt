use Rattle.std.proofs.Common.{◌≡◌, pos, ◌+ℤ◌, to_z, of_z, w64, rules, sym, ap, ◌∙◌, arith}
use Rattle.std.specs.Int.{saturate_unsigned}
use Rattle.std.specs.Arc.{arc_value}
use Rattle.fab_site.specs.Placement.{swapped}
use Rattle.fab_site.proofs.Swaps.{length-swapped}
use Rattle.fab_cost.specs.Runs.{positions_in}
use Rattle.fab_cost.proofs.Bounds.{cost_below}
use Rattle.fab_cost.proofs.Kept.{kept_swapped, stands_by}
use Rattle.fab_cost.specs.Cost.{cost_of}
use Rattle.fab_cost.proofs.Split.{known_sum}
use Rattle.fab_cost.proofs.Standing.{block_in_table, other_in_table, parts_stand}
use Rattle.fab_cost.proofs.edge_boxes.EdgeBoxes.apply_known.Goals as goal

pub renew_large-large-requires-clause-have : goal.renew_large-large-requires-clause-have
renew_large-large-requires-clause-have c = (parts_stand c.self.view_is c.requires.stands c.self.invariant).have

pub renew_lanes-requires-clause-block : goal.renew_lanes-requires-clause-block
renew_lanes-requires-clause-block c = block_in_table c.requires.lawful c.requires.stands.whole (parts_stand c.self.view_is c.requires.stands c.self.invariant).table_is

pub renew_lanes-requires-clause-other : goal.renew_lanes-requires-clause-other
renew_lanes-requires-clause-other c = λ b is. other_in_table c.requires.lawful is c.requires.stands.whole (parts_stand c.self.view_is c.requires.stands c.self.invariant).table_is

sum : (c : goal.After-self-1) → c.saturating_add_signed-self-inside.result ≡ cost_of c.args.design.now c.args.grid.now (swapped c.args.placement.now.sites c.args.swap.now)
sum c =
    let d = c.args.design.now in
    let g = c.args.grid.now in
    let sites = c.args.placement.now.sites in
    let s = c.args.swap.now in
    let total = (parts_stand c.self.view_is c.requires.stands c.self.invariant).sum in
    let below = cost_below d g (swapped sites s) c.blocks-blocks.ensures.lawful (omega arith, omega arith) (omega arith, omega arith) in
    let read : to_z w64 (of_z w64 c.args.delta) ≡ c.args.delta = search rules in
    known_sum d g sites s c.self.inside.total _ c.args.delta total below c.requires.known (c.saturating_add_signed-self-inside.ensures ∙ ap (λ z. saturate_unsigned w64 (pos c.self.inside.total +ℤ z)) read)

pub invariant_of-self : goal.invariant_of-self
invariant_of-self c =
    let d = c.args.design.now in
    let g = c.args.grid.now in
    let sites = c.args.placement.now.sites in
    let s = c.args.swap.now in
    let e = c.renew_lanes.ensures.table (positions_in c.self.inside.lanes.items) c.self.invariant.vectors in
    let below = cost_below d g (swapped sites s) c.blocks-blocks.ensures.lawful (omega arith, omega arith) (omega arith, omega arith) in
    let long = c.renew_large-large.ensures.have.long ∙ sym (parts_stand c.self.view_is c.requires.stands c.self.invariant).have.long in
    kept_swapped c.self.inside.lanes.items c.renew_lanes.new.lanes.items g s (arc_value c.self.inside.runs) c.self.inside.large.boxes.items c.renew_large-large.new.large.boxes.items c.self.inside.large.most.items c.renew_large-large.new.large.most.items c.self.inside.total _ c.self.invariant e long
    c.renew_large-large.ensures.most
    (omega (arith, below, sum c))

pub returns : goal.returns
returns c =
    let d = c.args.design.now in
    let g = c.args.grid.now in
    let sites = c.args.placement.now.sites in
    let s = c.args.swap.now in
    let parts = parts_stand c.self.view_is c.requires.stands c.self.invariant in
    stands_by d g (swapped sites s) c.renew_lanes.new.lanes.items (arc_value c.self.inside.runs) c.renew_large-large.new.large.boxes.items _ c.blocks-blocks.ensures.lawful (c.requires.stands.whole ∙ sym (length-swapped sites s)) (c.renew_lanes.ensures.swapped sites c.requires.lawful parts.table_is)
    parts.nets c.renew_large-large.ensures.have (sum c)
