use Rattle.std.proofs.Common.{sym, ◌∙◌, arith}
use Rattle.std.specs.Arc.{arc_value}
use Rattle.fab_site.specs.Placement.{swapped}
use Rattle.fab_site.proofs.Swaps.{length-swapped}
use Rattle.fab_cost.specs.Runs.{positions_in}
use Rattle.fab_cost.proofs.Bounds.{cost_below}
use Rattle.fab_cost.proofs.Kept.{kept_swapped, stands_by}
use Rattle.fab_cost.proofs.Large.{change_both}
use Rattle.fab_cost.proofs.Standing.{block_in_table, other_in_table, parts_stand}
use Rattle.fab_cost.proofs.edge_boxes.EdgeBoxesWireCost.apply.Goals as goal

pub renew_large-large-requires-clause-have : goal.renew_large-large-requires-clause-have
renew_large-large-requires-clause-have c = (parts_stand c.self.view_is c.requires.stands c.self.invariant).have

pub renew_lanes-requires-clause-block : goal.renew_lanes-requires-clause-block
renew_lanes-requires-clause-block c = block_in_table c.requires.lawful c.requires.stands.whole (parts_stand c.self.view_is c.requires.stands c.self.invariant).table_is

pub renew_lanes-requires-clause-other : goal.renew_lanes-requires-clause-other
renew_lanes-requires-clause-other c = λ b is. other_in_table c.requires.lawful is c.requires.stands.whole (parts_stand c.self.view_is c.requires.stands c.self.invariant).table_is

pub overflow_sub-self : goal.overflow_sub-self
overflow_sub-self c =
    let d = c.args.design.now in
    let g = c.args.grid.now in
    let sites = c.args.placement.now.sites in
    let s = c.args.swap.now in
    let both = change_both d g sites (swapped sites s) c.change_of_small-small.result.gained c.change_of_small-small.result.lost c.renew_large-large.result.gained c.renew_large-large.result.lost c.change_of_small-small.ensures.balance c.renew_large-large.ensures.balance in
    let total = (parts_stand c.self.view_is c.requires.stands c.self.invariant).sum in
    omega (arith, total, both, c.plus-tally.ensures.gained, c.plus-tally.ensures.lost)

pub invariant_of-self : goal.invariant_of-self
invariant_of-self c =
    let d = c.args.design.now in
    let g = c.args.grid.now in
    let sites = c.args.placement.now.sites in
    let s = c.args.swap.now in
    let both = change_both d g sites (swapped sites s) c.change_of_small-small.result.gained c.change_of_small-small.result.lost c.renew_large-large.result.gained c.renew_large-large.result.lost c.change_of_small-small.ensures.balance c.renew_large-large.ensures.balance in
    let total = (parts_stand c.self.view_is c.requires.stands c.self.invariant).sum in
    let e = c.renew_lanes.ensures.table (positions_in c.self.inside.lanes.items) c.self.invariant.vectors in
    let below = cost_below d g (swapped sites s) c.blocks-blocks.ensures.lawful (omega arith, omega arith) (omega arith, omega arith) in
    let long = c.renew_large-large.ensures.have.long ∙ sym (parts_stand c.self.view_is c.requires.stands c.self.invariant).have.long in
    kept_swapped c.self.inside.lanes.items c.renew_lanes.new.lanes.items g s (arc_value c.self.inside.runs) c.self.inside.large.boxes.items c.renew_large-large.new.large.boxes.items c.self.inside.large.most.items c.renew_large-large.new.large.most.items c.self.inside.total _ c.self.invariant e long
    c.renew_large-large.ensures.most
    (omega (arith, total, both, below, c.plus-tally.ensures.gained, c.plus-tally.ensures.lost))

pub returns : goal.returns
returns c =
    let d = c.args.design.now in
    let g = c.args.grid.now in
    let sites = c.args.placement.now.sites in
    let s = c.args.swap.now in
    let both = change_both d g sites (swapped sites s) c.change_of_small-small.result.gained c.change_of_small-small.result.lost c.renew_large-large.result.gained c.renew_large-large.result.lost c.change_of_small-small.ensures.balance c.renew_large-large.ensures.balance in
    let total = (parts_stand c.self.view_is c.requires.stands c.self.invariant).sum in
    let parts = parts_stand c.self.view_is c.requires.stands c.self.invariant in
    stands_by d g (swapped sites s) c.renew_lanes.new.lanes.items (arc_value c.self.inside.runs) c.renew_large-large.new.large.boxes.items _ c.blocks-blocks.ensures.lawful (c.requires.stands.whole ∙ sym (length-swapped sites s)) (c.renew_lanes.ensures.swapped sites c.requires.lawful parts.table_is)
    parts.nets c.renew_large-large.ensures.have (omega (arith, total, both, c.plus-tally.ensures.gained, c.plus-tally.ensures.lost))
