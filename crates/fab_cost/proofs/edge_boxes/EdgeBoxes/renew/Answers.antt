use Rattle.std.proofs.Common.{◌≡◌, refl, sym, ap, ◌∙◌, arith}
use Rattle.std.specs.Arc.{arc_value}
use Rattle.fab_site.specs.Placement.{swapped}
use Rattle.fab_site.proofs.Swaps.{length-swapped}
use Rattle.fab_cost.specs.Runs.{positions_in}
use Rattle.fab_cost.specs.Cost.{cost_of}
use Rattle.fab_cost.proofs.Bounds.{cost_below}
use Rattle.fab_cost.proofs.Kept.{kept_swapped, stands_by}
use Rattle.fab_cost.proofs.Standing.{block_in_table, other_in_table, parts_but_cost}
use Rattle.fab_cost.proofs.edge_boxes.EdgeBoxes.renew.Goals as goal

pub renew_large-tally-requires-clause-have : goal.renew_large-tally-requires-clause-have
renew_large-tally-requires-clause-have c =
    let low = cost_below c.args.design.now c.args.grid.now c.args.placement.now.sites c.blocks-blocks.ensures.lawful (omega arith, omega arith) (omega arith, omega arith) in
    (parts_but_cost c.self.view_is c.requires.stands low c.self.invariant).have

pub renew_lanes-requires-clause-block : goal.renew_lanes-requires-clause-block
renew_lanes-requires-clause-block c =
    let low = cost_below c.args.design.now c.args.grid.now c.args.placement.now.sites c.blocks-blocks.ensures.lawful (omega arith, omega arith) (omega arith, omega arith) in
    block_in_table c.requires.lawful c.requires.stands.whole (parts_but_cost c.self.view_is c.requires.stands low c.self.invariant).table_is

pub renew_lanes-requires-clause-other : goal.renew_lanes-requires-clause-other
renew_lanes-requires-clause-other c = λ b is.
    let low = cost_below c.args.design.now c.args.grid.now c.args.placement.now.sites c.blocks-blocks.ensures.lawful (omega arith, omega arith) (omega arith, omega arith) in
    other_in_table c.requires.lawful is c.requires.stands.whole (parts_but_cost c.self.view_is c.requires.stands low c.self.invariant).table_is

pub invariant_of-self : goal.invariant_of-self
invariant_of-self c =
    let d = c.args.design.now in
    let g = c.args.grid.now in
    let sites = c.args.placement.now.sites in
    let s = c.args.swap.now in
    let e = c.renew_lanes.ensures.table (positions_in c.self.inside.lanes.items) c.self.invariant.vectors in
    let low = cost_below d g sites c.blocks-blocks.ensures.lawful (omega arith, omega arith) (omega arith, omega arith) in
    let long = c.renew_large-tally.ensures.have.long ∙ sym (parts_but_cost c.self.view_is c.requires.stands low c.self.invariant).have.long in
    kept_swapped c.self.inside.lanes.items c.renew_lanes.new.lanes.items g s (arc_value c.self.inside.runs) c.self.inside.large.boxes.items c.renew_large-tally.new.large.boxes.items c.self.inside.large.most.items c.renew_large-tally.new.large.most.items c.self.inside.total c.self.inside.total c.self.invariant e long
    c.renew_large-tally.ensures.most
    c.self.invariant.below

pub returns : goal.returns
returns c =
    let d = c.args.design.now in
    let g = c.args.grid.now in
    let sites = c.args.placement.now.sites in
    let s = c.args.swap.now in
    let low = cost_below d g sites c.blocks-blocks.ensures.lawful (omega arith, omega arith) (omega arith, omega arith) in
    let parts = parts_but_cost c.self.view_is c.requires.stands low c.self.invariant in
    stands_by d g (swapped sites s) c.renew_lanes.new.lanes.items (arc_value c.self.inside.runs) c.renew_large-tally.new.large.boxes.items (cost_of d g (swapped sites s)) c.blocks-blocks.ensures.lawful (c.requires.stands.whole ∙ sym (length-swapped sites s)) (c.renew_lanes.ensures.swapped sites c.requires.lawful parts.table_is)
    parts.nets c.renew_large-tally.ensures.have refl
