use Rattle.std.proofs.Common.{get_or, sym, ap, ◌∙◌, subst}
use Rattle.fab_net.specs.Netlist.{nets_of}
use Rattle.fab_site.specs.Placement.{swapped}
use Rattle.fab_cost.specs.Cost.{net_cost}
use Rattle.fab_cost.specs.Boxes.{Counts}
use Rattle.fab_cost.specs.Edges.{counted_box, times}
use Rattle.fab_cost.specs.Swapping.{blocks_of, times_other}
use Rattle.fab_cost.proofs.Changes.{left_out, still, changed}
use Rattle.fab_cost.proofs.PinCounts.{partner_below}
use Rattle.fab_cost.proofs.large_change.change_of_large_net.Goals as goal

pub partner_pins-beside-requires-clause-beside : goal.partner_pins-beside-requires-clause-beside
partner_pins-beside-requires-clause-beside c b e =
    partner_below c.args.view.now.grid.now c.args.view.now.placement.now.sites c.args.view.now.swap.now c.args.part.block b c.args.part.but _ c.requires.view.lawful c.requires.part.part e c.requires.view.whole

pub returns-then-is_left_out : goal.returns-then-is_left_out
returns-then-is_left_out c =
    let d = c.args.view.now.design.now in
    let n = get_or (nets_of d c.args.part.block.0) c.args.i 0 in
    left_out d c.args.view.now.grid.now c.args.view.now.placement.now.sites (swapped c.args.view.now.placement.now.sites c.args.view.now.swap.now) c.args.part.but n c.is_left_out.result (c.is_left_out.ensures c.args.view.now.swap.now c.args.part.block (blocks_of d n) c.requires.part.part (c.shares_with-shares.ensures (blocks_of d n) c.own_pins-own.ensures c.partner_pins-beside.ensures).0) c.if-is_left_out.true

pub returns : goal.returns
returns c =
    let d = c.args.view.now.design.now in
    let g = c.args.view.now.grid.now in
    let n = get_or (nets_of d c.args.part.block.0) c.args.i 0 in
    let sites = c.args.view.now.placement.now.sites in
    let after = swapped sites c.args.view.now.swap.now in
    let e = c.net_of-net.ensures.number in
    let old = c.requires.old ∙ ap (counted_box d g sites) (sym e) in
    changed d g sites after c.args.part.but n c.is_left_out.result c.tally_of_boxes.result.gained c.tally_of_boxes.result.lost
    (c.is_left_out.ensures c.args.view.now.swap.now c.args.part.block (blocks_of d n) c.requires.part.part (c.shares_with-shares.ensures (blocks_of d n) c.own_pins-own.ensures c.partner_pins-beside.ensures).0) c.if-is_left_out.false
    (c.tally_of_boxes.ensures.gained g after c.new_box-new.ensures ∙ ap (net_cost d g after) e)
    (c.tally_of_boxes.ensures.lost g sites old ∙ ap (net_cost d g sites) e)

pub new_box-new-requires-clause-mine : goal.new_box-new-requires-clause-mine
new_box-new-requires-clause-mine c =
    let d = c.args.view.now.design.now in
    let n = get_or (nets_of d c.args.part.block.0) c.args.i 0 in
    (c.shares_with-shares.ensures (blocks_of d n) c.own_pins-own.ensures c.partner_pins-beside.ensures).0 ∙ ap (λ v. times c.args.view.now.swap.now.block.0 (blocks_of d v)) (sym c.net_of-net.ensures.number)

pub new_box-new-requires-clause-others : goal.new_box-new-requires-clause-others
new_box-new-requires-clause-others c =
    let d = c.args.view.now.design.now in
    let n = get_or (nets_of d c.args.part.block.0) c.args.i 0 in
    (c.shares_with-shares.ensures (blocks_of d n) c.own_pins-own.ensures c.partner_pins-beside.ensures).1 ∙ ap (λ v. times_other c.args.view.now.swap.now.other (blocks_of d v)) (sym c.net_of-net.ensures.number)

pub returns-then-shares : goal.returns-then-shares
returns-then-shares c =
    let d = c.args.view.now.design.now in
    let n = get_or (nets_of d c.args.part.block.0) c.args.i 0 in
    let p = c.shares_with-shares.ensures (blocks_of d n) c.own_pins-own.ensures c.partner_pins-beside.ensures in
    let counts = subst (λ v. Counts d v) c.net_of-net.ensures.number c.net_of-net.ensures.counts in
    still d c.args.view.now.grid.now c.args.view.now.grid.now c.args.view.now.placement.now.sites c.args.view.now.swap.now c.args.part.but n c.shares_with-shares.result.mine c.shares_with-shares.result.others c.requires.view.lawful p.0 p.1 c.if-shares.true c.nets-nets.ensures.lawful counts
