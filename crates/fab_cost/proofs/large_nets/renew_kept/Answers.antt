use Rattle.std.proofs.Common.{◌≡◌, ◌<◌, length, get_or, refl, sym, subst, ap, ◌∙◌}
use Rattle.fab_net.specs.Netlist.{nets_of}
use Rattle.fab_site.specs.Placement.{swapped}
use Rattle.fab_cost.specs.Edges.{times}
use Rattle.fab_cost.specs.Runs.{large_of}
use Rattle.fab_cost.specs.Swapping.{blocks_of, cost_unless, times_other}
use Rattle.fab_cost.proofs.Large.{box_large, row_counts, row_long, row_net, row_within, unless_large}
use Rattle.fab_cost.proofs.Nets.{unless_on, unless_off}
use Rattle.fab_cost.proofs.Renewals.{old_here, next_on, next_off}
use Rattle.fab_cost.proofs.PinCounts.{partner_below}
use Rattle.fab_cost.proofs.large_nets.renew_kept.Goals as goal

pub net_of-net-requires-clause-within : goal.net_of-net-requires-clause-within
net_of-net-requires-clause-within c = row_within c.args.view.now.design.now c.args.part.block.0 c.args.row.now c.args.k _ 0 c.requires.large c.requires.within refl

pub partner_pins-beside-requires-clause-beside : goal.partner_pins-beside-requires-clause-beside
partner_pins-beside-requires-clause-beside c b e =
    partner_below c.args.view.now.grid.now c.args.view.now.placement.now.sites c.args.view.now.swap.now c.args.part.block b c.args.part.but _ c.requires.view.lawful c.requires.part.part e c.requires.view.whole

pub returns-then-is_left_out-clause-boxes : goal.returns-then-is_left_out-clause-boxes
returns-then-is_left_out-clause-boxes c =
    let d = c.args.view.now.design.now in
    let g = c.args.view.now.grid.now in
    let sites = c.args.view.now.placement.now.sites in
    let after = swapped sites c.args.view.now.swap.now in
    let b = c.args.part.block.0 in
    let n = c.net_of-net.result.0 in
    let shares = (c.shares_with-shares.ensures (blocks_of d (get_or (nets_of d b) (get_or c.args.row.now c.args.k 0) 0)) c.own_pins-own.ensures c.partner_pins-beside.ensures) in
    let mine = shares.0 ∙ ap (λ v. times c.args.view.now.swap.now.block.0 (blocks_of d v)) (sym c.net_of-net.ensures.number) in
    let is = c.is_left_out.ensures c.args.view.now.swap.now c.args.part.block (blocks_of d n) c.requires.part.part mine in
    let at : n ≡ get_or (nets_of (large_of d) b) c.args.k 0 = c.net_of-net.ensures.number ∙ row_net d b c.args.row.now c.args.k _ 0 c.requires.large c.requires.within refl in
    let within : c.args.k < length (nets_of (large_of d) b) = subst (λ v. c.args.k < v) (row_long d b c.args.row.now c.requires.large) c.requires.within in
    next_on c.args.large.now.boxes.items (large_of d) g sites after b c.args.part.but c.args.k n c.is_left_out.result c.requires.left within at is c.if-is_left_out.true

pub returns-then-is_left_out-clause-gained : goal.returns-then-is_left_out-clause-gained
returns-then-is_left_out-clause-gained c =
    let d = c.args.view.now.design.now in
    let g = c.args.view.now.grid.now in
    let sites = c.args.view.now.placement.now.sites in
    let after = swapped sites c.args.view.now.swap.now in
    let b = c.args.part.block.0 in
    let n = c.net_of-net.result.0 in
    let shares = (c.shares_with-shares.ensures (blocks_of d (get_or (nets_of d b) (get_or c.args.row.now c.args.k 0) 0)) c.own_pins-own.ensures c.partner_pins-beside.ensures) in
    let mine = shares.0 ∙ ap (λ v. times c.args.view.now.swap.now.block.0 (blocks_of d v)) (sym c.net_of-net.ensures.number) in
    let is = c.is_left_out.ensures c.args.view.now.swap.now c.args.part.block (blocks_of d n) c.requires.part.part mine in
    let at : n ≡ get_or (nets_of (large_of d) b) c.args.k 0 = c.net_of-net.ensures.number ∙ row_net d b c.args.row.now c.args.k _ 0 c.requires.large c.requires.within refl in
    unless_on (large_of d) g after c.args.part.but n c.is_left_out.result is c.if-is_left_out.true ∙ ap (cost_unless (large_of d) g after c.args.part.but) at

pub returns-then-is_left_out-clause-lost : goal.returns-then-is_left_out-clause-lost
returns-then-is_left_out-clause-lost c =
    let d = c.args.view.now.design.now in
    let g = c.args.view.now.grid.now in
    let sites = c.args.view.now.placement.now.sites in
    let b = c.args.part.block.0 in
    let n = c.net_of-net.result.0 in
    let shares = (c.shares_with-shares.ensures (blocks_of d (get_or (nets_of d b) (get_or c.args.row.now c.args.k 0) 0)) c.own_pins-own.ensures c.partner_pins-beside.ensures) in
    let mine = shares.0 ∙ ap (λ v. times c.args.view.now.swap.now.block.0 (blocks_of d v)) (sym c.net_of-net.ensures.number) in
    let is = c.is_left_out.ensures c.args.view.now.swap.now c.args.part.block (blocks_of d n) c.requires.part.part mine in
    let at : n ≡ get_or (nets_of (large_of d) b) c.args.k 0 = c.net_of-net.ensures.number ∙ row_net d b c.args.row.now c.args.k _ 0 c.requires.large c.requires.within refl in
    unless_on (large_of d) g sites c.args.part.but n c.is_left_out.result is c.if-is_left_out.true ∙ ap (cost_unless (large_of d) g sites c.args.part.but) at

pub renewed-new-requires-clause-mine : goal.renewed-new-requires-clause-mine
renewed-new-requires-clause-mine c =
    let d = c.args.view.now.design.now in
    let b = c.args.part.block.0 in
    let shares = (c.shares_with-shares.ensures (blocks_of d (get_or (nets_of d b) (get_or c.args.row.now c.args.k 0) 0)) c.own_pins-own.ensures c.partner_pins-beside.ensures) in
    let mine = shares.0 ∙ ap (λ v. times c.args.view.now.swap.now.block.0 (blocks_of d v)) (sym c.net_of-net.ensures.number) in
    mine

pub renewed-new-requires-clause-others : goal.renewed-new-requires-clause-others
renewed-new-requires-clause-others c =
    let d = c.args.view.now.design.now in
    let b = c.args.part.block.0 in
    let shares = (c.shares_with-shares.ensures (blocks_of d (get_or (nets_of d b) (get_or c.args.row.now c.args.k 0) 0)) c.own_pins-own.ensures c.partner_pins-beside.ensures) in
    shares.1 ∙ ap (λ v. times_other c.args.view.now.swap.now.other (blocks_of d v)) (sym c.net_of-net.ensures.number)

pub renewed-new-requires-clause-old : goal.renewed-new-requires-clause-old
renewed-new-requires-clause-old c =
    let d = c.args.view.now.design.now in
    let g = c.args.view.now.grid.now in
    let sites = c.args.view.now.placement.now.sites in
    let after = swapped sites c.args.view.now.swap.now in
    let b = c.args.part.block.0 in
    let n = c.net_of-net.result.0 in
    let shares = (c.shares_with-shares.ensures (blocks_of d (get_or (nets_of d b) (get_or c.args.row.now c.args.k 0) 0)) c.own_pins-own.ensures c.partner_pins-beside.ensures) in
    let mine = shares.0 ∙ ap (λ v. times c.args.view.now.swap.now.block.0 (blocks_of d v)) (sym c.net_of-net.ensures.number) in
    let is = c.is_left_out.ensures c.args.view.now.swap.now c.args.part.block (blocks_of d n) c.requires.part.part mine in
    let at : n ≡ get_or (nets_of (large_of d) b) c.args.k 0 = c.net_of-net.ensures.number ∙ row_net d b c.args.row.now c.args.k _ 0 c.requires.large c.requires.within refl in
    let within : c.args.k < length (nets_of (large_of d) b) = subst (λ v. c.args.k < v) (row_long d b c.args.row.now c.requires.large) c.requires.within in
    let counts = row_counts d b c.args.row.now c.args.k _ 0 n c.requires.large c.requires.within refl c.net_of-net.ensures.number in
    let old = old_here c.args.large.now.boxes.items (large_of d) g sites after b c.args.part.but c.args.k n c.is_left_out.result c.kept-old.result c.requires.left counts within at is c.if-is_left_out.false c.kept-old.ensures ∙ box_large d g sites n in
    old

pub returns-clause-boxes : goal.returns-clause-boxes
returns-clause-boxes c =
    let d = c.args.view.now.design.now in
    let g = c.args.view.now.grid.now in
    let sites = c.args.view.now.placement.now.sites in
    let after = swapped sites c.args.view.now.swap.now in
    let b = c.args.part.block.0 in
    let n = c.net_of-net.result.0 in
    let at : n ≡ get_or (nets_of (large_of d) b) c.args.k 0 = c.net_of-net.ensures.number ∙ row_net d b c.args.row.now c.args.k _ 0 c.requires.large c.requires.within refl in
    let within : c.args.k < length (nets_of (large_of d) b) = subst (λ v. c.args.k < v) (row_long d b c.args.row.now c.requires.large) c.requires.within in
    let counts = row_counts d b c.args.row.now c.args.k _ 0 n c.requires.large c.requires.within refl c.net_of-net.ensures.number in
    next_off c.args.large.now.boxes.items _ (large_of d) g sites after b c.args.part.but c.args.k n c.renewed-new.result c.requires.left counts within at (c.renewed-new.ensures ∙ sym (box_large d g after n)) c.set.ensures.boxes

pub returns-clause-gained : goal.returns-clause-gained
returns-clause-gained c =
    let d = c.args.view.now.design.now in
    let g = c.args.view.now.grid.now in
    let sites = c.args.view.now.placement.now.sites in
    let after = swapped sites c.args.view.now.swap.now in
    let b = c.args.part.block.0 in
    let n = c.net_of-net.result.0 in
    let shares = (c.shares_with-shares.ensures (blocks_of d (get_or (nets_of d b) (get_or c.args.row.now c.args.k 0) 0)) c.own_pins-own.ensures c.partner_pins-beside.ensures) in
    let mine = shares.0 ∙ ap (λ v. times c.args.view.now.swap.now.block.0 (blocks_of d v)) (sym c.net_of-net.ensures.number) in
    let is = c.is_left_out.ensures c.args.view.now.swap.now c.args.part.block (blocks_of d n) c.requires.part.part mine in
    let at : n ≡ get_or (nets_of (large_of d) b) c.args.k 0 = c.net_of-net.ensures.number ∙ row_net d b c.args.row.now c.args.k _ 0 c.requires.large c.requires.within refl in
    unless_off d g after c.args.part.but n c.is_left_out.result c.tally_between.result.gained is c.if-is_left_out.false (c.tally_between.ensures.gained g after c.renewed-new.ensures) ∙ sym (unless_large d g after c.args.part.but n) ∙ ap (cost_unless (large_of d) g after c.args.part.but) at

pub returns-clause-lost : goal.returns-clause-lost
returns-clause-lost c =
    let d = c.args.view.now.design.now in
    let g = c.args.view.now.grid.now in
    let sites = c.args.view.now.placement.now.sites in
    let after = swapped sites c.args.view.now.swap.now in
    let b = c.args.part.block.0 in
    let n = c.net_of-net.result.0 in
    let shares = (c.shares_with-shares.ensures (blocks_of d (get_or (nets_of d b) (get_or c.args.row.now c.args.k 0) 0)) c.own_pins-own.ensures c.partner_pins-beside.ensures) in
    let mine = shares.0 ∙ ap (λ v. times c.args.view.now.swap.now.block.0 (blocks_of d v)) (sym c.net_of-net.ensures.number) in
    let is = c.is_left_out.ensures c.args.view.now.swap.now c.args.part.block (blocks_of d n) c.requires.part.part mine in
    let at : n ≡ get_or (nets_of (large_of d) b) c.args.k 0 = c.net_of-net.ensures.number ∙ row_net d b c.args.row.now c.args.k _ 0 c.requires.large c.requires.within refl in
    let within : c.args.k < length (nets_of (large_of d) b) = subst (λ v. c.args.k < v) (row_long d b c.args.row.now c.requires.large) c.requires.within in
    let counts = row_counts d b c.args.row.now c.args.k _ 0 n c.requires.large c.requires.within refl c.net_of-net.ensures.number in
    let old = old_here c.args.large.now.boxes.items (large_of d) g sites after b c.args.part.but c.args.k n c.is_left_out.result c.kept-old.result c.requires.left counts within at is c.if-is_left_out.false c.kept-old.ensures ∙ box_large d g sites n in
    unless_off d g sites c.args.part.but n c.is_left_out.result c.tally_between.result.lost is c.if-is_left_out.false (c.tally_between.ensures.lost g sites old) ∙ sym (unless_large d g sites c.args.part.but n) ∙ ap (cost_unless (large_of d) g sites c.args.part.but) at
