use Rattle.std.proofs.Common.{get_or, refl, ap, ◌∙◌}
use Rattle.fab_net.specs.Netlist.{nets_of}
use Rattle.fab_site.specs.Placement.{swapped}
use Rattle.fab_cost.specs.Edges.{counted_box}
use Rattle.fab_cost.specs.Swapping.{counted_at}
use Rattle.fab_cost.specs.Runs.{large_of}
use Rattle.fab_cost.proofs.Held.{held}
use Rattle.fab_cost.proofs.Large.{change_large, kept_is, row_counts, row_net}
use Rattle.fab_cost.proofs.Most.{most_on}
use Rattle.fab_cost.proofs.large_nets.change_of_kept.Goals as goal

pub change_of_large_net-requires-clause-old : goal.change_of_large_net-requires-clause-old
change_of_large_net-requires-clause-old c =
    let d = c.args.view.now.design.now in
    let g = c.args.view.now.grid.now in
    let sites = c.args.view.now.placement.now.sites in
    let n = c.net_of-net.result.0 in
    let counts = row_counts d c.args.part.block.0 c.args.row.now c.args.k _ 0 n c.requires.large c.requires.within refl c.net_of-net.ensures.number in
    kept_is c.args.large.now.boxes.items d g sites n c.kept-old.result c.requires.have counts c.kept-old.ensures ∙ ap (counted_box d g sites) c.net_of-net.ensures.number

pub returns-then-holds : goal.returns-then-holds
returns-then-holds c =
    let d = c.args.view.now.design.now in
    let g = c.args.view.now.grid.now in
    let sites = c.args.view.now.placement.now.sites in
    let b = c.args.part.block.0 in
    let n = c.net_of-net.result.0 in
    let most = get_or c.args.large.now.most.items n 0 in
    let kept = counted_at c.args.large.now.boxes.items n in
    let counts = row_counts d b c.args.row.now c.args.k _ 0 n c.requires.large c.requires.within refl c.net_of-net.ensures.number in
    let old = kept_is c.args.large.now.boxes.items d g sites n kept c.requires.have counts refl in
    change_large d g sites (swapped sites c.args.view.now.swap.now) c.args.part.but n (get_or (nets_of (large_of d) b) c.args.k 0) 0 0 (c.net_of-net.ensures.number ∙ row_net d b c.args.row.now c.args.k _ 0 c.requires.large c.requires.within refl)
    (held most d g g sites c.args.view.now.swap.now c.args.part.but n kept c.requires.view.lawful (c.if-holds.ensures most g kept c.args.view.now.swap.now c.inner_of.ensures c.requires.view.reach refl) (most_on d n c.args.large.now.most.items c.net_of-net.ensures.counts c.requires.most) old)

pub returns-else-holds : goal.returns-else-holds
returns-else-holds c =
    let d = c.args.view.now.design.now in
    let g = c.args.view.now.grid.now in
    let sites = c.args.view.now.placement.now.sites in
    let b = c.args.part.block.0 in
    change_large d g sites (swapped sites c.args.view.now.swap.now) c.args.part.but _ (get_or (nets_of (large_of d) b) c.args.k 0) c.change_of_large_net.result.gained c.change_of_large_net.result.lost (row_net d b c.args.row.now c.args.k _ 0 c.requires.large c.requires.within refl)
    c.change_of_large_net.ensures
