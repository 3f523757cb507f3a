use Rattle.std.proofs.Common.{◌≡◌, ◌<◌, length, get_or, refl, subst, ap, ◌∙◌}
use Rattle.fab_net.specs.Netlist.{nets_of}
use Rattle.fab_site.specs.Placement.{swapped}
use Rattle.fab_cost.specs.Changes.{IsChange}
use Rattle.fab_cost.specs.Swapping.{cost_unless, counted_at}
use Rattle.fab_cost.specs.Runs.{edge_lanes, large_of}
use Rattle.fab_cost.proofs.Large.{row_counts, row_long, row_net, row_within}
use Rattle.fab_cost.proofs.Passing.{exact_change, net_passed}
use Rattle.fab_cost.proofs.large_nets.renew_net.Goals as goal

pub net_of-net-requires-clause-within : goal.net_of-net-requires-clause-within
net_of-net-requires-clause-within c = row_within c.args.view.now.design.now c.args.part.block.0 c.args.row.now c.args.k _ 0 c.requires.large c.requires.within refl

pub returns-then-surrounds : goal.returns-then-surrounds
returns-then-surrounds c =
    let d = c.args.view.now.design.now in
    let g = c.args.view.now.grid.now in
    let sites = c.args.view.now.placement.now.sites in
    let b = c.args.part.block.0 in
    let n = c.net_of-net.result.0 in
    let boxes = c.args.large.now.boxes.items in
    let at : n ≡ get_or (nets_of (large_of d) b) c.args.k 0 = c.net_of-net.ensures.number ∙ row_net d b c.args.row.now c.args.k _ 0 c.requires.large c.requires.within refl in
    let within : c.args.k < length (nets_of (large_of d) b) = subst (λ v. c.args.k < v) (row_long d b c.args.row.now c.requires.large) c.requires.within in
    let counts = row_counts d b c.args.row.now c.args.k _ 0 n c.requires.large c.requires.within refl c.net_of-net.ensures.number in
    let around = c.if-surrounds.ensures g (counted_at boxes n) c.args.view.now.swap.now (c.edge_lanes_of.ensures ∙ ap edge_lanes c.kept.ensures) c.requires.view.reach refl in
    let p = net_passed boxes (large_of d) g sites c.args.view.now.swap.now b c.args.part.but c.args.k n c.requires.view.lawful c.requires.left counts within at around in
    record {
      boxes = p.0;
      most = refl;
      change = subst (λ v. IsChange (cost_unless (large_of d) g sites c.args.part.but v) (cost_unless (large_of d) g (swapped sites c.args.view.now.swap.now) c.args.part.but v) 0 0) at p.1;
    }

pub returns-else-surrounds : goal.returns-else-surrounds
returns-else-surrounds c = record {
  boxes = c.renew_kept.ensures.boxes;
  most = c.renew_kept.ensures.most;
  change = exact_change _ _ c.renew_kept.result.gained c.renew_kept.result.lost c.renew_kept.ensures.gained c.renew_kept.ensures.lost;
}
