use Rattle.std.proofs.Common.{◌≡◌, pos, ◌-ℤ◌, rules, subst, arith}
use Rattle.fab_site.specs.Placement.{swapped}
use Rattle.fab_cost.specs.Swapping.{change}
use Rattle.fab_cost.specs.Runs.{AreMost, large_of}
use Rattle.fab_cost.proofs.Standing.{parts_stand}
use Rattle.fab_cost.proofs.Split.{change_is}
use Rattle.fab_cost.proofs.edge_boxes.EdgeBoxes.delta_of_large.Goals as goal

pub change_of_large-tally-requires-clause-have : goal.change_of_large-tally-requires-clause-have
change_of_large-tally-requires-clause-have c = (parts_stand c.self.view_is c.requires.stands c.self.invariant).have

pub change_of_large-tally-requires-clause-most : goal.change_of_large-tally-requires-clause-most
change_of_large-tally-requires-clause-most c = subst (AreMost c.self.inside.large.most.items) (parts_stand c.self.view_is c.requires.stands c.self.invariant).nets c.self.invariant.bounds

pub returns-clause-change : goal.returns-clause-change
returns-clause-change c =
    let d = c.args.design.now in
    let g = c.args.grid.now in
    let sites = c.args.placement.now.sites in
    let s = c.args.swap.now in
    let k : pos c.change_of_large-tally.result.gained -ℤ pos c.change_of_large-tally.result.lost ≡ change (large_of d) g sites s = change_is (large_of d) g sites s c.change_of_large-tally.result.gained c.change_of_large-tally.result.lost c.change_of_large-tally.ensures.balance in
    search rules
