use Rattle.std.proofs.Common.{◌≡◌, pos, ◌+ℤ◌, ◌-ℤ◌, to_z, of_z, w64, rules, sym, ◌∙◌}
use Rattle.fab_cost.specs.Swapping.{change}
use Rattle.fab_cost.specs.Runs.{few_of, large_of}
use Rattle.fab_cost.proofs.Few.{change_split, few_change_is}
use Rattle.fab_cost.proofs.edge_boxes.EdgeBoxes.delta_parts.Goals as goal

pub returns-clause-few : goal.returns-clause-few
returns-clause-few c =
    let d = c.args.design.now in
    let g = c.args.grid.now in
    let sites = c.args.placement.now.sites in
    let s = c.args.swap.now in
    let k : pos c.change_of_small-small.result.gained -ℤ pos c.change_of_small-small.result.lost ≡ change (few_of d) g sites s = few_change_is d g sites s c.change_of_small-small.result.gained c.change_of_small-small.result.lost c.change_of_small-small.ensures.balance in
    search rules

pub returns-clause-whole : goal.returns-clause-whole
returns-clause-whole c =
    let d = c.args.design.now in
    let g = c.args.grid.now in
    let sites = c.args.placement.now.sites in
    let s = c.args.swap.now in
    let few : to_z w64 (of_z w64 (to_z w64 c.change_of_small-small.result.gained -ℤ to_z w64 c.change_of_small-small.result.lost)) ≡ change (few_of d) g sites s =
    (let k : pos c.change_of_small-small.result.gained -ℤ pos c.change_of_small-small.result.lost ≡ change (few_of d) g sites s = few_change_is d g sites s c.change_of_small-small.result.gained c.change_of_small-small.result.lost c.change_of_small-small.ensures.balance in search rules) in
    let large : to_z w64 (of_z w64 c.delta_of_large.result) ≡ change (large_of d) g sites s = (let k = c.delta_of_large.ensures.change in search rules) in
    (λ i. few i +ℤ large i) ∙ sym (change_split d g sites s)
