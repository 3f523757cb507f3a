use Rattle.std.proofs.Common.{List, ◌≡◌, ◌≤◌, arith, length, set, length-set, ◌∙◌, sym}
use Rattle.fab_arch.specs.declared.array.Site.{Site}
use Rattle.fab_net.specs.Netlist.{Netlist, IsLawful}
use Rattle.fab_cost.proofs.Sited.{other_below}
use Rattle.fab_cost.proofs.Steps.{few_none, few_some, seen_moved, seen_plain}
use Rattle.fab_cost.proofs.small_nets.change_of_small.Goals as goal

few : (d : Netlist) (sites : List Site) → IsLawful d → length d.kinds ≡ length sites → length sites ≤ 65536
few d sites is whole = let k = is.few_blocks in omega (arith, k, whole)

pub change_of_step-requires-clause-block : goal.change_of_step-requires-clause-block
change_of_step-requires-clause-block c = other_below c.args.grid.now c.args.placement.now.sites c.args.swap.now c.in-Some.other _ c.requires.lawful c.in-Some.is c.requires.whole

pub returns-in-None-clause-balance : goal.returns-in-None-clause-balance
returns-in-None-clause-balance c =
    let g = c.args.grid.now in
    let sites = c.args.placement.now.sites in
    few_none c.args.design.now g g sites c.args.swap.now c.change_of_step-first.result.gained c.change_of_step-first.result.lost c.requires.lawful c.in-None.is
    (c.change_of_step-first.ensures.step sites c.requires.whole (seen_plain g sites c.args.lanes.now _ _ (few c.args.design.now sites c.blocks-blocks.ensures.lawful c.requires.whole) c.nowhere.ensures c.requires.table))

pub returns-in-Some-clause-balance : goal.returns-in-Some-clause-balance
returns-in-Some-clause-balance c =
    let g = c.args.grid.now in
    let s = c.args.swap.now in
    let sites = c.args.placement.now.sites in
    let first = c.change_of_step-first.ensures.step sites c.requires.whole (seen_plain g sites c.args.lanes.now _ _ (few c.args.design.now sites c.blocks-blocks.ensures.lawful c.requires.whole) c.nowhere.ensures c.requires.table) in
    let second = c.change_of_step.ensures.step (set sites s.block.0 s.to) (c.requires.whole ∙ sym (length-set sites s.block.0 s.to)) (seen_moved g g sites s c.args.lanes.now c.lanes_of.result c.requires.lawful c.lanes_of.ensures c.requires.table) in
    let a = few_some c.args.design.now g g sites s c.in-Some.other c.change_of_step-first.result.gained c.change_of_step-first.result.lost c.change_of_step.result.gained c.change_of_step.result.lost c.requires.lawful c.in-Some.is first second in
    omega (arith, a, c.plus.ensures.gained, c.plus.ensures.lost)
