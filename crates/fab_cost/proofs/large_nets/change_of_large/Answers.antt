use Rattle.std.proofs.Common.{None, Some, refl, arith}
use Rattle.fab_site.specs.Placement.{swapped}
use Rattle.fab_cost.specs.Runs.{large_of}
use Rattle.fab_cost.proofs.Changes.{gained_low, lost_low, whole_none, whole_some}
use Rattle.fab_cost.proofs.Large.{lawful_large}
use Rattle.fab_cost.proofs.Sited.{other_below}
use Rattle.fab_cost.proofs.large_nets.change_of_large.Goals as goal

pub change_of_larges-second-requires-clause-part : goal.change_of_larges-second-requires-clause-part
change_of_larges-second-requires-clause-part c = record { part = (refl, c.in-Some.is); block = other_below c.args.view.now.grid.now c.args.view.now.placement.now.sites c.args.view.now.swap.now c.in-Some.other _ c.requires.view.lawful c.in-Some.is c.requires.view.whole }

pub plus-requires-clause-gained : goal.plus-requires-clause-gained
plus-requires-clause-gained c =
    let d = large_of c.args.view.now.design.now in
    let g = c.args.view.now.grid.now in
    let sites = c.args.view.now.placement.now.sites in
    let s = c.args.view.now.swap.now in
    let a = gained_low d g sites (swapped sites s) None s.block.0 c.change_of_larges-first.result.gained c.change_of_larges-first.result.lost (lawful_large c.args.view.now.design.now c.nets-nets.ensures.lawful) (omega arith, omega arith) (omega arith, omega arith) c.change_of_larges-first.ensures in
    let b = gained_low d g sites (swapped sites s) (Some s.block) c.in-Some.other.0 c.change_of_larges-second.result.gained c.change_of_larges-second.result.lost (lawful_large c.args.view.now.design.now c.nets-nets.ensures.lawful) (omega arith, omega arith) (omega arith, omega arith) c.change_of_larges-second.ensures in
    omega arith

pub plus-requires-clause-lost : goal.plus-requires-clause-lost
plus-requires-clause-lost c =
    let d = large_of c.args.view.now.design.now in
    let g = c.args.view.now.grid.now in
    let sites = c.args.view.now.placement.now.sites in
    let s = c.args.view.now.swap.now in
    let a = lost_low d g sites (swapped sites s) None s.block.0 c.change_of_larges-first.result.gained c.change_of_larges-first.result.lost (lawful_large c.args.view.now.design.now c.nets-nets.ensures.lawful) (omega arith, omega arith) (omega arith, omega arith) c.change_of_larges-first.ensures in
    let b = lost_low d g sites (swapped sites s) (Some s.block) c.in-Some.other.0 c.change_of_larges-second.result.gained c.change_of_larges-second.result.lost (lawful_large c.args.view.now.design.now c.nets-nets.ensures.lawful) (omega arith, omega arith) (omega arith, omega arith) c.change_of_larges-second.ensures in
    omega arith

pub returns-in-None-clause-balance : goal.returns-in-None-clause-balance
returns-in-None-clause-balance c = whole_none (large_of c.args.view.now.design.now) c.args.view.now.grid.now c.args.view.now.placement.now.sites c.args.view.now.swap.now _ _ c.in-None.is c.change_of_larges-first.ensures

pub returns-in-None-clause-gained : goal.returns-in-None-clause-gained
returns-in-None-clause-gained c =
    let d = large_of c.args.view.now.design.now in
    let g = c.args.view.now.grid.now in
    let sites = c.args.view.now.placement.now.sites in
    let s = c.args.view.now.swap.now in
    let a = gained_low d g sites (swapped sites s) None s.block.0 c.change_of_larges-first.result.gained c.change_of_larges-first.result.lost (lawful_large c.args.view.now.design.now c.nets-nets.ensures.lawful) (omega arith, omega arith) (omega arith, omega arith) c.change_of_larges-first.ensures in
    omega arith

pub returns-in-None-clause-lost : goal.returns-in-None-clause-lost
returns-in-None-clause-lost c =
    let d = large_of c.args.view.now.design.now in
    let g = c.args.view.now.grid.now in
    let sites = c.args.view.now.placement.now.sites in
    let s = c.args.view.now.swap.now in
    let a = lost_low d g sites (swapped sites s) None s.block.0 c.change_of_larges-first.result.gained c.change_of_larges-first.result.lost (lawful_large c.args.view.now.design.now c.nets-nets.ensures.lawful) (omega arith, omega arith) (omega arith, omega arith) c.change_of_larges-first.ensures in
    omega arith

pub returns-in-Some-clause-balance : goal.returns-in-Some-clause-balance
returns-in-Some-clause-balance c =
    let b = whole_some (large_of c.args.view.now.design.now) c.args.view.now.grid.now c.args.view.now.placement.now.sites c.args.view.now.swap.now c.in-Some.other _ _ _ _ c.in-Some.is c.change_of_larges-first.ensures c.change_of_larges-second.ensures in
    omega (arith, b, c.plus.ensures.gained, c.plus.ensures.lost)

pub returns-in-Some-clause-gained : goal.returns-in-Some-clause-gained
returns-in-Some-clause-gained c =
    let d = large_of c.args.view.now.design.now in
    let g = c.args.view.now.grid.now in
    let sites = c.args.view.now.placement.now.sites in
    let s = c.args.view.now.swap.now in
    let a = gained_low d g sites (swapped sites s) None s.block.0 c.change_of_larges-first.result.gained c.change_of_larges-first.result.lost (lawful_large c.args.view.now.design.now c.nets-nets.ensures.lawful) (omega arith, omega arith) (omega arith, omega arith) c.change_of_larges-first.ensures in
    let b = gained_low d g sites (swapped sites s) (Some s.block) c.in-Some.other.0 c.change_of_larges-second.result.gained c.change_of_larges-second.result.lost (lawful_large c.args.view.now.design.now c.nets-nets.ensures.lawful) (omega arith, omega arith) (omega arith, omega arith) c.change_of_larges-second.ensures in
    omega (arith, a, b, c.plus.ensures.gained)

pub returns-in-Some-clause-lost : goal.returns-in-Some-clause-lost
returns-in-Some-clause-lost c =
    let d = large_of c.args.view.now.design.now in
    let g = c.args.view.now.grid.now in
    let sites = c.args.view.now.placement.now.sites in
    let s = c.args.view.now.swap.now in
    let a = lost_low d g sites (swapped sites s) None s.block.0 c.change_of_larges-first.result.gained c.change_of_larges-first.result.lost (lawful_large c.args.view.now.design.now c.nets-nets.ensures.lawful) (omega arith, omega arith) (omega arith, omega arith) c.change_of_larges-first.ensures in
    let b = lost_low d g sites (swapped sites s) (Some s.block) c.in-Some.other.0 c.change_of_larges-second.result.gained c.change_of_larges-second.result.lost (lawful_large c.args.view.now.design.now c.nets-nets.ensures.lawful) (omega arith, omega arith) (omega arith, omega arith) c.change_of_larges-second.ensures in
    omega (arith, a, b, c.plus.ensures.lost)
