use Rattle.std.proofs.Common.{None, Some, refl, arith}
use Rattle.fab_site.specs.Placement.{swapped}
use Rattle.fab_cost.specs.Runs.{large_of}
use Rattle.fab_cost.proofs.Changes.{gained_low, lost_low, whole_none, whole_some}
use Rattle.fab_cost.proofs.Large.{lawful_large}
use Rattle.fab_cost.proofs.Renewals.{one_done, both_done}
use Rattle.fab_cost.proofs.Sited.{other_below}
use Rattle.fab_cost.proofs.large_nets.renew_large.Goals as goal

pub renew_larges-second-requires-clause-part : goal.renew_larges-second-requires-clause-part
renew_larges-second-requires-clause-part c = record { part = (refl, c.in-Some.is); block = other_below c.args.grid.now c.args.placement.now.sites c.args.swap.now c.in-Some.other _ c.requires.lawful c.in-Some.is c.requires.whole }

pub plus-requires-clause-gained : goal.plus-requires-clause-gained
plus-requires-clause-gained c =
    let d = large_of c.args.design.now in
    let g = c.args.grid.now in
    let sites = c.args.placement.now.sites in
    let s = c.args.swap.now in
    let a = gained_low d g sites (swapped sites s) None s.block.0 c.renew_larges-first.result.gained c.renew_larges-first.result.lost (lawful_large c.args.design.now c.nets-nets.ensures.lawful) (omega arith, omega arith) (omega arith, omega arith) c.renew_larges-first.ensures.change in
    let b = gained_low d g sites (swapped sites s) (Some s.block) c.in-Some.other.0 c.renew_larges-second.result.gained c.renew_larges-second.result.lost (lawful_large c.args.design.now c.nets-nets.ensures.lawful) (omega arith, omega arith) (omega arith, omega arith) c.renew_larges-second.ensures.change in
    omega arith

pub plus-requires-clause-lost : goal.plus-requires-clause-lost
plus-requires-clause-lost c =
    let d = large_of c.args.design.now in
    let g = c.args.grid.now in
    let sites = c.args.placement.now.sites in
    let s = c.args.swap.now in
    let a = lost_low d g sites (swapped sites s) None s.block.0 c.renew_larges-first.result.gained c.renew_larges-first.result.lost (lawful_large c.args.design.now c.nets-nets.ensures.lawful) (omega arith, omega arith) (omega arith, omega arith) c.renew_larges-first.ensures.change in
    let b = lost_low d g sites (swapped sites s) (Some s.block) c.in-Some.other.0 c.renew_larges-second.result.gained c.renew_larges-second.result.lost (lawful_large c.args.design.now c.nets-nets.ensures.lawful) (omega arith, omega arith) (omega arith, omega arith) c.renew_larges-second.ensures.change in
    omega arith

pub returns-in-None-clause-balance : goal.returns-in-None-clause-balance
returns-in-None-clause-balance c = whole_none (large_of c.args.design.now) c.args.grid.now c.args.placement.now.sites c.args.swap.now _ _ c.in-None.is c.renew_larges-first.ensures.change

pub returns-in-None-clause-gained : goal.returns-in-None-clause-gained
returns-in-None-clause-gained c =
    let d = large_of c.args.design.now in
    let g = c.args.grid.now in
    let sites = c.args.placement.now.sites in
    let s = c.args.swap.now in
    let a = gained_low d g sites (swapped sites s) None s.block.0 c.renew_larges-first.result.gained c.renew_larges-first.result.lost (lawful_large c.args.design.now c.nets-nets.ensures.lawful) (omega arith, omega arith) (omega arith, omega arith) c.renew_larges-first.ensures.change in
    omega arith

pub returns-in-None-clause-lost : goal.returns-in-None-clause-lost
returns-in-None-clause-lost c =
    let d = large_of c.args.design.now in
    let g = c.args.grid.now in
    let sites = c.args.placement.now.sites in
    let s = c.args.swap.now in
    let a = lost_low d g sites (swapped sites s) None s.block.0 c.renew_larges-first.result.gained c.renew_larges-first.result.lost (lawful_large c.args.design.now c.nets-nets.ensures.lawful) (omega arith, omega arith) (omega arith, omega arith) c.renew_larges-first.ensures.change in
    omega arith

pub returns-in-Some-clause-balance : goal.returns-in-Some-clause-balance
returns-in-Some-clause-balance c =
    let b = whole_some (large_of c.args.design.now) c.args.grid.now c.args.placement.now.sites c.args.swap.now c.in-Some.other _ _ _ _ c.in-Some.is c.renew_larges-first.ensures.change c.renew_larges-second.ensures.change in
    omega (arith, b, c.plus.ensures.gained, c.plus.ensures.lost)

pub returns-in-Some-clause-gained : goal.returns-in-Some-clause-gained
returns-in-Some-clause-gained c =
    let d = large_of c.args.design.now in
    let g = c.args.grid.now in
    let sites = c.args.placement.now.sites in
    let s = c.args.swap.now in
    let a = gained_low d g sites (swapped sites s) None s.block.0 c.renew_larges-first.result.gained c.renew_larges-first.result.lost (lawful_large c.args.design.now c.nets-nets.ensures.lawful) (omega arith, omega arith) (omega arith, omega arith) c.renew_larges-first.ensures.change in
    let b = gained_low d g sites (swapped sites s) (Some s.block) c.in-Some.other.0 c.renew_larges-second.result.gained c.renew_larges-second.result.lost (lawful_large c.args.design.now c.nets-nets.ensures.lawful) (omega arith, omega arith) (omega arith, omega arith) c.renew_larges-second.ensures.change in
    omega (arith, a, b, c.plus.ensures.gained)

pub returns-in-Some-clause-lost : goal.returns-in-Some-clause-lost
returns-in-Some-clause-lost c =
    let d = large_of c.args.design.now in
    let g = c.args.grid.now in
    let sites = c.args.placement.now.sites in
    let s = c.args.swap.now in
    let a = lost_low d g sites (swapped sites s) None s.block.0 c.renew_larges-first.result.gained c.renew_larges-first.result.lost (lawful_large c.args.design.now c.nets-nets.ensures.lawful) (omega arith, omega arith) (omega arith, omega arith) c.renew_larges-first.ensures.change in
    let b = lost_low d g sites (swapped sites s) (Some s.block) c.in-Some.other.0 c.renew_larges-second.result.gained c.renew_larges-second.result.lost (lawful_large c.args.design.now c.nets-nets.ensures.lawful) (omega arith, omega arith) (omega arith, omega arith) c.renew_larges-second.ensures.change in
    omega (arith, a, b, c.plus.ensures.lost)

pub returns-in-None-clause-have : goal.returns-in-None-clause-have
returns-in-None-clause-have c = one_done c.renew_larges-first.new.large.boxes.items (large_of c.args.design.now) c.args.grid.now c.args.placement.now.sites c.args.swap.now c.renew_larges-first.ensures.boxes c.in-None.is

pub returns-in-Some-clause-have : goal.returns-in-Some-clause-have
returns-in-Some-clause-have c = both_done c.renew_larges-second.new.large.boxes.items (large_of c.args.design.now) c.args.grid.now c.args.placement.now.sites c.args.swap.now c.in-Some.other c.renew_larges-second.ensures.boxes c.in-Some.is
