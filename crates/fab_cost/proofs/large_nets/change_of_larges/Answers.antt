use Rattle.std.proofs.Common.{◌<◌, length, sym, subst, arith}
use Rattle.fab_net.specs.Netlist.{nets_of}
use Rattle.fab_site.specs.Placement.{swapped}
use Rattle.fab_cost.specs.Runs.{AreLarge, large_of}
use Rattle.fab_cost.proofs.Changes.{all, gained_fits, lost_fits, more}
use Rattle.fab_cost.proofs.Large.{lawful_large, row_long}
use Rattle.fab_cost.proofs.large_nets.change_of_larges.Goals as goal

pub change_of_kept-one-requires-clause-large : goal.change_of_kept-one-requires-clause-large
change_of_kept-one-requires-clause-large c = subst (AreLarge c.args.view.now.design.now c.args.part.block.0) (sym c.large_row-row.ensures) (c.requires.records.large.each c.args.part.block.0 c.requires.part.block)

pub overflow_add-gained : goal.overflow_add-gained
overflow_add-gained c =
    let d = c.args.view.now.design.now in
    let b = c.args.part.block.0 in
    let sites = c.args.view.now.placement.now.sites in
    let row = subst (AreLarge d b) (sym c.large_row-row.ensures) (c.requires.records.large.each b c.requires.part.block) in
    let h : c.places.k < length (nets_of (large_of d) b) = (let e = row_long d b c.large_row-row.result.now row in let t = c.places-test.true in omega (arith, e, t)) in
    let f = gained_fits (large_of d) c.args.view.now.grid.now sites (swapped sites c.args.view.now.swap.now) c.args.part.but b c.places.k c.places.gained c.places.lost c.change_of_kept-one.result.gained c.change_of_kept-one.result.lost
    (lawful_large d c.nets-nets.ensures.lawful) (omega arith, omega arith) (omega arith, omega arith) h c.places.invariant c.change_of_kept-one.ensures in
    omega arith

pub overflow_add-lost : goal.overflow_add-lost
overflow_add-lost c =
    let d = c.args.view.now.design.now in
    let b = c.args.part.block.0 in
    let sites = c.args.view.now.placement.now.sites in
    let row = subst (AreLarge d b) (sym c.large_row-row.ensures) (c.requires.records.large.each b c.requires.part.block) in
    let h : c.places.k < length (nets_of (large_of d) b) = (let e = row_long d b c.large_row-row.result.now row in let t = c.places-test.true in omega (arith, e, t)) in
    let f = lost_fits (large_of d) c.args.view.now.grid.now sites (swapped sites c.args.view.now.swap.now) c.args.part.but b c.places.k c.places.gained c.places.lost c.change_of_kept-one.result.gained c.change_of_kept-one.result.lost
    (lawful_large d c.nets-nets.ensures.lawful) (omega arith, omega arith) (omega arith, omega arith) h c.places.invariant c.change_of_kept-one.ensures in
    omega arith

pub places-preserved : goal.places-preserved
places-preserved c =
    let d = c.args.view.now.design.now in
    let b = c.args.part.block.0 in
    let sites = c.args.view.now.placement.now.sites in
    let row = subst (AreLarge d b) (sym c.large_row-row.ensures) (c.requires.records.large.each b c.requires.part.block) in
    let h : c.places.k < length (nets_of (large_of d) b) = (let e = row_long d b c.large_row-row.result.now row in let t = c.places-test.true in omega (arith, e, t)) in
    more (large_of d) c.args.view.now.grid.now sites (swapped sites c.args.view.now.swap.now) c.args.part.but b c.places.k c.places.gained c.places.lost c.change_of_kept-one.result.gained c.change_of_kept-one.result.lost h c.places.invariant c.change_of_kept-one.ensures

pub returns : goal.returns
returns c =
    let d = c.args.view.now.design.now in
    let b = c.args.part.block.0 in
    let sites = c.args.view.now.placement.now.sites in
    let row = subst (AreLarge d b) (sym c.large_row-row.ensures) (c.requires.records.large.each b c.requires.part.block) in
    let e = row_long d b c.large_row-row.result.now row in
    all (large_of d) c.args.view.now.grid.now sites (swapped sites c.args.view.now.swap.now) c.args.part.but b c.places.k c.places.gained c.places.lost (omega arith) c.places.invariant
