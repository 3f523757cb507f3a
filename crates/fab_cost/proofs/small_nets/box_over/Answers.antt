use Rattle.std.proofs.Common.{◌<◌, length, get_or, refl, sym, arith}
use Rattle.std.proofs.lemmas.Bool.{eqb-true}
use Rattle.fab_cost.specs.Runs.{positions_in}
use Rattle.fab_cost.proofs.Over.{box_none, lane_x, lane_y, more_edges, x_at, y_at}
use Rattle.fab_cost.proofs.small_nets.box_over.Goals as goal

pub returns-then-is_empty : goal.returns-then-is_empty
returns-then-is_empty c = box_none (positions_in c.args.lanes.now) c.args.blocks.now _ (let e = eqb-true (length c.args.blocks.now) 0 (sym c.if-is_empty.ensures) in omega arith) refl

pub blocks-2-preserved : goal.blocks-2-preserved
blocks-2-preserved c =
    let table = c.args.lanes.now in
    let ps = positions_in table in
    let ks = c.args.blocks.now in
    let i = c.blocks-2.i in
    let inv = c.blocks-2.invariant in
    let t : i < length ks = c.blocks-2-test.true in
    let low : get_or ks i 0 < length ps = c.requires.within i 0 t in
    record {
      some = omega arith;
      x = more_edges (x_at ps) ks i 0 _ c.blocks-2.x c.with-x.result inv.some t (lane_x table ps (get_or ks i 0) _ _ c.requires.table low refl) inv.x c.with-x.ensures;
      y = more_edges (y_at ps) ks i 0 _ c.blocks-2.y c.with-y.result inv.some t (lane_y table ps (get_or ks i 0) _ _ c.requires.table low refl) inv.y c.with-y.ensures;
    }
