use Rattle.std.proofs.Common.{ap, ◌∙◌, arith}
use Rattle.fab_cost.specs.Cost.{clip}
use Rattle.fab_cost.specs.Swapping.{swapped_by}
use Rattle.fab_cost.proofs.BoxMoves.{x_one, y_one, x_more, y_more}
use Rattle.fab_cost.proofs.counted_box.counted_box.Goals as goal

pub terminals-init : goal.terminals-init
terminals-init c =
    let g = c.args.grid.now in
    let sites = swapped_by c.args.placement.now.sites c.args.swap in
    let ts = c.args.terminals.now in
    let s = c.site_after-first.result in
    let at = c.site_after-first.ensures g c.requires.lawful in
    record {
      some = omega arith;
      x = x_one g sites ts _ s c.clipped.result c.one-x.result c.requires.some at (c.clipped.ensures ∙ ap (λ n. clip n s.x) c.nx-nx.ensures.value) c.one-x.ensures;
      y = y_one g sites ts _ s c.clipped-2.result c.one-y.result c.requires.some at (c.clipped-2.ensures ∙ ap (λ n. clip n s.y) c.ny-ny.ensures.value) c.one-y.ensures;
    }

pub terminals-preserved : goal.terminals-preserved
terminals-preserved c =
    let g = c.args.grid.now in
    let sites = swapped_by c.args.placement.now.sites c.args.swap in
    let ts = c.args.terminals.now in
    let s = c.site_after-site.result in
    let inv = c.terminals.invariant in
    let at = c.site_after-site.ensures g c.requires.lawful in
    record {
      some = omega arith;
      x = x_more g sites ts _ c.terminals.i c.clipped-in-terminals.result s c.terminals.x c.with-x.result inv.some c.terminals-test.true at (c.clipped-in-terminals.ensures ∙ ap (λ n. clip n s.x) c.nx-nx.ensures.value) inv.x c.with-x.ensures;
      y = y_more g sites ts _ c.terminals.i c.clipped-in-terminals-2.result s c.terminals.y c.with-y.result inv.some c.terminals-test.true at (c.clipped-in-terminals-2.ensures ∙ ap (λ n. clip n s.y) c.ny-ny.ensures.value) inv.y c.with-y.ensures;
    }
