use Rattle.std.proofs.Common.{◌≡◌, ◌<◌, ◌^◌, sym, subst, arith}
use Rattle.fab_cost.specs.Swapping.{CountedBoxesOf, CountedStandsFor}
use Rattle.fab_cost.proofs.Bounds.{cost_below}
use Rattle.fab_cost.proofs.Standing.{kept_with}
use Rattle.fab_cost.proofs.edge_boxes.EdgeBoxes.set_cost.Goals as goal

pub invariant_of-self : goal.invariant_of-self
invariant_of-self c =
    let known = c.requires.known in
    let low = cost_below c.args.design.now c.args.grid.now c.args.placement.now.sites c.blocks-blocks.ensures.lawful (omega arith, omega arith) (omega arith, omega arith) in
    kept_with c.self.invariant (omega (arith, known, low))

pub returns : goal.returns
returns c =
    subst (λ (v : CountedBoxesOf). CountedStandsFor v c.args.design.now c.args.grid.now c.args.placement.now.sites)
    (sym (λ i. record (c.self.view_is i) { total = c.requires.known i })) c.requires.stands
