use Rattle.std.proofs.Common.{◌+◌, subst, sym, ◌∙◌, arith}
use Rattle.fab_cost.specs.Boxes.{Counts}
use Rattle.fab_cost.specs.Swapping.{HaveBoxes, counted_blocks}
use Rattle.fab_cost.specs.Runs.{AreMost, large_of}
use Rattle.fab_cost.proofs.Bounds.{AreSides, cost_below}
use Rattle.fab_cost.proofs.CountedMaking.{have_made, made_none, made_global, made_more}
use Rattle.fab_cost.proofs.Large.{box_large, global_large}
use Rattle.fab_cost.proofs.Making.{cost_none, cost_same, cost_more, cost_all, sum_fits, is_counted}
use Rattle.fab_cost.proofs.large_nets.boxes_for.Goals as goal
use Rattle.fab_cost.proofs.large_nets.boxes_for.Goals.{then-is_global+in_ok-push, else-is_global+in_ok-push-2}

pub nets-init : goal.nets-init
nets-init c = record {
  made = rw (c.in_ok-boxes.ensures.items) (made_none (large_of c.args.design.now) c.args.grid.now c.args.placement.now.sites);
  sum = sym (cost_none c.args.design.now c.args.grid.now c.args.placement.now.sites);
}

pub overflow_add-total : goal.overflow_add-total
overflow_add-total c =
    let d = c.args.design.now in
    let g = c.args.grid.now in
    let sites = c.args.placement.now.sites in
    let sides : AreSides g = record { columns = (omega arith, omega arith); rows = (omega arith, omega arith) } in
    let counts : Counts d c.nets.number = is_counted d c.nets.number c.is_global.result (omega arith) c.is_global.ensures c.if-is_global.false in
    let f = sum_fits d g sites c.nets.number c.nets.total c.cost_of_counted-cost.result c.nets-nets.ensures.lawful sides counts c.nets.invariant.sum (c.cost_of_counted-cost.ensures g sites c.first_box-made.ensures) in
    omega arith

pub nets-preserved : goal.nets-preserved
nets-preserved c =
    let d = c.args.design.now in
    let g = c.args.grid.now in
    let sites = c.args.placement.now.sites in
    let k = c.nets.number in
    elim c.if-is_global.branch [
      | then-is_global+in_ok-push w ↦
          let e = sym c.is_global.ensures ∙ w.if-is_global.true in
          rw (w.boxes-is, w.total-is, w.in_ok-push.ensures.items) (record {
            made = made_global c.nets.boxes.items _ (large_of d) g sites k c.nets.invariant.made (global_large d k e);
            sum = c.nets.invariant.sum ∙ sym (cost_same d g sites k e);
          })
      | else-is_global+in_ok-push-2 w ↦
          let e = sym c.is_global.ensures ∙ w.if-is_global.false in
          rw (w.boxes-is, w.total-is, w.in_ok-push-2.ensures.items) (record {
            made = made_more c.nets.boxes.items w.if_large.result (large_of d) g sites k c.nets.invariant.made (λ l. w.if_large.ensures l ∙ w.first_box-made.ensures ∙ sym (box_large d g sites k));
            sum = (λ i. c.nets.invariant.sum i + w.cost_of_counted-cost.ensures g sites w.first_box-made.ensures i) ∙ sym (cost_more d g sites k e);
          })
    ]

pub with_lanes-requires : goal.with_lanes-requires
with_lanes-requires c = let made = have_made c.nets.boxes.items (large_of c.args.design.now) c.args.grid.now c.args.placement.now.sites c.nets.number c.nets.invariant.made (omega arith) in c.in_ok-most.ensures.long ∙ sym made.long

pub returns : goal.returns
returns c =
    let d = c.args.design.now in
    let g = c.args.grid.now in
    let sites = c.args.placement.now.sites in
    let all = cost_all d g sites c.nets.number (omega arith) in
    let below = cost_below d g sites c.nets-nets.ensures.lawful (omega arith, omega arith) (omega arith, omega arith) in
    record {
      have = subst (λ v. HaveBoxes v (large_of d) g sites) (sym c.in_ok-with_lanes.ensures.boxes) (have_made c.nets.boxes.items (large_of d) g sites c.nets.number c.nets.invariant.made (omega arith));
      most = subst (λ v. AreMost v (counted_blocks d)) (sym c.in_ok-with_lanes.ensures.most) c.in_ok-most.ensures.most;
      sum = c.nets.invariant.sum ∙ all;
      below = omega (arith, all, below, c.nets.invariant.sum);
    }
