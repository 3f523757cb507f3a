use Rattle.std.proofs.Common.{◌≡◌, true, false, sym, ap, ◌∙◌}
use Rattle.std.specs.Prelude.{is_some}
use Rattle.fab_site.specs.Placement.{fixed_at}
use Rattle.fab_run.proofs.PointPushed.{count_one, count_same}
use Rattle.fab_run.proofs.point_writing.fixed_count.Goals.{then-is_some, else-is_some}
use Rattle.fab_run.proofs.point_writing.fixed_count.Goals as goal

pub loop-b-preserved : goal.loop-b-preserved
loop-b-preserved c = elim c.if-is_some.branch [
  | then-is_some w ↦
      let is : is_some (fixed_at c.args.fixed.now c.loop-b.b) ≡ true = ap is_some (sym c.site_of.ensures) ∙ sym c.is_some.ensures ∙ w.if-is_some.true in
      rw w.count-is (count_one c.args.fixed.now c.loop-b.b c.loop-b.count is c.loop-b.invariant)
  | else-is_some w ↦
      let is : is_some (fixed_at c.args.fixed.now c.loop-b.b) ≡ false = ap is_some (sym c.site_of.ensures) ∙ sym c.is_some.ensures ∙ w.if-is_some.false in
      rw w.count-is (count_same c.args.fixed.now c.loop-b.b c.loop-b.count is c.loop-b.invariant)
]
