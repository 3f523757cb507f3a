use Rattle.std.proofs.Common.{◌≡◌, ◌++◌, true, false, sym, ap, ◌∙◌, codes}
use Rattle.std.specs.Prelude.{is_some}
use Rattle.fab_site.specs.Placement.{fixed_at}
use Rattle.fab_file.specs.Written.{ended}
use Rattle.fab_run.specs.PointText.{fixed_line}
use Rattle.fab_run.proofs.PointPushed.{fixed_one, fixed_same}
use Rattle.fab_run.proofs.point_writing.push_fixed.Goals.{then-is_some+in_ok-push_fixed_line, else-is_some}
use Rattle.fab_run.proofs.point_writing.push_fixed.Goals as goal

pub loop-b-preserved : goal.loop-b-preserved
loop-b-preserved c =
    let d = c.args.design.now in
    let fixed = c.args.fixed.now in
    let old = c.push_field.new.text.items in
    let b = c.loop-b.b in
    elim c.if-is_some.branch [
      | then-is_some+in_ok-push_fixed_line w ↦
          let is : is_some (fixed_at fixed b) ≡ true = ap is_some (sym c.site_of.ensures) ∙ sym c.is_some.ensures ∙ w.if-is_some.true in
          let line : w.push_fixed_line.new.text.items ≡ c.loop-b.text.items ++ ended (fixed_line d b) = w.in_ok-push_fixed_line.ensures ∙ ap (λ n. c.loop-b.text.items ++ ended (n ++ codes " fixed")) w.name.ensures in
          rw w.text-is (fixed_one (fixed_line d) fixed old c.loop-b.text.items w.push_fixed_line.new.text.items b is c.loop-b.invariant line)
      | else-is_some w ↦
          let is : is_some (fixed_at fixed b) ≡ false = ap is_some (sym c.site_of.ensures) ∙ sym c.is_some.ensures ∙ w.if-is_some.false in
          rw w.text-is (fixed_same (fixed_line d) fixed old c.loop-b.text.items b is c.loop-b.invariant)
    ]
