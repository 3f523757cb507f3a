use Rattle.std.proofs.Common.{◌≡◌, ◌++◌}
use Rattle.fab_file.specs.Written.{ended}
use Rattle.fab_file.proofs.Pushed.{one_more}
use Rattle.fab_run.specs.PointText.{place_line}
use Rattle.fab_run.proofs.point_writing.push_places.Goals as goal

pub loop-b-preserved : goal.loop-b-preserved
loop-b-preserved c =
    let d = c.args.design.now in
    let sites = c.args.placement.now.sites in
    let line : c.push_place.new.text.items ≡ c.loop-b.text.items ++ ended (place_line d sites c.loop-b.b) = rw (← c.name.ensures, ← c.site_of.ensures) c.in_ok-push_place.ensures in
    one_more (place_line d sites) c.push_field.new.text.items c.loop-b.text.items c.push_place.new.text.items c.loop-b.b c.loop-b.invariant line
