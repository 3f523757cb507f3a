use Rattle.std.proofs.Common.{codes}
use Rattle.fab_file.specs.Written.{ended}
use Rattle.fab_run.specs.PointText.{field_text, stage_text}
use Rattle.fab_run.proofs.PointPushed.{four_pieces}
use Rattle.fab_run.proofs.point_writing.push_place_in_run.Goals as goal

pub returns : goal.returns
returns c =
    let s = c.args.stage.now in
    four_pieces c.args.text.now.items (ended (stage_text s)) (ended (field_text (codes "temperature") s.t)) (ended (field_text (codes "range") s.range)) (ended (field_text (codes "total") c.args.total)) _ _ _ _
    c.in_ok-push_stage.ensures c.in_ok-push_field.ensures c.in_ok-push_field-2.ensures c.in_ok-push_field-3.ensures
