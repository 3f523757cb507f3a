use Rattle.std.proofs.Common.{codes}
use Rattle.fab_file.specs.Written.{ended}
use Rattle.fab_run.specs.PointText.{array_text, field_text, schedule_text}
use Rattle.fab_run.proofs.PointPushed.{four_pieces}
use Rattle.fab_run.proofs.point_writing.push_head.Goals as goal

pub returns-clause-text : goal.returns-clause-text
returns-clause-text c =
    four_pieces c.args.text.now.items (ended (codes "vplace point 2")) (ended (field_text (codes "seed") c.args.seed)) (ended (array_text c.args.grid.now)) (ended (schedule_text c.args.schedule.now)) _ _ _ _
    c.in_ok-extend_from_slice.ensures.items c.in_ok-push_field.ensures c.in_ok-push_array.ensures.text c.in_ok-push_schedule.ensures.text
