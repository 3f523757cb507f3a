use Rattle.fab_run.proofs.PointBack.{reads_back}
use Rattle.fab_run.proofs.point_writing.written_points_read_back.Goals as goal

pub returns : goal.returns
returns c = reads_back
