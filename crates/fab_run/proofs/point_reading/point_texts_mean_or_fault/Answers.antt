use Rattle.fab_run.proofs.PointEither.{means_or_faults}
use Rattle.fab_run.proofs.point_reading.point_texts_mean_or_fault.Goals as goal

pub returns : goal.returns
returns c = means_or_faults
