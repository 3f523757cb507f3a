use Rattle.std.proofs.Common.{false}
use Rattle.fab_run.specs.Placed.{AskToGoOn, IsPlaced}
use Rattle.fab_run.specs.Setting.{texts_of}
use Rattle.fab_run.proofs.Lifting.{by_count}
use Rattle.fab_run.proofs.counted_runs.resume_run_counted.Goals as goal

pub returns-in-Ok-clause-headline : goal.returns-in-Ok-clause-headline
returns-in-Ok-clause-headline g c =
    by_count (λ a. IsPlaced (AskToGoOn (texts_of c.args.inputs.now) c.args.restart.now.point.now c.args.restart.now.batch c.args.restart.now.workers c.args.restart.now.stop) (texts_of c.args.inputs.now) a (g.W.Sink.contents c.args.report.now) (g.W.Sink.contents c.resume_ended.new.report) (g.P.Sink.contents c.args.place.now) (g.P.Sink.contents c.resume_ended.new.place)) false c.in-Ok.ended c.counted_of.result c.counted_of.ensures.ending c.counted_of.ensures.placement c.counted_of.ensures.accepted c.counted_of.ensures.costs c.in-Ok.ensures.headline
