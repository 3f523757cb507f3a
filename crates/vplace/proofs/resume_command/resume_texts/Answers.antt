use Rattle.std.proofs.Common.{◌≡◌, inl}
use Rattle.std.specs.Prelude.{option_copied}
use Rattle.fab_text.specs.Failures.{grown}
use Rattle.fab_commit.specs.Run.Points.{done_at}
use Rattle.fab_run.specs.Going.{Going, IsGoing}
use Rattle.fab_run.specs.Setting.{texts_of}
use Rattle.vplace.specs.Forecasts.{IsForecast, forecast_in}
use Rattle.vplace.specs.Said.{IsSaid, report_line}
use Rattle.vplace.proofs.Telling.{memory_told_as, tried_told}
use Rattle.vplace.proofs.resume_command.resume_texts.Goals as goal

pub returns-in-Ok-clause-device : goal.returns-in-Ok-clause-device
returns-in-Ok-clause-device g c =
    let t = texts_of c.args.inputs.now in
    let r = c.args.restart.now in
    tried_told (IsGoing t r.point.now r.batch r.workers) (λ (s : Going) f. IsForecast s.point.schedule (done_at s.point) r.stop f)
    ((g.O.Sink.failed c.resume_kept.new.out ≡ grown (g.O.Sink.failed c.args.out.now)) × IsSaid report_line (g.E.Sink.contents c.args.err.now) (g.E.Sink.contents c.resume_kept.new.err) (g.E.Sink.failed c.args.err.now) (g.E.Sink.failed c.resume_kept.new.err))
    (forecast_in c.in-Ok.kept) c.args.environment.now.names.out.now (option_copied c.args.environment.now.names.save) (g.F.NamedFiles.shut c.args.environment.now.files.now) (λ line. IsSaid line (g.E.Sink.contents c.args.err.now) (g.E.Sink.contents c.resume_kept.new.err) (g.E.Sink.failed c.args.err.now) (g.E.Sink.failed c.resume_kept.new.err))
    c.resume_kept.result (λ s k. (c.in-Ok.ensures.kept s k.text).0) c.resume_kept.ensures.device

pub returns-in-Err-clause-only : goal.returns-in-Err-clause-only
returns-in-Err-clause-only g c s going =
    inl (memory_told_as c.run_fault.result c.in-Err.fault (c.in-Err.ensures.only s going.text) c.run_fault.ensures.status)
