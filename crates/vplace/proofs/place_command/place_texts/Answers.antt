use Rattle.std.proofs.Common.{◌≡◌}
use Rattle.std.specs.Prelude.{option_copied}
use Rattle.fab_text.specs.Failures.{grown}
use Rattle.fab_run.specs.Setting.{IsSetting, Setting, texts_of}
use Rattle.vplace.specs.Forecasts.{IsForecast, forecast_in}
use Rattle.vplace.specs.Said.{IsSaid, report_line}
use Rattle.vplace.proofs.Telling.{tried_told}
use Rattle.vplace.proofs.place_command.place_texts.Goals as goal

pub returns-in-Ok-clause-device : goal.returns-in-Ok-clause-device
returns-in-Ok-clause-device g c =
    let t = texts_of c.args.inputs.now in
    let o = c.args.options.now in
    tried_told (IsSetting t o) (λ (s : Setting) f. IsForecast s.plan 0 o.stop f)
    ((g.O.Sink.failed c.place_kept.new.out ≡ grown (g.O.Sink.failed c.args.out.now)) × IsSaid report_line (g.E.Sink.contents c.args.err.now) (g.E.Sink.contents c.place_kept.new.err) (g.E.Sink.failed c.args.err.now) (g.E.Sink.failed c.place_kept.new.err))
    (forecast_in c.in-Ok.kept) c.args.environment.now.names.out.now (option_copied c.args.environment.now.names.save) (g.F.NamedFiles.shut c.args.environment.now.files.now) (λ line. IsSaid line (g.E.Sink.contents c.args.err.now) (g.E.Sink.contents c.place_kept.new.err) (g.E.Sink.failed c.args.err.now) (g.E.Sink.failed c.place_kept.new.err))
    c.place_kept.result (λ s k. (c.in-Ok.ensures.kept s k).0) c.place_kept.ensures.device
