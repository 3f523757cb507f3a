use Rattle.fab_run.specs.RunChecks.{IsRunFault}
use Rattle.fab_run.specs.Setting.{IsSetting, texts_of}
use Rattle.vplace.specs.Leaving.{IsShutFor}
use Rattle.vplace.specs.Said.{IsSaid}
use Rattle.vplace.proofs.Ends.{device_told, refused_told}
use Rattle.vplace.proofs.place_command.place_kept.Goals as goal

pub returns-clause-refused : goal.returns-clause-refused
returns-clause-refused g c =
    refused_told (IsRunFault (texts_of c.args.inputs.now) c.args.options.now) c.run_place-told.new.place.refusal c.args.inputs.now.net.now (λ line. IsSaid line (g.E.Sink.contents c.args.err.now) (g.E.Sink.contents c.left_by.new.err) (g.E.Sink.failed c.args.err.now) (g.E.Sink.failed c.left_by.new.err)) c.run_place-told.result c.left_by.result c.run_place-told.ensures.fault c.left_by.ensures.told

pub returns-clause-device : goal.returns-clause-device
returns-clause-device g c =
    device_told (IsSetting (texts_of c.args.inputs.now) c.args.options.now) (IsRunFault (texts_of c.args.inputs.now) c.args.options.now) c.run_place-told.new.place.refusal c.args.inputs.now.net.now (λ line. IsSaid line (g.E.Sink.contents c.args.err.now) (g.E.Sink.contents c.left_by.new.err) (g.E.Sink.failed c.args.err.now) (g.E.Sink.failed c.left_by.new.err)) (IsShutFor g.N.Planned.plan) _ _ c.run_place-told.result c.left_by.result
    (λ h. h) (λ h. h) (λ h. h) c.run_place-told.ensures.fault c.run_place-told.ensures.failed c.left_by.ensures.told c.left_by.ensures.refused
