use Rattle.std.proofs.Common.{ℕ, List, Option, Some, option_map, subst, Vec, Global}
use Rattle.std.specs.Prelude.{IfOk}
use Rattle.fab_run.specs.Ends.{Answer}
use Rattle.fab_run.specs.Going.{Going, HasPoint, IsGoing, IsGoingFault}
use Rattle.fab_run.specs.Placed.{AskToGoOn, IsPlaced}
use Rattle.fab_run.specs.Setting.{texts_of}
use Rattle.vplace.specs.Leaving.{AreLeft, IsCheckpoint, IsShutFor}
use Rattle.vplace.specs.Said.{IsSaid}
use Rattle.vplace.proofs.Ends.{device_told, never_refused_told, no_point_write, refused_told}
use Rattle.vplace.proofs.Stopping.{left_is}
use Rattle.vplace.proofs.resume_command.resume_kept.Goals as goal

pub returns-clause-placed : goal.returns-clause-placed
returns-clause-placed g c =
    let t = texts_of c.args.inputs.now in
    let r = c.args.restart.now in
    let old = g.O.Sink.contents c.args.out.now in
    let new = g.O.Sink.contents c.run_on-told.new.out in
    let text = c.run_on-told.new.place.text.items in
    let placed = subst (λ (was : List ℕ). IfOk c.run_on-told.result (λ (point : Option (Vec ℕ Global)). (s : Going) × HasPoint t r.point.now s × ((a : Answer) × IsPlaced (AskToGoOn t r.point.now r.batch r.workers r.stop) t a old new (Some was) (Some text) × IsCheckpoint t s.seed a.ending (option_map (λ (v : Vec ℕ Global). v.items) point)))) c.new-place.ensures.text c.run_on-told.ensures.placed in
    left_is c.left_by.result c.run_on-told.result
    (λ (point : Option (Vec ℕ Global)) (place : List ℕ). (s : Going) × HasPoint t r.point.now s × AreLeft (AskToGoOn t r.point.now r.batch r.workers r.stop) t s.seed old new place (option_map (λ (v : Vec ℕ Global). v.items) point))
    (λ left. left.point) (λ left. left.place.items) text placed c.left_by.ensures.point c.left_by.ensures.place

pub returns-clause-refused : goal.returns-clause-refused
returns-clause-refused g c =
    let r = c.args.restart.now in
    refused_told (IsGoingFault (texts_of c.args.inputs.now) r.point.now r.batch r.workers) c.run_on-told.new.place.refusal c.args.inputs.now.net.now (λ line. IsSaid line (g.E.Sink.contents c.args.err.now) (g.E.Sink.contents c.left_by.new.err) (g.E.Sink.failed c.args.err.now) (g.E.Sink.failed c.left_by.new.err)) c.run_on-told.result c.left_by.result c.run_on-told.ensures.fault c.left_by.ensures.told

pub returns-clause-only : goal.returns-clause-only
returns-clause-only g c s going = never_refused_told c.run_on-told.result c.left_by.result (c.run_on-told.ensures.only s going) c.left_by.ensures.fault

pub returns-clause-device : goal.returns-clause-device
returns-clause-device g c =
    let r = c.args.restart.now in
    let t = texts_of c.args.inputs.now in
    device_told (IsGoing t r.point.now r.batch r.workers) (IsGoingFault t r.point.now r.batch r.workers) c.run_on-told.new.place.refusal c.args.inputs.now.net.now (λ line. IsSaid line (g.E.Sink.contents c.args.err.now) (g.E.Sink.contents c.left_by.new.err) (g.E.Sink.failed c.args.err.now) (g.E.Sink.failed c.left_by.new.err)) (IsShutFor g.N.Planned.plan) _ _ c.run_on-told.result c.left_by.result
    (λ h. h) (λ h. h) (no_point_write t r.point.now r.batch r.workers) c.run_on-told.ensures.fault c.run_on-told.ensures.failed c.left_by.ensures.told c.left_by.ensures.refused
