use Rattle.std.proofs.Common.{refl, sym, subst}
use Rattle.fab_run.specs.Ends.{AreRedone}
use Rattle.fab_run.specs.Placed.{AskToGoOn, IsPlaced}
use Rattle.fab_run.specs.Setting.{texts_of}
use Rattle.fab_run.proofs.Lifting.{with_numbers}
use Rattle.fab_run.proofs.resumed_run.resume_run.Goals as goal

pub outcome_of-requires : goal.outcome_of-requires
outcome_of-requires g c = record { kept = (_, c.in-Ok.ensures.headline.1.kept) }

pub returns-in-Ok-clause-headline : goal.returns-in-Ok-clause-headline
returns-in-Ok-clause-headline g c =
    with_numbers (λ a. IsPlaced (AskToGoOn (texts_of c.args.inputs.now) c.args.point.now c.args.batch c.args.workers c.args.stop) (texts_of c.args.inputs.now) a (g.W.Sink.contents c.args.report.now) (g.W.Sink.contents c.resume_ended.new.report) (g.P.Sink.contents c.args.place.now) (g.P.Sink.contents c.resume_ended.new.place)) c.in-Ok.ended c.outcome_of.result c.outcome_of.ensures.ending c.outcome_of.ensures.placement c.outcome_of.ensures.numbers c.outcome_of.ensures.costs c.in-Ok.ensures.headline

pub returns-in-Ok-clause-redone : goal.returns-in-Ok-clause-redone
returns-in-Ok-clause-redone g c =
    let told = c.in-Ok.ensures.redone in
    (told.0, told.1, subst (AreRedone told.0 c.args.batch) (sym c.outcome_of.ensures.redone) (told.2 refl))
