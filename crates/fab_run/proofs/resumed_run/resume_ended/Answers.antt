use Rattle.std.proofs.Common.{◌≡◌, ◌∙◌, [], ap, sym, subst}
use Rattle.fab_move.specs.Stream.{stream_moves}
use Rattle.fab_commit.specs.Run.Points.{going_on}
use Rattle.fab_run.specs.Ends.{Piece, piece_of}
use Rattle.fab_run.specs.Going.{Going, IsGoing, IsGoingFault}
use Rattle.fab_run.specs.Placed.{AskToGoOn}
use Rattle.fab_run.specs.RunChecks.{IsRefusal}
use Rattle.fab_run.specs.Setting.{texts_of}
use Rattle.std.proofs.lemmas.Result.{err_from_is_err_and}
use Rattle.fab_run.proofs.Lifting.{failed_of_device, fault_of_device, made_asked, nothing_written, redone_asked, short_asked}
use Rattle.fab_run.proofs.Showing.{nothing_shown, short_shown, shown_asked}
use Rattle.fab_run.proofs.resumed_run.resume_ended.Given as given
use Rattle.fab_run.proofs.resumed_run.resume_ended.Goals as goal

-- what was read
abbrev read : (g : given.Over) (c : goal.After-drop-design-2 g) → Going
read g c = record { design = c.in_ok-design.design; grid = c.in_ok-design.grid; seed = c.in_ok-design.seed; point = c.in_ok-design.point }

-- the piece that was made
abbrev made : (g : given.Over) (c : goal.After-drop-design-2 g) → Piece
made g c = piece_of stream_moves c.keeping-anneal.result c.new.result.items c.args.restart.now.stop

-- it is the one that was asked for
asked : (g : given.Over) (c : goal.After-drop-design-2 g) → AskToGoOn (texts_of c.args.inputs.now) c.args.restart.now.point.now c.args.restart.now.batch c.args.restart.now.workers c.args.restart.now.stop (made g c)
asked g c =
    let s = read g c in
    let found : IsGoing (texts_of c.args.inputs.now) c.args.restart.now.point.now c.args.restart.now.batch c.args.restart.now.workers s = c.in_ok-design.ensures.found in
    (s, found, (λ i. piece_of stream_moves ((c.keeping-anneal.ensures ∙ c.in_ok-numbered.ensures) i) (c.new.ensures.items i) c.args.restart.now.stop) ∙ ap (λ w. piece_of stream_moves (going_on s.design s.grid s.point w) [] c.args.restart.now.stop) c.new-words.ensures)

pub returns-clause-headline : goal.returns-clause-headline
returns-clause-headline g c =
    let t = texts_of c.args.inputs.now in
    made_asked g.K.Keeping.numbers (AskToGoOn t c.args.restart.now.point.now c.args.restart.now.batch c.args.restart.now.workers c.args.restart.now.stop) t (made g c) c.run_piece.result (g.W.Sink.contents c.args.report.now) (g.W.Sink.contents c.run_piece.new.report) (g.P.Sink.contents c.args.place.now) (g.P.Sink.contents c.run_piece.new.place) (asked g c) c.run_piece.ensures.made

pub returns-clause-redone : goal.returns-clause-redone
returns-clause-redone g c =
    redone_asked g.K.Keeping.again (AskToGoOn (texts_of c.args.inputs.now) c.args.restart.now.point.now c.args.restart.now.batch c.args.restart.now.workers c.args.restart.now.stop) (made g c) c.args.restart.now.batch c.run_piece.result (asked g c) c.run_piece.ensures.redone

pub returns-clause-only : goal.returns-clause-only
returns-clause-only g c other known = fault_of_device (λ f. ¬ (IsRefusal f)) _ _ _ _ c.run_piece.result (λ h. h) (λ h. h) (λ h. h) c.run_piece.ensures.fault

pub returns-clause-fault : goal.returns-clause-fault
returns-clause-fault g c =
    let found : IsGoing (texts_of c.args.inputs.now) c.args.restart.now.point.now c.args.restart.now.batch c.args.restart.now.workers (read g c) = c.in_ok-design.ensures.found in
    fault_of_device (IsGoingFault (texts_of c.args.inputs.now) c.args.restart.now.point.now c.args.restart.now.batch c.args.restart.now.workers) _ _ _ _ c.run_piece.result tt (read g c, found) (read g c, found) c.run_piece.ensures.fault

pub returns-clause-failed : goal.returns-clause-failed
returns-clause-failed g c = failed_of_device _ _ _ _ c.run_piece.result c.run_piece.ensures.fault

pub returns-in_err-design-clause-only : goal.returns-in_err-design-clause-only
returns-in_err-design-clause-only g c s k =
    let p = err_from_is_err_and c.from_residual.result c.from_residual.ensures.1 in
    rw (p.1, p.2) (subst (λ f. ¬ (IsRefusal f)) (sym (c.in_err-design.ensures.only s k)) (λ h. h))

pub returns-clause-shown : goal.returns-clause-shown
returns-clause-shown g c =
    shown_asked (AskToGoOn (texts_of c.args.inputs.now) c.args.restart.now.point.now c.args.restart.now.batch c.args.restart.now.workers c.args.restart.now.stop) (made g c) c.args.restart.now.batch c.run_piece.result c.args.shower.now.shown c.run_piece.new.shower.shown (asked g c) c.run_piece.ensures.shown

pub returns-clause-cut_short : goal.returns-clause-cut_short
returns-clause-cut_short g c =
    short_asked (AskToGoOn (texts_of c.args.inputs.now) c.args.restart.now.point.now c.args.restart.now.batch c.args.restart.now.workers c.args.restart.now.stop) (texts_of c.args.inputs.now) g.P.Sink.may_be_unready (made g c) _ _ _ _ c.run_piece.result (g.W.Sink.contents c.args.report.now) (g.W.Sink.contents c.run_piece.new.report) (g.P.Sink.contents c.args.place.now) (g.P.Sink.contents c.run_piece.new.place) (asked g c) c.run_piece.ensures.fault c.run_piece.ensures.cut c.run_piece.ensures.report_cut c.run_piece.ensures.unplaced c.run_piece.ensures.place_cut

pub returns-clause-shown_short : goal.returns-clause-shown_short
returns-clause-shown_short g c =
    short_shown (AskToGoOn (texts_of c.args.inputs.now) c.args.restart.now.point.now c.args.restart.now.batch c.args.restart.now.workers c.args.restart.now.stop) (made g c) c.args.restart.now.batch _ _ _ _ c.run_piece.result c.args.shower.now.shown c.run_piece.new.shower.shown (asked g c) c.run_piece.ensures.fault c.run_piece.ensures.shown_cut

pub returns-in_err-design-clause-cut_short : goal.returns-in_err-design-clause-cut_short
returns-in_err-design-clause-cut_short g c =
    let p = err_from_is_err_and c.from_residual.result c.from_residual.ensures.1 in
    rw (p.1, p.2) (nothing_written (AskToGoOn (texts_of c.args.inputs.now) c.args.restart.now.point.now c.args.restart.now.batch c.args.restart.now.workers c.args.restart.now.stop) (texts_of c.args.inputs.now) g.P.Sink.may_be_unready (g.W.Sink.contents c.args.report.now) (g.P.Sink.contents c.args.place.now) _ c.in_err-design.ensures.text)

pub returns-in_err-design-clause-shown_short : goal.returns-in_err-design-clause-shown_short
returns-in_err-design-clause-shown_short g c =
    let p = err_from_is_err_and c.from_residual.result c.from_residual.ensures.1 in
    rw (p.1, p.2) (nothing_shown (AskToGoOn (texts_of c.args.inputs.now) c.args.restart.now.point.now c.args.restart.now.batch c.args.restart.now.workers c.args.restart.now.stop) c.args.restart.now.batch c.args.shower.now.shown _)
