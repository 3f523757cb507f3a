use Rattle.std.proofs.Common.{◌≡◌}
use Rattle.fab_move.specs.Stream.{stream_moves}
use Rattle.fab_run.specs.Ends.{Piece, piece_of}
use Rattle.fab_run.specs.Placed.{AskFor}
use Rattle.fab_run.specs.RunChecks.{IsRefusal, IsRunFault}
use Rattle.fab_run.specs.Setting.{IsSetting, Setting, setting_of, texts_of}
use Rattle.std.proofs.lemmas.Result.{err_from_is_err_and}
use Rattle.fab_run.proofs.Lifting.{failed_of_device, fault_of_device, made_asked, nothing_written, redone_asked, short_asked}
use Rattle.fab_run.proofs.Showing.{nothing_shown, short_shown, shown_asked}
use Rattle.fab_run.proofs.fresh_run.place_ended.Given as given
use Rattle.fab_run.proofs.fresh_run.place_ended.Goals as goal

-- what was read
abbrev read : (g : given.Over) (c : goal.After-drop-design-2 g) → Setting
read g c = setting_of c.in_ok-design.design c.in_ok-design.grid c.in_ok-design.pins.fixed c.in_ok-design.pins.begun c.in_ok-design.schedule

-- the piece that was made
abbrev made : (g : given.Over) (c : goal.After-drop-design-2 g) → Piece
made g c = piece_of stream_moves c.in_ok-anneal.anneal c.in_ok-anneal.head.items c.args.options.now.stop

-- it is the one that was asked for
asked : (g : given.Over) (c : goal.After-drop-design-2 g) → AskFor (texts_of c.args.inputs.now) c.args.options.now (made g c)
asked g c =
    let found : IsSetting (texts_of c.args.inputs.now) c.args.options.now (read g c) = c.in_ok-design.ensures.found in
    (read g c, found, λ i. piece_of stream_moves (c.in_ok-anneal.ensures.stands i) (c.in_ok-anneal.ensures.head i) c.args.options.now.stop)

pub returns-clause-headline : goal.returns-clause-headline
returns-clause-headline g c =
    let t = texts_of c.args.inputs.now in
    made_asked g.K.Keeping.numbers (AskFor t c.args.options.now) t (made g c) c.run_piece.result (g.W.Sink.contents c.args.report.now) (g.W.Sink.contents c.run_piece.new.report) (g.P.Sink.contents c.args.place.now) (g.P.Sink.contents c.run_piece.new.place) (asked g c) c.run_piece.ensures.made

pub returns-clause-redone : goal.returns-clause-redone
returns-clause-redone g c =
    redone_asked g.K.Keeping.again (AskFor (texts_of c.args.inputs.now) c.args.options.now) (made g c) c.args.options.now.batch c.run_piece.result (asked g c) c.run_piece.ensures.redone

pub returns-clause-only : goal.returns-clause-only
returns-clause-only g c other known = fault_of_device (λ f. ¬ (IsRefusal f)) _ _ _ _ c.run_piece.result (λ h. h) (λ h. h) (λ h. h) c.run_piece.ensures.fault

pub returns-clause-fault : goal.returns-clause-fault
returns-clause-fault g c =
    let found : IsSetting (texts_of c.args.inputs.now) c.args.options.now (read g c) = c.in_ok-design.ensures.found in
    fault_of_device (IsRunFault (texts_of c.args.inputs.now) c.args.options.now) _ _ _ _ c.run_piece.result tt (read g c, found) (read g c, found) c.run_piece.ensures.fault

pub returns-clause-failed : goal.returns-clause-failed
returns-clause-failed g c = failed_of_device _ _ _ _ c.run_piece.result c.run_piece.ensures.fault

pub returns-clause-shown : goal.returns-clause-shown
returns-clause-shown g c =
    shown_asked (AskFor (texts_of c.args.inputs.now) c.args.options.now) (made g c) c.args.options.now.batch c.run_piece.result c.args.shower.now.shown c.run_piece.new.shower.shown (asked g c) c.run_piece.ensures.shown

pub returns-clause-cut_short : goal.returns-clause-cut_short
returns-clause-cut_short g c =
    short_asked (AskFor (texts_of c.args.inputs.now) c.args.options.now) (texts_of c.args.inputs.now) g.P.Sink.may_be_unready (made g c) _ _ _ _ c.run_piece.result (g.W.Sink.contents c.args.report.now) (g.W.Sink.contents c.run_piece.new.report) (g.P.Sink.contents c.args.place.now) (g.P.Sink.contents c.run_piece.new.place) (asked g c) c.run_piece.ensures.fault c.run_piece.ensures.cut c.run_piece.ensures.report_cut c.run_piece.ensures.unplaced c.run_piece.ensures.place_cut

pub returns-clause-shown_short : goal.returns-clause-shown_short
returns-clause-shown_short g c =
    short_shown (AskFor (texts_of c.args.inputs.now) c.args.options.now) (made g c) c.args.options.now.batch _ _ _ _ c.run_piece.result c.args.shower.now.shown c.run_piece.new.shower.shown (asked g c) c.run_piece.ensures.fault c.run_piece.ensures.shown_cut

pub returns-in_err-design-clause-cut_short : goal.returns-in_err-design-clause-cut_short
returns-in_err-design-clause-cut_short g c =
    let p = err_from_is_err_and c.from_residual.result c.from_residual.ensures.1 in
    rw (p.1, p.2) (nothing_written (AskFor (texts_of c.args.inputs.now) c.args.options.now) (texts_of c.args.inputs.now) g.P.Sink.may_be_unready (g.W.Sink.contents c.args.report.now) (g.P.Sink.contents c.args.place.now) _ c.in_err-design.ensures.text)

pub returns-in_err-design-clause-shown_short : goal.returns-in_err-design-clause-shown_short
returns-in_err-design-clause-shown_short g c =
    let p = err_from_is_err_and c.from_residual.result c.from_residual.ensures.1 in
    rw (p.1, p.2) (nothing_shown (AskFor (texts_of c.args.inputs.now) c.args.options.now) c.args.options.now.batch c.args.shower.now.shown _)
