use Rattle.std.proofs.Common.{sym, subst, inr, rules}
use Rattle.std.proofs.lemmas.Result.{err_from_is_err_and}
use Rattle.fab_site.specs.Placement.{IsLegal}
use Rattle.fab_move.specs.Stream.{stream_moves}
use Rattle.fab_run.specs.Counted.{answer_with}
use Rattle.fab_run.specs.Ends.{IsReportOf, piece_of}
use Rattle.fab_run.specs.Setting.{texts_of}
use Rattle.fab_run.proofs.Whole.{begun_whole, text_cut}
use Rattle.fab_run.proofs.Showing.{part_whole}
use Rattle.fab_run.proofs.piece.run_piece.Goals as goal

pub write_placement-requires-clause-legal : goal.write_placement-requires-clause-legal
write_placement-requires-clause-legal g c =
    let out = c.in_ok-outcome.outcome in
    let legal = c.in_ok-outcome.ensures.annealed.2.annealed.legal in
    let here : IsLegal c.args.piece.now.design.now c.args.piece.now.grid.now c.args.anneal.fixed out.placement.sites =
    subst (λ q. IsLegal c.args.piece.now.design.now q c.args.anneal.fixed out.placement.sites) (sym c.requires.grid) (subst (λ q. IsLegal q c.args.anneal.grid c.args.anneal.fixed out.placement.sites) (sym c.requires.design) legal) in
    search (rules, here)

pub returns-in_err-write_placement-clause-cut : goal.returns-in_err-write_placement-clause-cut
returns-in_err-write_placement-clause-cut g c =
    let p = piece_of stream_moves c.args.anneal c.args.piece.now.head.items c.args.piece.now.pace.stop in
    let fact : IsReportOf p (g.W.Sink.contents c.args.report.now) (g.W.Sink.contents c.anneal_reported.new.report) = begun_whole p (answer_with c.in_ok-outcome.outcome c.in_ok-outcome.ensures.annealed.0) _ _ c.in_ok-outcome.ensures.annealed.2 in
    search (rules, fact)

pub returns-in_err-write_placement-clause-place_cut : goal.returns-in_err-write_placement-clause-place_cut
returns-in_err-write_placement-clause-place_cut g c =
    let p = piece_of stream_moves c.args.anneal c.args.piece.now.head.items c.args.piece.now.pace.stop in
    let t = texts_of c.args.piece.now.inputs.now in
    let out = c.in_ok-outcome.outcome in
    let e = err_from_is_err_and c.from_residual-in_err-write_placement.result c.from_residual-in_err-write_placement.ensures.1 in
    rw (e.1, e.2) (λ q. inr (text_cut t p (answer_with out c.in_ok-outcome.ensures.annealed.0) c.args.piece.now.design.now c.args.piece.now.grid.now
    (g.W.Sink.contents c.args.report.now) (g.W.Sink.contents c.anneal_reported.new.report) (g.P.Sink.contents c.args.place.now) (g.P.Sink.contents c.anneal_reported.new.place) (g.P.Sink.contents c.write_placement.new.place)
    (g.P.Sink.failed c.anneal_reported.new.place) (g.P.Sink.failed c.write_placement.new.place) c.in_err-write_placement.field-0.0
    c.requires.design c.requires.grid c.in_ok-outcome.ensures.annealed.2 c.in_ok-outcome.ensures.place c.in_err-write_placement.ensures.fault q))

pub returns-in_err-write_placement-clause-shown_cut : goal.returns-in_err-write_placement-clause-shown_cut
returns-in_err-write_placement-clause-shown_cut g c =
    let p = piece_of stream_moves c.args.anneal c.args.piece.now.head.items c.args.piece.now.pace.stop in
    let fact = part_whole p c.args.piece.now.pace.batch c.args.shower.now.shown c.anneal_reported.new.shower.shown c.in_ok-outcome.ensures.shown in
    search (rules, fact)
