use Rattle.std.proofs.Common.{subst, rules}
use Rattle.std.specs.Io.KnownBytes.{Appends}
use Rattle.std.proofs.lemmas.Result.{err_from_is_err_and}
use Rattle.fab_file.specs.Written.{IsCut}
use Rattle.fab_move.specs.Stream.{stream_moves}
use Rattle.fab_run.specs.Ends.{IsBegun, piece_of}
use Rattle.fab_run.proofs.Whole.{cut_head, cut_piece, cut_stages, redone_piece, short_head, short_piece, short_stages, told_piece}
use Rattle.fab_run.specs.Shown.{AreShown}
use Rattle.fab_commit.specs.Run.Commits.{run_of}
use Rattle.fab_run.proofs.Room.{over_without, room_later}
use Rattle.fab_run.proofs.Telling.{appends_none}
use Rattle.fab_run.proofs.Showing.{none_shown, part_begun, part_whole, whole_shown}
use Rattle.fab_run.proofs.piece.anneal_reported.Goals as goal

pub returns-in_err-costs-clause-cut : goal.returns-in_err-costs-clause-cut
returns-in_err-costs-clause-cut g c =
    let p = piece_of stream_moves c.args.anneal c.args.piece.now.head.items c.args.piece.now.pace.stop in
    let old = g.W.Sink.contents c.args.report.now in
    let new = g.W.Sink.contents c.write_head.new.report in
    let fact = cut_head p old new (subst (λ l. IsBegun old new l) c.deref.ensures.value c.in_err-costs.ensures.cut) in
    search (rules, fact)

pub returns-in_err-costs-clause-short : goal.returns-in_err-costs-clause-short
returns-in_err-costs-clause-short g c =
    let p = piece_of stream_moves c.args.anneal c.args.piece.now.head.items c.args.piece.now.pace.stop in
    let old = g.W.Sink.contents c.args.report.now in
    let new = g.W.Sink.contents c.write_head.new.report in
    let e = err_from_is_err_and c.from_residual-in_err-costs.result c.from_residual-in_err-costs.ensures.1 in
    rw (e.1, e.2) (λ q. short_head p old new (subst (λ l. IsCut l old new) c.deref.ensures.value (c.in_err-costs.ensures.short q)))

pub returns-in_err-anneal_all-clause-cut : goal.returns-in_err-anneal_all-clause-cut
returns-in_err-anneal_all-clause-cut g c =
    let p = piece_of stream_moves c.args.anneal c.args.piece.now.head.items c.args.piece.now.pace.stop in
    let old = g.W.Sink.contents c.args.report.now in
    let mid = g.W.Sink.contents c.write_head.new.report in
    let new = g.W.Sink.contents c.anneal_all.new.report in
    let told = subst (λ l. Appends old mid l) c.deref.ensures.value c.in_ok-costs.ensures.told in
    let cut = c.in_err-anneal_all.ensures.cut.begun in
    let fact = cut_stages p old mid new cut.0 cut.1 cut.2 told cut.3 in
    search (rules, fact)

pub returns-in_err-anneal_all-clause-short : goal.returns-in_err-anneal_all-clause-short
returns-in_err-anneal_all-clause-short g c =
    let p = piece_of stream_moves c.args.anneal c.args.piece.now.head.items c.args.piece.now.pace.stop in
    let old = g.W.Sink.contents c.args.report.now in
    let mid = g.W.Sink.contents c.write_head.new.report in
    let new = g.W.Sink.contents c.anneal_all.new.report in
    let told = subst (λ l. Appends old mid l) c.deref.ensures.value c.in_ok-costs.ensures.told in
    let short = c.in_err-anneal_all.ensures.cut.short in
    let e = err_from_is_err_and c.from_residual-in_err-anneal_all.result c.from_residual-in_err-anneal_all.ensures.1 in
    rw (e.1, e.2) (λ q. (let cut = short q in short_stages p old mid new cut.0 cut.1 told cut.2))

pub returns-clause-redone : goal.returns-clause-redone
returns-clause-redone g c =
    let b = c.anneal_all.new.anneal in
    redone_piece g.K.Keeping.again c.args.anneal b c.args.piece.now.head.items c.args.piece.now.pace.stop c.args.piece.now.pace.batch c.in_ok-costs.costs.items c.anneal_all.new.costs.items
    (g.W.Sink.contents c.write_head.new.report) (g.W.Sink.contents c.anneal_all.new.report) c.requires.fresh c.in_ok-anneal_all.ensures.made c.finish_report.result c.finish_report.ensures.redone

pub returns-clause-annealed : goal.returns-clause-annealed
returns-clause-annealed g c =
    let old = g.W.Sink.contents c.args.report.now in
    let mid = g.W.Sink.contents c.write_head.new.report in
    let more = g.W.Sink.contents c.anneal_all.new.report in
    let new = g.W.Sink.contents c.finish_report.new.report in
    let b = c.anneal_all.new.anneal in
    let told = subst (λ l. Appends old mid l) c.deref.ensures.value c.in_ok-costs.ensures.told in
    let all = c.in_ok-anneal_all.ensures in
    let end = c.finish_report.ensures in
    told_piece g.K.Keeping.numbers g.K.Keeping.again c.args.anneal b c.args.piece.now.head.items c.args.piece.now.pace.stop c.args.piece.now.pace.batch c.cost.result c.in_ok-costs.costs.items c.anneal_all.new.costs.items old mid more new
    c.requires.fresh all.same all.made c.cost.ensures c.in_ok-costs.ensures.costs told c.finish_report.result end.ending end.array end.sites end.legal end.moves end.costs end.told

pub returns-clause-cut : goal.returns-clause-cut
returns-clause-cut g c =
    let old = g.W.Sink.contents c.args.report.now in
    let mid = g.W.Sink.contents c.write_head.new.report in
    let more = g.W.Sink.contents c.anneal_all.new.report in
    let new = g.W.Sink.contents c.finish_report.new.report in
    let told = subst (λ l. Appends old mid l) c.deref.ensures.value c.in_ok-costs.ensures.told in
    let all = c.in_ok-anneal_all.ensures in
    cut_piece g.K.Keeping.again c.args.anneal c.anneal_all.new.anneal c.args.piece.now.head.items c.args.piece.now.pace.stop c.args.piece.now.pace.batch c.in_ok-costs.costs.items c.anneal_all.new.costs.items old mid more new
    all.same all.made told c.finish_report.result c.finish_report.ensures.cut

pub returns-clause-short : goal.returns-clause-short
returns-clause-short g c =
    let old = g.W.Sink.contents c.args.report.now in
    let mid = g.W.Sink.contents c.write_head.new.report in
    let more = g.W.Sink.contents c.anneal_all.new.report in
    let new = g.W.Sink.contents c.finish_report.new.report in
    let told = subst (λ l. Appends old mid l) c.deref.ensures.value c.in_ok-costs.ensures.told in
    let all = c.in_ok-anneal_all.ensures in
    short_piece g.K.Keeping.again c.args.anneal c.anneal_all.new.anneal c.args.piece.now.head.items c.args.piece.now.pace.stop c.args.piece.now.pace.batch c.in_ok-costs.costs.items c.anneal_all.new.costs.items old mid more new
    all.same all.made told c.finish_report.result c.finish_report.ensures.short

pub returns-in_err-costs-clause-shown_cut : goal.returns-in_err-costs-clause-shown_cut
returns-in_err-costs-clause-shown_cut g c =
    let p = piece_of stream_moves c.args.anneal c.args.piece.now.head.items c.args.piece.now.pace.stop in
    let fact = none_shown p c.args.piece.now.pace.batch c.args.shower.now.shown in
    search (rules, fact)

pub returns-in_err-anneal_all-clause-shown_cut : goal.returns-in_err-anneal_all-clause-shown_cut
returns-in_err-anneal_all-clause-shown_cut g c =
    let p = piece_of stream_moves c.args.anneal c.args.piece.now.head.items c.args.piece.now.pace.stop in
    let fact = part_begun p c.args.piece.now.pace.batch c.args.shower.now.shown c.anneal_all.new.shower.shown c.in_err-anneal_all.ensures.shown_cut in
    search (rules, fact)

pub returns-clause-shown : goal.returns-clause-shown
returns-clause-shown g c =
    let p = piece_of stream_moves c.args.anneal c.args.piece.now.head.items c.args.piece.now.pace.stop in
    let made = c.in_ok-anneal_all.ensures.made in
    let fact : AreShown p c.args.piece.now.pace.batch c.args.shower.now.shown c.anneal_all.new.shower.shown =
    whole_shown p c.args.piece.now.pace.batch made.count c.anneal_all.new.anneal.standing c.args.shower.now.shown c.anneal_all.new.shower.shown made.piece made.stands made.done c.in_ok-anneal_all.ensures.shown in
    search (rules, fact)

pub returns-clause-shown_cut : goal.returns-clause-shown_cut
returns-clause-shown_cut g c =
    let p = piece_of stream_moves c.args.anneal c.args.piece.now.head.items c.args.piece.now.pace.stop in
    let made = c.in_ok-anneal_all.ensures.made in
    let whole : AreShown p c.args.piece.now.pace.batch c.args.shower.now.shown c.anneal_all.new.shower.shown =
    whole_shown p c.args.piece.now.pace.batch made.count c.anneal_all.new.anneal.standing c.args.shower.now.shown c.anneal_all.new.shower.shown made.piece made.stands made.done c.in_ok-anneal_all.ensures.shown in
    let fact = part_whole p c.args.piece.now.pace.batch c.args.shower.now.shown c.anneal_all.new.shower.shown whole in
    search (rules, fact)

pub finish_report-requires-clause-room : goal.finish_report-requires-clause-room
finish_report-requires-clause-room g c = room_later c.args.anneal c.anneal_all.new.anneal c.in_ok-room.room c.in_ok-anneal_all.ensures.same c.in_ok-room.ensures.room

pub finish_report-requires-clause-none : goal.finish_report-requires-clause-none
finish_report-requires-clause-none g c none =
    let made = c.in_ok-anneal_all.ensures.made in
    over_without (run_of stream_moves c.args.anneal) c.args.anneal.standing c.anneal_all.new.anneal.standing c.args.piece.now.pace.stop made.count made.piece made.stands (c.in_ok-room.ensures.none none)

pub returns-in_err-room-clause-cut : goal.returns-in_err-room-clause-cut
returns-in_err-room-clause-cut g c =
    let p = piece_of stream_moves c.args.anneal c.args.piece.now.head.items c.args.piece.now.pace.stop in
    let old = g.W.Sink.contents c.args.report.now in
    let fact = cut_head p old old (0, appends_none old) in
    search (rules, fact)

pub returns-in_err-room-clause-shown_cut : goal.returns-in_err-room-clause-shown_cut
returns-in_err-room-clause-shown_cut g c =
    let p = piece_of stream_moves c.args.anneal c.args.piece.now.head.items c.args.piece.now.pace.stop in
    let fact = none_shown p c.args.piece.now.pace.batch c.args.shower.now.shown in
    search (rules, fact)
