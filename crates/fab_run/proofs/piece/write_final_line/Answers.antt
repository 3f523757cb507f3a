use Rattle.std.proofs.Common.{◌≡◌, subst, sym, ◌∙◌, rules}
use Rattle.std.specs.Io.KnownBytes.{Appends}
use Rattle.fab_move.specs.Stream.{stream_moves}
use Rattle.fab_commit.specs.Run.Commits.{run_of}
use Rattle.fab_run.specs.RunReport.{final_line}
use Rattle.fab_run.specs.Piece.{end_line}
use Rattle.fab_run.specs.Ends.{IsBegun}
use Rattle.fab_run.proofs.Telling.{appends_none}
use Rattle.fab_run.proofs.Whole.{an_end, no_end}
use Rattle.fab_run.proofs.piece.write_final_line.Goals as goal

pub returns-then-is_some-clause-told : goal.returns-then-is_some-clause-told
returns-then-is_some-clause-told g c =
    let none = no_end (run_of stream_moves c.args.anneal.now) c.args.anneal.now.standing (rw (← c.stage.ensures) (sym c.is_some.ensures ∙ c.if-is_some.true)) in
    subst (λ l. Appends (g.W.Sink.contents c.args.report.now) (g.W.Sink.contents c.args.report.now) l) (sym none) (appends_none (g.W.Sink.contents c.args.report.now))

pub returns-in_err-write_whole-clause-cut : goal.returns-in_err-write_whole-clause-cut
returns-in_err-write_whole-clause-cut g c =
    let last = an_end (run_of stream_moves c.args.anneal.now) c.args.anneal.now.standing (rw (← c.stage.ensures) (sym c.is_some.ensures ∙ c.if-is_some.false)) in
    let line : c.deref.result.now ≡ end_line (run_of stream_moves c.args.anneal.now) c.args.anneal.now.standing = c.deref.ensures.value ∙ c.in_ok-line.ensures ∙ (λ i. final_line (c.cost.ensures i) (c.total.ensures i) (c.done.ensures.value i)) ∙ sym last in
    let begun = c.in_err-write_whole.ensures.beginning in
    let fact : IsBegun (g.W.Sink.contents c.args.report.now) (g.W.Sink.contents c.write_whole.new.out) (end_line (run_of stream_moves c.args.anneal.now) c.args.anneal.now.standing) = subst (λ l. IsBegun (g.W.Sink.contents c.args.report.now) (g.W.Sink.contents c.write_whole.new.out) l) line (begun.0, begun.2) in
    search (rules, fact)

pub returns-clause-told : goal.returns-clause-told
returns-clause-told g c =
    let last = an_end (run_of stream_moves c.args.anneal.now) c.args.anneal.now.standing (rw (← c.stage.ensures) (sym c.is_some.ensures ∙ c.if-is_some.false)) in
    let line : c.deref.result.now ≡ end_line (run_of stream_moves c.args.anneal.now) c.args.anneal.now.standing = c.deref.ensures.value ∙ c.in_ok-line.ensures ∙ (λ i. final_line (c.cost.ensures i) (c.total.ensures i) (c.done.ensures.value i)) ∙ sym last in
    subst (λ l. Appends (g.W.Sink.contents c.args.report.now) (g.W.Sink.contents c.write_whole.new.out) l) line c.in_ok-write_whole.ensures.whole
