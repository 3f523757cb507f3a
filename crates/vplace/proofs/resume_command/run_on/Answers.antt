use Rattle.std.proofs.Common.{◌≡◌, inr, subst, sym, Some}
use Rattle.std.specs.Prelude.{IfSome}
use Rattle.std.proofs.lemmas.Result.{err_from_is_err_and}
use Rattle.fab_text.specs.Lines.{lines}
use Rattle.fab_commit.specs.Run.Points.{IsPoint}
use Rattle.fab_run.specs.RunChecks.{IsRefusal}
use Rattle.fab_run.proofs.Whole.{begun_whole}
use Rattle.fab_run.specs.Counted.{answer_by_count}
use Rattle.fab_run.specs.Ends.{Piece}
use Rattle.fab_run.specs.PointMeaning.{StandsForPoint}
use Rattle.fab_run.specs.PointText.{point_text}
use Rattle.fab_run.specs.Setting.{texts_of}
use Rattle.vplace.specs.declared.kept.Kept.{Kept}
use Rattle.vplace.specs.Leaving.{IsCheckpoint}
use Rattle.vplace.proofs.Stopping.{point_of_stopped, text_of_kept, writable}
use Rattle.vplace.proofs.resume_command.run_on.Goals as goal

pub returns-in_err-ending-clause-only : goal.returns-in_err-ending-clause-only
returns-in_err-ending-clause-only g c s going =
    let p = err_from_is_err_and c.from_residual.result c.from_residual.ensures.1 in
    rw p.1 (λ refusal. c.in_err-ending.ensures.only s going (subst IsRefusal p.2 refusal))

-- the whole report had gone out
pub returns-in_err-text_of-in-Some-clause-cut : goal.returns-in_err-text_of-in-Some-clause-cut
returns-in_err-text_of-in-Some-clause-cut g c =
    let h = c.in_ok-ending.ensures.headline.2 in
    let p = err_from_is_err_and c.from_residual-in_err-text_of-in-Some.result c.from_residual-in_err-text_of-in-Some.ensures.1 in
    rw p.1 (inr (h.0, h.1, begun_whole h.0 _ _ _ h.2.told))

pub text_of-requires : goal.text_of-requires
text_of-requires g c =
    let h = c.in_ok-ending.ensures.headline.2 in
    let s = h.1.0 in
    let q = c.in-Stopped.point in
    let k = c.in-Some.kept in
    let a = answer_by_count c.in_ok-ending.field-0 c.in_ok-ending.ensures.headline.0 in
    let point : IsPoint s.design s.grid q = subst (λ (p : Piece). IsPoint p.run.problem.design p.run.problem.grid q) h.1.2 (point_of_stopped h.0 h.2.told.moves a q h.2.told.annealed c.in-Stopped.is) in
    let kept = subst (λ x. IfSome x (λ (k : Kept). (k.seed ≡ s.seed) × (k.design ≡ s.design) × (k.grid ≡ s.grid))) c.in-Some.is (c.requires.kept s h.1.1.text) in
    writable s.design k.design s.grid k.grid q kept.1 kept.2 h.1.1.text.stands.array.holds point

pub returns-in-Some-clause-placed : goal.returns-in-Some-clause-placed
returns-in-Some-clause-placed g c =
    let h = c.in_ok-ending.ensures.headline.2 in
    let s = h.1.0 in
    let q = c.in-Stopped.point in
    let k = c.in-Some.kept in
    let a = answer_by_count c.in_ok-ending.field-0 c.in_ok-ending.ensures.headline.0 in
    let point : IsPoint s.design s.grid q = subst (λ (p : Piece). IsPoint p.run.problem.design p.run.problem.grid q) h.1.2 (point_of_stopped h.0 h.2.told.moves a q h.2.told.annealed c.in-Stopped.is) in
    let t = texts_of c.args.inputs.now in
    let text = c.in_ok-text_of-in-Some.field-0.items in
    let kept = subst (λ x. IfSome x (λ (k : Kept). (k.seed ≡ s.seed) × (k.design ≡ s.design) × (k.grid ≡ s.grid))) c.in-Some.is (c.requires.kept s h.1.1.text) in
    let exact = subst (λ n. text ≡ point_text n k.design k.grid q) kept.0 c.in_ok-text_of-in-Some.ensures.exact in
    let stands = subst (λ n. StandsForPoint k.grid.io_rat k.design (lines text) n k.grid q) kept.0 c.in_ok-text_of-in-Some.ensures.back in
    let saved = text_of_kept t s.seed s.design k.design s.grid k.grid q text h.1.1.text.mean kept.1 kept.2 point.array exact stands in
    (s, h.1.1.text, (a, h, subst (λ e. IsCheckpoint t s.seed e (Some text)) (sym c.in-Stopped.is) saved))
