-- What a piece answers and leaves, said of the piece that is asked for.
use Rattle.std.proofs.Common.{◌≡◌, ◌≢◌, ℕ, ◌⊎◌, Bool, true, List, Option, Some, refl, sym, ap, subst, ◌∙◌, inl, inr}
use Rattle.std.specs.Prelude.{Result, Ok, Err, IfOk, IfErr, OnErr}
use Rattle.fab_file.specs.declared.fault.PlaceFault.TheVariants.{Write}
use Rattle.fab_run.specs.Check.{IsTextFault, report_failed_with}
use Rattle.fab_commit.specs.Run.Noted.{noted}
use Rattle.fab_run.specs.Counted.{Answers, Counts}
use Rattle.fab_run.specs.Ends.{Answer, AreRedone, IsReportCutOf, IsReportOf, Piece, answer_of}
use Rattle.fab_run.specs.Placed.{IsDeviceFault, IsMade, IsPlaced, IsTextCut, IsUnreadyFor}
use Rattle.fab_run.specs.RunChecks.{IsRefusal, place_failed_with}
use Rattle.fab_run.specs.CutShort.{IsCutShort}
use Rattle.fab_run.specs.Setting.{Texts}
use Rattle.fab_run.specs.declared.fault.RunFault.{RunFault}
use Rattle.fab_run.specs.declared.fault.RunFault.TheVariants.{Place, Report, NoMemory}
use Rattle.fab_run.specs.declared.run_answer.Ended.{Ended}
use Rattle.fab_run.specs.declared.inputs.CountedOutcome.{CountedOutcome}
use Rattle.fab_run.specs.declared.inputs.Outcome.{Outcome}

abbrev pub Answered : Type 0
Answered = Result Ended RunFault

pub made_asked : (keeps : Bool) (Asked : Piece → Type 0) (t : Texts) (p : Piece) (r : Answered) (report_old report_new place_old place_new : Option (List ℕ)) → Asked p
    → IfOk r (λ out. Answers keeps out (λ a. IsMade t p a report_old report_new place_old place_new)) → IfOk r (λ out. Answers keeps out (λ a. IsPlaced Asked t a report_old report_new place_old place_new))
made_asked keeps Asked t p (Ok out) report_old report_new place_old place_new asked made = (made.0, made.1, (p, asked, made.2))
made_asked keeps Asked t p (Err e) report_old report_new place_old place_new asked made = tt

-- with its numbers, an answer is what they make of it
pub with_numbers : (Is : Answer → Type 0) (e : Ended) (o : Outcome) → o.ending ≡ e.ending → o.placement ≡ e.placement → Some o.accepted.items ≡ noted e.numbers → o.costs ≡ e.costs → Answers true e Is → Is (answer_of o)
with_numbers Is e o ending placement numbers costs told =
    let both : Some o.accepted.items ≡ Some (told.0) = numbers ∙ told.1.kept in
    let same : o.accepted.items ≡ told.0 = (let k = both in cc) in
    subst Is (λ i. record { ending = sym ending i; placement = sym placement i; accepted = sym same i; costs = (sym costs i).items }) told.2

-- with their count alone, it is one that has so many
pub by_count : (Is : Answer → Type 0) (keeps : Bool) (e : Ended) (o : CountedOutcome) → o.ending ≡ e.ending → o.placement ≡ e.placement → o.accepted ≡ e.accepted → o.costs ≡ e.costs → Answers keeps e Is → Counts o Is
by_count Is keeps e o ending placement accepted costs told =
    (told.0, accepted ∙ told.1.count, subst Is (λ i. record { ending = sym ending i; placement = sym placement i; accepted = told.0; costs = (sym costs i).items }) told.2)

pub redone_asked : (again : Bool) (Asked : Piece → Type 0) (p : Piece) (batch : ℕ) (r : Answered) → Asked p → IfOk r (λ out. again ≡ true → AreRedone p batch out.redone)
    → IfOk r (λ out. (q : Piece) × Asked q × (again ≡ true → AreRedone q batch out.redone))
redone_asked again Asked p batch (Ok out) asked redone = (p, asked, redone)
redone_asked again Asked p batch (Err e) asked redone = tt

-- one of three faults
pub by_device : (P : RunFault → Type 0) (a b c d : ℕ) (e : RunFault) → P NoMemory → P Report → P (Place Write) → IsDeviceFault a b c d e → P e
by_device P a b c d e memory report place (inl h) = elim (h.0) [ inl q ↦ subst P (sym q.0) memory | inr q ↦ subst P (sym q.0) report ]
by_device P a b c d e memory report place (inr h) = subst P (sym h.0) place

pub fault_of_device : (P : RunFault → Type 0) (a b c d : ℕ) (r : Answered) → P NoMemory → P Report → P (Place Write) → IfErr r (IsDeviceFault a b c d) → IfErr r P
fault_of_device P a b c d (Ok out) memory report place h = tt
fault_of_device P a b c d (Err e) memory report place h = by_device P a b c d e memory report place h

failed_by : (a b c d : ℕ) (e : RunFault) → IsDeviceFault a b c d e → (b ≡ report_failed_with e a) × (d ≡ place_failed_with e c)
failed_by a b c d e (inl h) =
    elim (h.0) [
      | inl q ↦ (q.1 ∙ ap (λ f. report_failed_with f a) (sym q.0), h.1 ∙ ap (λ f. place_failed_with f c) (sym q.0))
      | inr q ↦ (q.1 ∙ ap (λ f. report_failed_with f a) (sym q.0), h.1 ∙ ap (λ f. place_failed_with f c) (sym q.0))
    ]
failed_by a b c d e (inr h) = (h.1 ∙ ap (λ f. report_failed_with f a) (sym h.0), h.2 ∙ ap (λ f. place_failed_with f c) (sym h.0))

pub failed_of_device : (a b c d : ℕ) (r : Answered) → IfErr r (IsDeviceFault a b c d) → IfErr r (λ e. (b ≡ report_failed_with e a) × (d ≡ place_failed_with e c))
failed_of_device a b c d (Ok out) h = tt
failed_of_device a b c d (Err e) h = failed_by a b c d e h

-- a fault of the texts or a lack of memory leaves everything as it was
pub nothing_written : (Asked : Piece → Type 0) (t : Texts) (may_be_unready : Bool) (report place : Option (List ℕ)) (e : RunFault) → IsTextFault e → IsCutShort Asked t may_be_unready report report place place e
nothing_written Asked t may_be_unready report place e text =
    record {
      silent = λ h. refl;
      begun = inl refl;
      report = λ q. absurd (subst IsTextFault q text);
      unplaced = λ h. refl;
      place = λ q. absurd (subst IsTextFault q text);
    }

-- what a piece leaves, said of the piece that is asked for
pub short_asked : (Asked : Piece → Type 0) (t : Texts) (may_be_unready : Bool) (p : Piece) (a b c d : ℕ) (r : Answered) (report_old report_new place_old place_new : Option (List ℕ)) → Asked p
    → IfErr r (IsDeviceFault a b c d)
    → OnErr r (IsReportOf p report_old report_new)
    → IfErr r (λ e. e ≡ Report → IsReportCutOf p report_old report_new)
    → IfErr r (λ e. e ≢ Place Write → place_new ≡ place_old)
    → IfErr r (λ e. e ≡ Place Write → IsUnreadyFor may_be_unready p report_old report_new place_old place_new ⊎ IsTextCut t p report_old report_new place_old place_new)
    → IfErr r (IsCutShort Asked t may_be_unready report_old report_new place_old place_new)
short_asked Asked t may_be_unready p a b c d (Ok out) report_old report_new place_old place_new asked fault begun report unplaced place = tt
short_asked Asked t may_be_unready p a b c d (Err e) report_old report_new place_old place_new asked fault begun report unplaced place =
    record {
      silent = by_device (λ f. IsRefusal f → report_new ≡ report_old) a b c d e (λ h. absurd h) (λ h. absurd h) (λ h. absurd h) fault;
      begun = inr (p, asked, begun);
      report = λ q. (p, asked, report q);
      unplaced = unplaced;
      place = λ q. (p, asked, place q);
    }
