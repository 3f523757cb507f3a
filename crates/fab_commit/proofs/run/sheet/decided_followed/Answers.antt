use Rattle.std.proofs.Common.{sym, ap, subst, ◌∙◌, arith}
use Rattle.std.specs.Prelude.{nat_lt}
use Rattle.std.specs.List.{list_any}
use Rattle.fab_move.specs.declared.verdicts.Decision.{Decision}
use Rattle.fab_move.specs.Judge.{IsDecision}
use Rattle.fab_commit.specs.Serial.{judged_here}
use Rattle.fab_commit.specs.Run.Commits.{run_for}
use Rattle.fab_move.specs.StampTables.{kept_stamp}
use Rattle.fab_commit.proofs.ModelLemmas.Happening.{taken_lawful}
use Rattle.fab_commit.proofs.RunLemmas.Followed.{told}
use Rattle.fab_commit.proofs.run.sheet.decided_followed.Goals as goal

pub returns-then-again-clause-again : goal.returns-then-again-clause-again
returns-then-again-clause-again g c =
    let r = run_for g.W.Words.moves c.args.given.now in
    let o = c.args.owner.now in
    let due = c.requires.due.0 in
    let moves = c.requires.plan.moves in
    let is = c.requires.due.1 in
    sym c.if-again.true ∙ c.is_touched-again.ensures ∙ ap (list_any (λ m. nat_lt c.args.base (kept_stamp r.problem.grid o.stamps m))) is.marks ∙ (told r o c.args.base (omega (arith, moves)) c.requires.owned due).touch

pub returns-else-again-clause-again : goal.returns-else-again-clause-again
returns-else-again-clause-again g c =
    let r = run_for g.W.Words.moves c.args.given.now in
    let o = c.args.owner.now in
    let due = c.requires.due.0 in
    let moves = c.requires.plan.moves in
    let is = c.requires.due.1 in
    sym c.if-again.false ∙ c.is_touched-again.ensures ∙ ap (list_any (λ m. nat_lt c.args.base (kept_stamp r.problem.grid o.stamps m))) is.marks ∙ (told r o c.args.base (omega (arith, moves)) c.requires.owned due).touch

pub returns-else-again-clause-lawful : goal.returns-else-again-clause-lawful
returns-else-again-clause-lawful g c = λ s e.
    let r = run_for g.W.Words.moves c.args.given.now in
    let o = c.args.owner.now in
    let due = c.requires.due.0 in
    let moves = c.requires.plan.moves in
    let is = c.requires.due.1 in
    let free = sym (ap (list_any (λ m. nat_lt c.args.base (kept_stamp r.problem.grid o.stamps m))) is.marks) ∙ sym c.is_touched-again.ensures ∙ c.if-again.false in
    let fresh = (told r o c.args.base (omega (arith, moves)) c.requires.owned due).fresh free in
    taken_lawful r o.state (judged_here r due.start o.state.done) o.state.done c.requires.owned.sound fresh (λ z h. is.kind z (is.decides.swap ∙ h)) s (sym is.decides.swap ∙ ap (λ (d : Decision). d.swap) (sym c.decision.ensures) ∙ e)

pub returns-else-again-clause-decides : goal.returns-else-again-clause-decides
returns-else-again-clause-decides g c =
    let r = run_for g.W.Words.moves c.args.given.now in
    let o = c.args.owner.now in
    let due = c.requires.due.0 in
    let moves = c.requires.plan.moves in
    let is = c.requires.due.1 in
    let free = sym (ap (list_any (λ m. nat_lt c.args.base (kept_stamp r.problem.grid o.stamps m))) is.marks) ∙ sym c.is_touched-again.ensures ∙ c.if-again.false in
    let fresh = (told r o c.args.base (omega (arith, moves)) c.requires.owned due).fresh free in
    subst (IsDecision c.decision.result) fresh (subst (λ d. IsDecision d (judged_here r due.start o.state.done)) (sym c.decision.ensures) is.decides)
