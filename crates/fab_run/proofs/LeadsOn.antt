-- What moves of a stage come to, whoever judged them.
use Rattle.std.proofs.Common.{◌≡◌, ℕ, ◌-◌, ◌++◌, Bool, true, List, Result, Ok, Err, ap, subst, ◌∙◌, arith}
use Rattle.std.specs.declared.alloc.AllocError.{AllocError}
use Rattle.fab_dial.specs.declared.readings.Reading.{Reading}
use Rattle.fab_commit.specs.Serial.{accepted_among, from, moves_left}
use Rattle.fab_commit.specs.Run.Stages.{IsMade, IsMadeByTurns}
use Rattle.fab_commit.specs.Run.Commits.{AnnealOf, run_of}
use Rattle.fab_run.specs.Shown.{LeadsShownWithin}
use Rattle.fab_run.specs.Stages.{LeadsOn}

pub leads_on : {W A : Type 0} (moves : W → ℕ → List ℕ) (again : Bool) (batch count : ℕ) (a b : AnnealOf W) (answer : Result A AllocError) (old new : List Reading) → IsMade moves batch count a b answer old new
    → (again ≡ true → IsMadeByTurns moves batch count a b answer old new) → LeadsOn moves again batch count a b answer old new
leads_on moves again batch count a b (Ok v) old new made by =
    let done = made.ok in
    let all : b.standing.done - a.standing.done ≡ count = omega (arith, done) in
    record {
      same = made.same;
      done = done;
      stands = made.stands ∙ ap (from (run_of moves a) a.standing) all;
      accepted = made.accepted ∙ ap (λ n. a.accepted ++ accepted_among (run_of moves a) a.standing n) all;
      counted = λ e. record { on = (by e).counted };
      ends = record { on = made.ends };
      turns = λ e whole. (by e).by_turns whole;
      shown = λ whole. record { on = made.shown whole };
      shown_cut = tt;
    }
leads_on moves again batch count a b (Err e) old new made by =
    record {
      same = made.same;
      done = tt;
      stands = tt;
      accepted = tt;
      counted = tt;
      ends = tt;
      turns = tt;
      shown = tt;
      shown_cut = record { there = b.standing; near = made.within.1; leads = record { on = made.shown_cut } };
    }

-- memory ran out, and so there is no other answer either
pub leads_err : {W A B : Type 0} (moves : W → ℕ → List ℕ) (again : Bool) (batch count all : ℕ) (a b : AnnealOf W) (e f : AllocError) (old new : List Reading) → LeadsOn {A = A} moves again batch count a b (Err e) old new → count ≡ all → LeadsOn {A = B} moves again batch all a b (Err f) old new
leads_err moves again batch count all a b e f old new on n = record {
  same = on.same;
  done = tt;
  stands = tt;
  accepted = tt;
  counted = tt;
  ends = tt;
  turns = tt;
  shown = tt;
  shown_cut = subst (λ k. LeadsShownWithin (run_of moves a) batch a.standing k old new) n on.shown_cut;
}

-- all moves were made, and then memory ran out
pub leads_cut : {W A B : Type 0} (moves : W → ℕ → List ℕ) (again : Bool) (batch count : ℕ) (a b : AnnealOf W) (v : A) (e : AllocError) (old new : List Reading) → LeadsOn moves again batch count a b (Ok v) old new
    → count ≡ moves_left (run_of moves a) a.standing → LeadsOn {A = B} moves again batch count a b (Err e) old new
leads_cut moves again batch count a b v e old new on whole =
    let done = on.done in
    record {
      same = on.same;
      done = tt;
      stands = tt;
      accepted = tt;
      counted = tt;
      ends = tt;
      turns = tt;
      shown = tt;
      shown_cut = record { there = b.standing; near = omega (arith, done); leads = on.shown whole };
    }

-- the same moves, with another answer
pub leads_as : {W A B : Type 0} (moves : W → ℕ → List ℕ) (again : Bool) (batch count : ℕ) (a b : AnnealOf W) (v : A) (w : B) (old new : List Reading) → LeadsOn moves again batch count a b (Ok v) old new → LeadsOn moves again batch count a b (Ok w) old new
leads_as moves again batch count a b v w old new on = record {
  same = on.same;
  done = on.done;
  stands = on.stands;
  accepted = on.accepted;
  counted = on.counted;
  ends = on.ends;
  turns = on.turns;
  shown = on.shown;
  shown_cut = tt;
}

-- all moves were made, and then memory may have run out
pub leads_either : {W A B : Type 0} (moves : W → ℕ → List ℕ) (again : Bool) (batch count : ℕ) (a b : AnnealOf W) (v : A) (answer : Result B AllocError) (old new : List Reading) → LeadsOn moves again batch count a b (Ok v) old new
    → count ≡ moves_left (run_of moves a) a.standing → LeadsOn moves again batch count a b answer old new
leads_either moves again batch count a b v (Ok w) old new on whole = leads_as moves again batch count a b v w old new on
leads_either moves again batch count a b v (Err e) old new on whole = leads_cut moves again batch count a b v e old new on whole
