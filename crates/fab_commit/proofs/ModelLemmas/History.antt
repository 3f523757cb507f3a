-- The world's log and verdicts are those of one move at a time.
use Rattle.std.proofs.Common.{◌≡◌, ℕ, zero, suc, ◌+◌, ◌-◌, ◌≤◌, Bool, true, false, cond, not, ◌&&◌, ◌==◌, List, [], ◌∷◌, ◌++◌, Option, Some, None, refl, sym, ap, ◌∙◌, arith, append_assoc, append-nil}
use Rattle.std.specs.Prelude.{nat_lt}
use Rattle.std.specs.List.{All}
use Rattle.std.proofs.lemmas.Bool.{ltb-true}
use Rattle.std.proofs.lemmas.List.Elements.{All-filter, All-push, All-nil}
use Rattle.fab_commit.specs.declared.model.events.Event.{Event}
use Rattle.fab_commit.specs.declared.model.events.Event.TheVariants.{Claim, Judge, Lose, Commit, Refresh}
use Rattle.fab_commit.specs.Serial.{Run, Standing, judged_here, step, from}
use Rattle.fab_commit.specs.declared.model.judged.JudgedMove.{JudgedMove}
use Rattle.fab_commit.specs.Model.World.{World, world, clash, end, accepted_now, is_last, claimed, claimed_by, claim_of, first_free, open_numbers, judged_claim, verdict, lost, usable, verdict_here, answer, can_commit, commit, happens, run_through}
use Rattle.fab_commit.specs.Model.History.{accepted_at, accepted_from, is_redone}
use Rattle.fab_commit.proofs.ModelLemmas.Schedules.{Inv, from-add, commit_live, answered, happens_inv, stage_open}

pub accepted_from-add : (p : Run) (x : Standing) (m n : ℕ) → accepted_from p x m ++ accepted_from p (from p x m) n ≡ accepted_from p x (m + n)
accepted_from-add p x zero n = let e : n ≡ zero + n = omega arith in ap (accepted_from p x) e
accepted_from-add p x (suc m) n =
    let e : suc (m + n) ≡ suc m + n = omega arith in
    append_assoc (accepted_at p x) (accepted_from p (step p x) m) (accepted_from p (from p (step p x) m) n)
    ∙ ap (λ l. accepted_at p x ++ l) (accepted_from-add p (step p x) m n)
    ∙ ap (accepted_from p x) e

abbrev pub IsOf : Run → Standing → JudgedMove → Type 0
IsOf p x v = (x.done ≤ v.base) × (v.judged ≡ judged_here p (from p x (v.base - x.done)) v.number)

-- m moves after x
pub record Hist (p : Run) (x : Standing) (w : World) : Type 0 where
  pub moves : ℕ
  pub older_moves : ℕ
  pub done : w.live.done ≡ x.done + moves
  pub live : w.live ≡ from p x moves
  pub log : w.accepted ≡ accepted_from p x moves
  pub older_done : w.older.done ≡ x.done + older_moves
  pub older : w.older ≡ from p x older_moves
  pub verdicts : All (IsOf p x) w.verdicts

pub start_hist : (p : Run) (x : Standing) → Hist p x (world x)
start_hist p x = record {
  moves = 0;
  older_moves = 0;
  done = omega arith;
  live = refl;
  log = refl;
  older_done = omega arith;
  older = refl;
  verdicts = All-nil (IsOf p x);
}

claimed_hist : (p : Run) (x : Standing) (w : World) (worker : ℕ) (o : Option ℕ) → Hist p x w → Hist p x (claimed w worker o)
claimed_hist p x w worker None h = h
claimed_hist p x w worker (Some k) h = record { moves = h.moves; older_moves = h.older_moves; done = h.done; live = h.live; log = h.log; older_done = h.older_done; older = h.older; verdicts = h.verdicts }

claimed_by_hist : (p : Run) (x : Standing) (w : World) (worker : ℕ) (o : Option ℕ) → Hist p x w → Hist p x (claimed_by p w worker o)
claimed_by_hist p x w worker None h = claimed_hist p x w worker (first_free w.claims w.verdicts (open_numbers p w)) h
claimed_by_hist p x w worker (Some k) h = h

judged_claim_hist : (p : Run) (x : Standing) (w : World) (worker : ℕ) (o : Option ℕ) → Hist p x w → Hist p x (judged_claim p w worker o)
judged_claim_hist p x w worker None h = h
judged_claim_hist p x w worker (Some k) h =
    let n : w.older.done - x.done ≡ h.older_moves = (let e = h.older_done in omega (arith, e)) in
    let low : x.done ≤ w.older.done = (let e = h.older_done in omega (arith, e)) in
    let is : judged_here p w.older k ≡ judged_here p (from p x (w.older.done - x.done)) k =
    ap (λ (y : Standing). judged_here p y k) (h.older ∙ ap (from p x) (sym n)) in
    record {
      moves = h.moves;
      older_moves = h.older_moves;
      done = h.done;
      live = h.live;
      log = h.log;
      older_done = h.older_done;
      older = h.older;
      verdicts =
          elim (nat_lt k w.live.done) as (λ b. All (IsOf p x) (cond b w.verdicts (w.verdicts ++ verdict p w worker k ∷ []))) [
            | true ↦ h.verdicts
            | false ↦ All-push (IsOf p x) w.verdicts (verdict p w worker k) h.verdicts (low, is)
          ];
    }

lost_hist : (p : Run) (x : Standing) (w : World) (worker : ℕ) (o : Option ℕ) → Hist p x w → Hist p x (lost w worker o)
lost_hist p x w worker None h = record {
  moves = h.moves;
  older_moves = h.older_moves;
  done = h.done;
  live = h.live;
  log = h.log;
  older_done = h.older_done;
  older = h.older;
  verdicts = All-filter (λ (v : JudgedMove). not (v.worker == worker && is_last worker w.verdicts v.number)) (IsOf p x) w.verdicts h.verdicts;
}
lost_hist p x w worker (Some k) h = record { moves = h.moves; older_moves = h.older_moves; done = h.done; live = h.live; log = h.log; older_done = h.older_done; older = h.older; verdicts = h.verdicts }

commit_hist : (p : Run) (x : Standing) (w : World) → Inv p w → can_commit p w ≡ true → Hist p x w → Hist p x (commit p w)
commit_hist p x w inv before h =
    let j = judged_here p w.live w.live.done in
    let here : accepted_now w.live.done (answer p w (usable p w (verdict_here w))) ≡ accepted_at p (from p x h.moves) =
    ap (accepted_now w.live.done) (answered p w inv)
    ∙ ap (λ b. cond b (accepted_now w.live.done j) []) (sym (stage_open p w inv (ltb-true w.live.done (end p w) before)))
    ∙ ap (accepted_at p) h.live in
    record {
      moves = h.moves + 1;
      older_moves = h.older_moves;
      done = (let e = h.done in omega (arith, e));
      live = commit_live p w inv before ∙ ap (step p) h.live ∙ from-add p x h.moves 1;
      log = (λ i. h.log i ++ (here ∙ sym (append-nil (accepted_at p (from p x h.moves)))) i) ∙ accepted_from-add p x h.moves 1;
      older_done = h.older_done;
      older = h.older;
      verdicts = All-filter (λ (v : JudgedMove). not (v.number == w.live.done)) (IsOf p x) w.verdicts h.verdicts;
    }

happens_hist : (p : Run) (x : Standing) (w : World) (e : Event) → Inv p w → Hist p x w → Hist p x (happens p w e)
happens_hist p x w (Claim worker) inv h = claimed_by_hist p x w worker (claim_of worker w.claims) h
happens_hist p x w (Judge worker) inv h = judged_claim_hist p x w worker (claim_of worker w.claims) h
happens_hist p x w (Lose worker) inv h = lost_hist p x w worker (claim_of worker w.claims) h
happens_hist p x w Commit inv h = commit_or_not (can_commit p w) refl
  where
    commit_or_not : (b : Bool) → can_commit p w ≡ b → Hist p x (cond b (commit p w) w)
    commit_or_not true e = commit_hist p x w inv e h
    commit_or_not false e = h
happens_hist p x w Refresh inv h = record { moves = h.moves; older_moves = h.moves; done = h.done; live = h.live; log = h.log; older_done = h.done; older = h.live; verdicts = h.verdicts }

pub run_hist : (p : Run) (x : Standing) (w : World) (events : List Event) → Inv p w → Hist p x w → Hist p x (run_through p w events)
run_hist p x w [] inv h = h
run_hist p x w (e ∷ events) inv h = run_hist p x (happens p w e) events (happens_inv p w e inv) (happens_hist p x w e inv h)

-- whether the verdict for the next move can still be used: what one move at a time says of it
pub redone_is : (p : Run) (x : Standing) (w : World) (v : JudgedMove) → Hist p x w → IsOf p x v → v.number ≡ w.live.done
    → clash p.problem.design w.accepted v.base v.judged.footprint ≡ is_redone p x v.base w.live.done
redone_is p x w v h is here =
    let n : h.moves ≡ w.live.done - x.done = (let e = h.done in omega (arith, e)) in
    let log : w.accepted ≡ accepted_from p x (w.live.done - x.done) = h.log ∙ ap (accepted_from p x) n in
    let same : v.judged ≡ judged_here p (from p x (v.base - x.done)) w.live.done = is.1 ∙ ap (judged_here p (from p x (v.base - x.done))) here in
    λ i. clash p.problem.design (log i) v.base (same i).footprint
