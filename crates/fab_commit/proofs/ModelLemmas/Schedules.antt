-- What every event keeps of the world.
use Rattle.std.proofs.Common.{◌≡◌, ◌≢◌, ℕ, zero, suc, ◌+◌, ◌-◌, ◌*◌, ◌/◌, ◌%◌, ◌<◌, ◌≤◌, Bool, true, false, not, cond, ◌&&◌, ◌||◌, ◌==◌, List, [], ◌∷◌, ◌++◌, Option, Some, None, refl, sym, ap, subst, ◌∙◌, inl, inr, arith, get_or, length-append, add-zero, length, subst₂}
use Rattle.std.specs.Prelude.{nat_lt, nat_le, is_some}
use Rattle.std.specs.List.{range_with_len, All}
use Rattle.std.proofs.lemmas.Bool.{or_parts, or_from, and_cases, le-leb, ltb-true, ltb-false, eqb-true, eqb-false, ne_eqb, both_ways, not-true, cases_lt}
use Rattle.std.proofs.lemmas.List.{append-nil}
use Rattle.std.proofs.lemmas.List.Elements.{All-filter, All-push, All-nil, filter_passes, recursion_from_All}
use Rattle.std.specs.List.{AllByRecursion}
use Rattle.std.proofs.Math.Nat.{div-lt_iff_lt-mul, mul-le-mul_right, div-mul-le_self, mod-add-div', le-div_iff_mul-le}
use Rattle.fab_arch.specs.declared.array.Site.{Site}
use Rattle.fab_site.specs.declared.placement_types.Swap.{Swap}
use Rattle.fab_move.specs.declared.marks.Mark.{Mark}
use Rattle.fab_commit.specs.declared.model.events.Way.{Way}
use Rattle.fab_move.specs.declared.proposals.Proposal.{Proposal}
use Rattle.fab_move.specs.declared.proposals.Proposal.TheVariants.{Nothing, Void, Move}
use Rattle.fab_commit.specs.declared.model.events.Event.{Event}
use Rattle.fab_commit.specs.declared.model.events.Event.TheVariants.{Claim, Judge, Lose, Commit, Refresh}
use Rattle.fab_net.specs.Netlist.{Netlist}
use Rattle.fab_move.specs.Propose.{proposal}
use Rattle.std.specs.Prelude.{slice_index}
use Rattle.fab_cost.specs.Swapping.{swapped_by}
use Rattle.fab_move.specs.Judge.{Problem, Judged, judged_as, judged, meet, touched, moved}
use Rattle.fab_sched.specs.Annealing.{next_range, next_heat}
use Rattle.fab_commit.specs.Serial.{Run, Standing, side, or_zero, after_move, judged_here, step, from, one_if}
use Rattle.fab_commit.specs.declared.model.judged.Claimed.{Claimed}
use Rattle.fab_commit.specs.declared.model.judged.JudgedMove.{JudgedMove}
use Rattle.fab_commit.specs.declared.run.swaps.Accepted.{Accepted}
use Rattle.fab_commit.specs.Model.World.{World, world, stage_end, end, clash, claim_of, verdict_for, without_worker, without_number, is_claimed, is_judged, first_free, open_numbers, claimed, claimed_by, verdict, judged_claim, lost, is_last, usable, verdict_here, way_of, answer, accepted_as, accepted_now, committed, can_commit, commit, happens, run_through, ways, ways_now, stage_end_at}
use Rattle.fab_commit.specs.Laws.EverySchedule.{TakesTheMove, EveryScheduleIsSerial}
use Rattle.fab_commit.proofs.ModelLemmas.Sitings.{StandsSo}
use Rattle.fab_commit.proofs.ModelLemmas.Noninterference.{IsLawful, propose_lawful, judged_kept}

-- stages

within_stage : (moves o n : ℕ) → o ≤ n → n + 1 < (o / moves + 1) * moves → ((n + 1) % moves == 0) ≡ false
within_stage zero o n before h = absurd (omega arith)
within_stage (suc m) o n before h =
    let moves = suc m in
    let pos : 0 < moves = omega arith in
    let low : (n + 1) / moves < o / moves + 1 = (div-lt_iff_lt-mul {k = moves} {x = n + 1} {y = o / moves + 1} pos).1 h in
    let le : (n + 1) / moves ≤ o / moves = omega arith in
    let a : (n + 1) / moves * moves ≤ o / moves * moves = mul-le-mul_right moves le in
    let b : o / moves * moves ≤ o = div-mul-le_self o moves in
    let c : (n + 1) % moves + (n + 1) / moves * moves ≡ n + 1 = mod-add-div' (n + 1) moves in
    ne_eqb ((n + 1) % moves) 0 (λ e. omega (arith, e))

-- a stage that is not over ends where it did
ends_later : (p : Run) (a b : ℕ) (heat : Option ℕ) → 0 < p.plan.moves → a ≤ b → stage_end_at p a heat ≤ stage_end_at p b heat
ends_later p a b None pos h = h
ends_later p a b (Some t) pos h =
    let moves = p.plan.moves in
    let low : a / moves * moves ≤ a = div-mul-le_self a moves in
    let le : a / moves ≤ b / moves = (le-div_iff_mul-le {k = moves} {x = a / moves} {y = b} pos).1 (omega arith) in
    mul-le-mul_right moves (omega arith)

ends_after : (p : Run) (n : ℕ) (heat : Option ℕ) → 0 < p.plan.moves → n ≤ stage_end_at p n heat
ends_after p n None pos = omega arith
ends_after p n (Some t) pos =
    let moves = p.plan.moves in
    let h : n / moves < n / moves + 1 = omega arith in
    let low : n < (n / moves + 1) * moves = (div-lt_iff_lt-mul {k = moves} {x = n} {y = n / moves + 1} pos).0 h in
    omega arith

-- the answers that stand

abbrev OptLawful : List Site → Option Swap → Type 0
OptLawful sites None = Unit {0}
OptLawful sites (Some s) = StandsSo sites s

judged_as_lawful : (p : Problem) (sites : List Site) (t w : ℕ) (q : Proposal) → IsLawful sites q → OptLawful sites (judged_as p sites t w q).swap
judged_as_lawful p sites t w Nothing h = tt
judged_as_lawful p sites t w (Void b to) h = tt
judged_as_lawful p sites t w (Move s) h = h

judged_lawful : (p : Run) (sites : List Site) (k t range : ℕ) → OptLawful sites (judged p.problem sites k t range).swap
unfolding judged
judged_lawful p sites k t range =
    judged_as_lawful p.problem sites t (slice_index (p.problem.words k) 3) (proposal p.problem.design p.problem.grid p.problem.fixed sites range (p.problem.words k)) (propose_lawful p.problem sites range (p.problem.words k))

clash_push : (d : Netlist) (log : List Accepted) (a : Accepted) (base : ℕ) (marks : List Mark) → clash d (log ++ a ∷ []) base marks ≡ false
    → (clash d log base marks ≡ false) × ((nat_le base a.number && meet (touched d a.swap) marks) ≡ false)
clash_push d [] a base marks h = (refl, (or_parts (nat_le base a.number && meet (touched d a.swap) marks) false h).0)
clash_push d (b ∷ log) a base marks h =
    let x = nat_le base b.number && meet (touched d b.swap) marks in
    let p = or_parts x (clash d (log ++ a ∷ []) base marks) h in
    let q = clash_push d log a base marks p.1 in
    (or_from x (clash d log base marks) p.0 q.0, q.1)

-- unless an accepted swap touched what it rests on, x is move k on these sites
abbrev pub Stands : Run → List Accepted → ℕ → Judged → List Site → ℕ → Option ℕ → ℕ → Type 0
Stands p log base x sites k heat range = clash p.problem.design log base x.footprint ≡ false → x ≡ judged p.problem sites k (or_zero heat) range

stands_with : (p : Run) (log : List Accepted) (base n : ℕ) (x : Judged) (sites : List Site) (k : ℕ) (heat : Option ℕ) (range : ℕ) (b : Bool) (o : Option Swap) → base ≤ n → OptLawful sites o
    → Stands p log base x sites k heat range
    → Stands p (log ++ cond b (accepted_as n o) []) base x (cond b (swapped_by sites o) sites) k heat range
stands_with p log base n x sites k heat range false o le is h = subst (λ (l : List Accepted). Stands p l base x sites k heat range) (sym (append-nil log)) h
stands_with p log base n x sites k heat range true None le is h = subst (λ (l : List Accepted). Stands p l base x sites k heat range) (sym (append-nil log)) h
stands_with p log base n x sites k heat range true (Some s) le is h = λ c.
    let d = p.problem.design in
    let a : Accepted = record { number = n; swap = s } in
    let parts = clash_push d log a base x.footprint c in
    let same : x ≡ judged p.problem sites k (or_zero heat) range = h parts.0 in
    let free : meet (touched d s) x.footprint ≡ false =
    elim (and_cases (nat_le base n) (meet (touched d s) x.footprint) parts.1) [
      | inl e ↦ absurd (both_ways (nat_le base n) e (le-leb base n le))
      | inr e ↦ e
    ] in
    same ∙ sym (judged_kept p.problem sites s k (or_zero heat) range is (ap (λ (v : Judged). meet (touched d s) v.footprint) (sym same) ∙ free))

-- a verdict that may still be used
pub record IsGood (p : Run) (x : Standing) (log : List Accepted) (end : ℕ) (v : JudgedMove) : Type 0 where
  pub due : x.done ≤ v.number
  pub in_stage : v.number < end
  pub based : v.base ≤ x.done
  pub stands : Stands p log v.base v.judged x.sites v.number x.heat x.range

pub record Inv (p : Run) (w : World) : Type 0 where
  pub moves : 0 < p.plan.moves
  pub past : w.older.done ≤ w.live.done
  pub in_time : w.live.done ≤ end p w
  pub heat : w.live.done < end p w → w.live.heat ≡ w.older.heat
  pub claims : All (λ (c : Claimed). c.number < end p w) w.claims
  pub older : w.live.done < end p w → (k : ℕ) → Stands p w.accepted w.older.done (judged_here p w.older k) w.live.sites k w.live.heat w.live.range
  pub verdicts : All (IsGood p w.live w.accepted (end p w)) w.verdicts

pub start_inv : (p : Run) (x : Standing) → 0 < p.plan.moves → Inv p (world x)
start_inv p x pos = record {
  moves = pos;
  past = omega arith;
  in_time = ends_after p x.done x.heat pos;
  heat = λ h. refl;
  claims = All-nil (λ (c : Claimed). c.number < stage_end p x);
  older = λ h k c. refl;
  verdicts = All-nil (IsGood p x [] (stage_end p x));
}

-- claims

abbrev Below : ℕ → Option ℕ → Type 0
Below end None = Unit {0}
Below end (Some k) = k < end

first_free_below : (claims : List Claimed) (verdicts : List JudgedMove) (end a m : ℕ) → end - a ≡ m → Below end (first_free claims verdicts (range_with_len a m))
first_free_below claims verdicts end a zero h = tt
first_free_below claims verdicts end a (suc m) h =
    let rest = first_free_below claims verdicts end (a + 1) m (omega arith) in
    elim (is_claimed a claims || is_judged a verdicts) as (λ v. Below end (cond v (first_free claims verdicts (range_with_len (a + 1) m)) (Some a))) [
      | true ↦ rest
      | false ↦ omega arith
    ]

claim_of_below : (end worker : ℕ) (claims : List Claimed) → AllByRecursion (λ (c : Claimed). c.number < end) claims → Below end (claim_of worker claims)
claim_of_below end worker [] h = tt
claim_of_below end worker (c ∷ rest) h =
    elim (c.worker == worker) as (λ v. Below end (cond v (Some c.number) (claim_of worker rest))) [
      | true ↦ h.0
      | false ↦ claim_of_below end worker rest h.1
    ]

claimed_inv : (p : Run) (w : World) (worker : ℕ) (o : Option ℕ) → Below (end p w) o → Inv p w → Inv p (claimed w worker o)
claimed_inv p w worker None h inv = inv
claimed_inv p w worker (Some k) h inv = record {
  moves = inv.moves;
  past = inv.past;
  in_time = inv.in_time;
  heat = inv.heat;
  claims = All-push (λ (c : Claimed). c.number < end p w) w.claims (record { worker = worker; number = k }) inv.claims h;
  older = inv.older;
  verdicts = inv.verdicts;
}

claimed_by_inv : (p : Run) (w : World) (worker : ℕ) (o : Option ℕ) → Inv p w → Inv p (claimed_by p w worker o)
claimed_by_inv p w worker None inv = claimed_inv p w worker (first_free w.claims w.verdicts (open_numbers p w)) (first_free_below w.claims w.verdicts (end p w) w.live.done (end p w - w.live.done) refl) inv
claimed_by_inv p w worker (Some k) inv = inv

without_worker_inv : (end worker : ℕ) (claims : List Claimed) → All (λ (c : Claimed). c.number < end) claims → All (λ (c : Claimed). c.number < end) (without_worker worker claims)
without_worker_inv end worker claims h = All-filter (λ (c : Claimed). not (c.worker == worker)) (λ (c : Claimed). c.number < end) claims h

judged_claim_inv : (p : Run) (w : World) (worker : ℕ) (o : Option ℕ) → Below (end p w) o → Inv p w → Inv p (judged_claim p w worker o)
judged_claim_inv p w worker None h inv = inv
judged_claim_inv p w worker (Some k) h inv = record {
  moves = inv.moves;
  past = inv.past;
  in_time = inv.in_time;
  heat = inv.heat;
  claims = without_worker_inv (end p w) worker w.claims inv.claims;
  older = inv.older;
  verdicts = now (nat_lt k w.live.done) refl;
}
  where
    now : (b : Bool) → nat_lt k w.live.done ≡ b → All (IsGood p w.live w.accepted (end p w)) (cond b w.verdicts (w.verdicts ++ verdict p w worker k ∷ []))
    now true e = inv.verdicts
    now false e =
        let due : w.live.done ≤ k = ltb-false k w.live.done e in
        All-push (IsGood p w.live w.accepted (end p w)) w.verdicts (verdict p w worker k) inv.verdicts
        (record { due = due; in_stage = h; based = inv.past; stands = inv.older (omega arith) k })

lost_inv : (p : Run) (w : World) (worker : ℕ) (o : Option ℕ) → Inv p w → Inv p (lost w worker o)
lost_inv p w worker None inv = record {
  moves = inv.moves;
  past = inv.past;
  in_time = inv.in_time;
  heat = inv.heat;
  claims = inv.claims;
  older = inv.older;
  verdicts = All-filter (λ (v : JudgedMove). not (v.worker == worker && is_last worker w.verdicts v.number)) (IsGood p w.live w.accepted (end p w)) w.verdicts inv.verdicts;
}
lost_inv p w worker (Some k) inv = record {
  moves = inv.moves;
  past = inv.past;
  in_time = inv.in_time;
  heat = inv.heat;
  claims = without_worker_inv (end p w) worker w.claims inv.claims;
  older = inv.older;
  verdicts = inv.verdicts;
}

-- what is below the older placement's end is below the live one's
later_end : (p : Run) (w : World) → Inv p w → end p w ≤ stage_end p w.live
later_end p w inv =
    elim (cases_lt w.live.done (end p w)) [
      | inl l ↦
          (let a = ends_later p w.older.done w.live.done w.older.heat inv.moves inv.past in
          subst (λ (h : Option ℕ). end p w ≤ stage_end_at p w.live.done h) (sym (inv.heat l)) a)
      | inr l ↦
          (let a = ends_after p w.live.done w.live.heat inv.moves in
          omega (arith, a, l))
    ]

refreshed_inv : (p : Run) (w : World) → Inv p w → Inv p (record w { older = w.live })
refreshed_inv p w inv =
    let wider : end p w ≤ stage_end p w.live = later_end p w inv in
    record {
      moves = inv.moves;
      past = omega arith;
      in_time = ends_after p w.live.done w.live.heat inv.moves;
      heat = λ h. refl;
      claims = λ k d l. let h = inv.claims k d l in omega (arith, h);
      older = λ h k c. refl;
      verdicts = λ k d l.
          let g = inv.verdicts k d l in
          let h = g.in_stage in
          record { due = g.due; in_stage = omega (arith, h); based = g.based; stands = g.stands };
    }

-- commits

abbrev OptGood : Run → World → Option JudgedMove → Type 0
OptGood p w None = Unit {0}
OptGood p w (Some v) = (v.number ≡ w.live.done) × IsGood p w.live w.accepted (end p w) v

found_good : (p : Run) (w : World) (verdicts : List JudgedMove) → AllByRecursion (IsGood p w.live w.accepted (end p w)) verdicts → OptGood p w (verdict_for w.live.done verdicts)
found_good p w [] h = tt
found_good p w (v ∷ rest) h = here (found_good p w rest h.1) (v.number == w.live.done) refl
  where
    here : OptGood p w (verdict_for w.live.done rest) → (b : Bool) → (v.number == w.live.done) ≡ b → OptGood p w (cond b (Some v) (verdict_for w.live.done rest))
    here later true e = (eqb-true v.number w.live.done e, h.0)
    here later false e = later

abbrev OptTakes : Run → World → Option JudgedMove → Type 0
OptTakes p w None = Unit {0}
OptTakes p w (Some v) = v.judged ≡ judged_here p w.live w.live.done

usable_takes : (p : Run) (w : World) (o : Option JudgedMove) → OptGood p w o → OptTakes p w (usable p w o)
usable_takes p w None h = tt
usable_takes p w (Some v) h = here (clash p.problem.design w.accepted v.base v.judged.footprint) refl
  where
    here : (b : Bool) → clash p.problem.design w.accepted v.base v.judged.footprint ≡ b → OptTakes p w (cond b None (Some v))
    here true e = tt
    here false e = h.1.stands e ∙ ap (judged_here p w.live) h.0

takes : (p : Run) (w : World) → Inv p w → OptTakes p w (usable p w (verdict_here w))
takes p w inv = usable_takes p w (verdict_here w) (found_good p w w.verdicts (recursion_from_All (IsGood p w.live w.accepted (end p w)) w.verdicts inv.verdicts))

answer_is : (p : Run) (w : World) (o : Option JudgedMove) → OptTakes p w o → answer p w o ≡ judged_here p w.live w.live.done
answer_is p w None h = refl
answer_is p w (Some v) h = h

-- a stage that has moves left is not over
running : (p : Run) (o n : ℕ) (heat : Option ℕ) → o ≤ n → n < stage_end_at p o heat → is_some heat ≡ true
running p o n None h l = absurd (omega arith)
running p o n (Some t) h l = refl

-- a worker that holds a move of the stage judges within it
pub claim_open : (p : Run) (w : World) (worker k : ℕ) → Inv p w → claim_of worker w.claims ≡ Some k → w.live.done ≤ k → is_some w.older.heat ≡ true
claim_open p w worker k inv e due =
    let below : k < end p w = subst (Below (end p w)) e (claim_of_below (end p w) worker w.claims (recursion_from_All (λ (c : Claimed). c.number < end p w) w.claims inv.claims)) in
    running p w.older.done w.live.done w.older.heat inv.past (omega (arith, below, due))

in_stage_still : (p : Run) (o n : ℕ) (heat : Option ℕ) → o ≤ n → n + 1 < stage_end_at p o heat → ((n + 1) % p.plan.moves == 0) ≡ false
in_stage_still p o n None h l = absurd (omega arith)
in_stage_still p o n (Some t) h l = within_stage p.plan.moves o n h l

-- temperature and range stay within a stage
stage_kept : (p : Run) (w : World) (j : Judged) → Inv p w → w.live.done + 1 < end p w
    → (w.live.heat ≡ (after_move p w.live j).heat) × (w.live.range ≡ (after_move p w.live j).range)
stage_kept p w j inv h =
    let over = in_stage_still p w.older.done w.live.done w.older.heat inv.past h in (
      ap (λ v. cond v (next_heat p.plan w.live.range (w.live.accepted + one_if j.accepted) w.live.heat) w.live.heat) (sym over),
      ap (λ v. cond v (next_range p.plan (side p) w.live.range (w.live.accepted + one_if j.accepted)) w.live.range) (sym over),
    )

stands_after : (p : Run) (w : World) (j : Judged) (base : ℕ) (x : Judged) (k : ℕ) → Inv p w → OptLawful w.live.sites j.swap → w.live.done + 1 < end p w → base ≤ w.live.done
    → Stands p w.accepted base x w.live.sites k w.live.heat w.live.range
    → Stands p (w.accepted ++ accepted_now w.live.done j) base x (moved w.live.sites j) k (after_move p w.live j).heat (after_move p w.live j).range
stands_after p w j base x k inv lawful h le stands =
    let kept = stage_kept p w j inv h in
    let Q : Option ℕ → ℕ → Type 0 = λ t r. Stands p (w.accepted ++ accepted_now w.live.done j) base x (moved w.live.sites j) k t r in
    subst₂ Q kept.0 kept.1
    (stands_with p w.accepted base w.live.done x w.live.sites k w.live.heat w.live.range j.accepted j.swap le lawful stands)

committed_inv : (p : Run) (w : World) (j : Judged) → w.live.done < end p w → OptLawful w.live.sites j.swap → Inv p w → Inv p (committed p w j)
committed_inv p w j before lawful inv = record {
  moves = inv.moves;
  past = let h = inv.past in omega (arith, h);
  in_time = omega arith;
  heat = λ h. sym (stage_kept p w j inv h).0 ∙ inv.heat before;
  claims = inv.claims;
  older = λ h k. stands_after p w j w.older.done (judged_here p w.older k) k inv lawful h inv.past (inv.older (omega arith) k);
  verdicts = λ k d l.
      let v = get_or (without_number w.live.done w.verdicts) k d in
      let test : JudgedMove → Bool = (λ v. not (v.number == w.live.done)) in
      let g : IsGood p w.live w.accepted (end p w) v = All-filter test (IsGood p w.live w.accepted (end p w)) w.verdicts inv.verdicts k d l in
      let other : v.number ≢ w.live.done = eqb-false v.number w.live.done (not-true (v.number == w.live.done) (filter_passes test w.verdicts k d l)) in
      let due : w.live.done + 1 ≤ v.number = (let h = g.due in omega (arith, h)) in
      let in_stage : v.number < end p w = g.in_stage in
      let based : v.base ≤ w.live.done = g.based in
      record {
        due = due;
        in_stage = in_stage;
        based = omega (arith, based);
        stands = stands_after p w j v.base v.judged v.number inv lawful (omega (arith, due, in_stage)) based g.stands;
      };
}

commit_inv : (p : Run) (w : World) → Inv p w → w.live.done < end p w → Inv p (commit p w)
commit_inv p w inv before =
    let use_it = usable p w (verdict_here w) in
    let same : answer p w use_it ≡ judged_here p w.live w.live.done = answer_is p w use_it (takes p w inv) in
    let lawful : OptLawful w.live.sites (answer p w use_it).swap =
    subst (λ (j : Judged). OptLawful w.live.sites j.swap) (sym same) (judged_lawful p w.live.sites w.live.done (or_zero w.live.heat) w.live.range) in
    committed_inv p w (answer p w use_it) before lawful inv

pub answered : (p : Run) (w : World) → Inv p w → answer p w (usable p w (verdict_here w)) ≡ judged_here p w.live w.live.done
answered p w inv = answer_is p w (usable p w (verdict_here w)) (takes p w inv)

-- where a move is left in the stage, the stage is not over
pub stage_open : (p : Run) (w : World) → Inv p w → w.live.done < end p w → is_some w.live.heat ≡ true
stage_open p w inv before = ap (λ h. is_some h) (inv.heat before) ∙ running p w.older.done w.live.done w.older.heat inv.past before

pub commit_live : (p : Run) (w : World) → Inv p w → can_commit p w ≡ true → (commit p w).live ≡ step p w.live
commit_live p w inv h =
    let use_it = usable p w (verdict_here w) in
    let same : answer p w use_it ≡ judged_here p w.live w.live.done = answer_is p w use_it (takes p w inv) in
    let before : w.live.done < end p w = ltb-true w.live.done (end p w) h in
    let more : is_some w.live.heat ≡ true = stage_open p w inv before in
    ap (after_move p w.live) same
    ∙ ap (λ v. cond v (after_move p w.live (judged_here p w.live w.live.done)) w.live) (sym more)

-- every event

pub happens_inv : (p : Run) (w : World) (e : Event) → Inv p w → Inv p (happens p w e)
happens_inv p w (Claim worker) inv = claimed_by_inv p w worker (claim_of worker w.claims) inv
happens_inv p w (Judge worker) inv = judged_claim_inv p w worker (claim_of worker w.claims) (claim_of_below (end p w) worker w.claims (recursion_from_All (λ (c : Claimed). c.number < end p w) w.claims inv.claims)) inv
happens_inv p w (Lose worker) inv = lost_inv p w worker (claim_of worker w.claims) inv
happens_inv p w Commit inv = commit_or_not (can_commit p w) refl
  where
    commit_or_not : (b : Bool) → can_commit p w ≡ b → Inv p (cond b (commit p w) w)
    commit_or_not true e = commit_inv p w inv (ltb-true w.live.done (end p w) e)
    commit_or_not false e = inv
happens_inv p w Refresh inv = refreshed_inv p w inv

claimed_live : (w : World) (worker : ℕ) (o : Option ℕ) → (claimed w worker o).live ≡ w.live
claimed_live w worker None = refl
claimed_live w worker (Some k) = refl

claimed_by_live : (p : Run) (w : World) (worker : ℕ) (o : Option ℕ) → (claimed_by p w worker o).live ≡ w.live
claimed_by_live p w worker None = claimed_live w worker (first_free w.claims w.verdicts (open_numbers p w))
claimed_by_live p w worker (Some k) = refl

judged_claim_live : (p : Run) (w : World) (worker : ℕ) (o : Option ℕ) → (judged_claim p w worker o).live ≡ w.live
judged_claim_live p w worker None = refl
judged_claim_live p w worker (Some k) = refl

lost_live : (w : World) (worker : ℕ) (o : Option ℕ) → (lost w worker o).live ≡ w.live
lost_live w worker None = refl
lost_live w worker (Some k) = refl

commit_steps : (p : Run) (w : World) → Inv p w → (ways : List Way) → length ways ≡ 1 → (b : Bool) → can_commit p w ≡ b
    → ((cond b (commit p w) w).live ≡ from p w.live (length (cond b ways []))) × ((cond b (commit p w) w).live.done ≡ w.live.done + length (cond b ways []))
commit_steps p w inv ways one true e = rw one (commit_live p w inv e, refl)
commit_steps p w inv ways one false e = (refl, sym (add-zero w.live.done))

-- what an event that commits nothing leaves
unmoved : (p : Run) (x y : Standing) → x ≡ y → (x ≡ y) × (x.done ≡ y.done + 0)
unmoved p x y e = (e, ap (λ (v : Standing). v.done) e ∙ sym (add-zero y.done))

happens_live : (p : Run) (w : World) (e : Event) → Inv p w
    → ((happens p w e).live ≡ from p w.live (length (ways_now p w e))) × ((happens p w e).live.done ≡ w.live.done + length (ways_now p w e))
happens_live p w (Claim worker) inv = unmoved p _ w.live (claimed_by_live p w worker (claim_of worker w.claims))
happens_live p w (Judge worker) inv = unmoved p _ w.live (judged_claim_live p w worker (claim_of worker w.claims))
happens_live p w (Lose worker) inv = unmoved p _ w.live (lost_live w worker (claim_of worker w.claims))
happens_live p w Commit inv = commit_steps p w inv (way_of (verdict_here w) (usable p w (verdict_here w)) ∷ []) refl (can_commit p w) refl
happens_live p w Refresh inv = unmoved p _ w.live refl

-- m moves and then n
pub from-add : (p : Run) (x : Standing) (m n : ℕ) → from p (from p x m) n ≡ from p x (m + n)
from-add p x zero n = let e : n ≡ zero + n = omega arith in ap (from p x) e
from-add p x (suc m) n =
    let e : suc (m + n) ≡ suc m + n = omega arith in
    from-add p (step p x) m n ∙ ap (from p x) e

pub takes_the_move : (p : Run) (w : World) → Inv p w → TakesTheMove p w
takes_the_move p w inv = λ v e. subst (OptTakes p w) e (takes p w inv)

pub run_serial : (p : Run) (w : World) (events : List Event) → Inv p w
    → ((run_through p w events).live ≡ from p w.live (length (ways p w events)))
    × ((run_through p w events).live.done ≡ w.live.done + length (ways p w events))
    × TakesTheMove p (run_through p w events)
run_serial p w [] inv = (refl, sym (add-zero w.live.done), takes_the_move p w inv)
run_serial p w (e ∷ events) inv =
    let next = happens p w e in
    let rest = run_serial p next events (happens_inv p w e inv) in
    let here = happens_live p w e inv in
    let sum : length (ways_now p w e ++ ways p next events) ≡ length (ways_now p w e) + length (ways p next events) =
    length-append (ways_now p w e) (ways p next events) in (
      rest.0
          ∙ ap (λ (x : Standing). from p x (length (ways p next events))) here.0
          ∙ from-add p w.live (length (ways_now p w e)) (length (ways p next events))
          ∙ ap (from p w.live) (sym sum),
      (let a = rest.1 in let b = here.1 in omega (arith, a, b, sum)),
      rest.2,
    )

pub serial : EveryScheduleIsSerial
serial p x events pos = run_serial p (world x) events (start_inv p x pos)
