-- Proofs of the laws of turns.
use Rattle.std.proofs.Common.{◌≡◌, ℕ, zero, suc, ◌+◌, ◌-◌, ◌<◌, ◌≤◌, Bool, true, false, cond, List, [], ◌∷◌, ◌++◌, length, map, drop, Option, Some, None, is_some, refl, sym, ap, subst, ◌∙◌, inl, inr, arith, append-nil}
use Rattle.std.specs.Prelude.{min}
use Rattle.std.specs.List.{filter, range_with_len}
use Rattle.std.proofs.Math.Seq.{drop-append_seam}
use Rattle.std.proofs.lemmas.Bool.{cases_lt, le-leb, le-ltb, lt-leb, lt-ltb}
use Rattle.std.proofs.lemmas.List.{map-append}
use Rattle.std.proofs.lemmas.List.Elements.{filter-append, recursion_from_All}
use Rattle.std.proofs.lemmas.List.FromFn.{length-map-range_with_len}
use Rattle.fab_site.specs.declared.placement_types.Swap.{Swap}
use Rattle.fab_commit.specs.declared.model.events.Event.{Event}
use Rattle.fab_commit.specs.declared.model.events.Event.TheVariants.{Commit, Refresh, Claim, Judge, Lose}
use Rattle.fab_commit.specs.declared.model.events.Way.{Way}
use Rattle.fab_commit.specs.declared.run.swaps.Accepted.{Accepted}
use Rattle.fab_commit.specs.declared.model.judged.JudgedMove.{JudgedMove}
use Rattle.fab_commit.specs.Serial.{Run, Standing, after_move, from, judged_here, moves_left, step}
use Rattle.fab_commit.specs.Model.World.{World, world, accepted_as, accepted_now, answer, happens, run_through, stage_end, usable, verdict_here, way_of, ways, ways_now}
use Rattle.fab_commit.specs.Model.History.{accepted_at, accepted_from, is_redone}
use Rattle.fab_commit.specs.Model.TurnEvents.{LastTurn, IsOfAStage, commit_each, events_from, forget, is_redone_behind, judge_each, lose_each, next_turn, no_turn, stands, verdict_on, world_behind}
use Rattle.fab_commit.specs.Run.Owners.{since}
use Rattle.fab_commit.specs.Model.Turns.{last_turn, turns}
use Rattle.fab_commit.specs.Laws.Turns.{CutTurnsLeadOn, EveryBatchIsSerial, RedoneByStamps, TurnsAreReached, TurnsLeadOn, WaysOfTurns, way_if}
use Rattle.fab_commit.proofs.ModelLemmas.Happening.{end_is, run_inv, run_through-append, ways-append}
use Rattle.fab_commit.proofs.ModelLemmas.History.{Hist, IsOf, accepted_from-add, redone_is, run_hist, start_hist}
use Rattle.fab_commit.proofs.ModelLemmas.Schedules.{Inv, from-add, happens_inv, start_inv}
use Rattle.fab_commit.proofs.ModelLemmas.Stamps.{clash-stamps}
use Rattle.fab_commit.proofs.ModelLemmas.TurnSteps.{commit_each_run, commit_first, found_first, judge_each_run, lose_each_run, numbers, numbers_of, range-append, unclaimed}

-- verdicts of n moves from k on, on one placement

abbrev pub verdicts_on : Run → Standing → ℕ → ℕ → List JudgedMove
verdicts_on r x k n = map (verdict_on r x) (range_with_len k n)

numbers_on : (r : Run) (x : Standing) (k n : ℕ) → numbers (verdicts_on r x k n) ≡ range_with_len k n
numbers_on r x k n = numbers_of r x (range_with_len k n)

pub length_on : (r : Run) (x : Standing) (k n : ℕ) → length (verdicts_on r x k n) ≡ n
length_on r x k n = length-map-range_with_len (verdict_on r x) k n

on_split : (r : Run) (x : Standing) (k a b : ℕ) → verdicts_on r x k (a + b) ≡ verdicts_on r x k a ++ verdicts_on r x (k + a) b
on_split r x k a b =
    ap (map (verdict_on r x)) (sym (range-append k a b))
    ∙ map-append (verdict_on r x) (range_with_len k a) (range_with_len (k + a) b)

drop_front : (xs ys : List JudgedMove) (n : ℕ) → length xs ≡ n → drop n (xs ++ ys) ≡ ys
drop_front xs ys n e = ap (λ m. drop m (xs ++ ys)) (sym e) ∙ drop-append_seam xs ys

-- where events lead that make n moves
leads : (r : Run) (x : Standing) (w : World) (events : List Event) (live older : Standing) (vs : List JudgedMove) (log : List Accepted) (n : ℕ)
    → Inv r w → Hist r x w → run_through r w events ≡ unclaimed live older vs log → live.done ≡ x.done + n → (live ≡ from r x n) × (log ≡ accepted_from r x n)
leads r x w events live older vs log n inv hist e done =
    let h : Hist r x (unclaimed live older vs log) = subst (Hist r x) e (run_hist r x w events inv hist) in
    let same : h.moves ≡ n = (let d = h.done in omega (arith, d, done)) in
    (h.live ∙ ap (from r x) same, h.log ∙ ap (accepted_from r x) same)

within : (r : Run) (x : Standing) (n : ℕ) → 0 < r.plan.moves → n ≤ moves_left r x → x.done + n ≤ stage_end r x
within r x n pos l = (let e = end_is r x.done x.heat pos in omega (arith, e, l))

-- the world after a turn

abbrev events_to : LastTurn → List Event
events_to t = judge_each t.start.done (t.made + t.ahead) ++ (commit_each t.made ++ Refresh ∷ [])

pub reach : (r : Run) (t : LastTurn) → 0 < r.plan.moves → IsOfAStage r t
    → (run_through r (world t.start) (events_to t) ≡ world_behind r t) × ((stands r t).done ≡ t.start.done + t.made)
reach r t pos stage =
    let x = t.start in
    let vs = verdicts_on r x x.done (t.made + t.ahead) in
    let low = within r x (t.made + t.ahead) pos stage in
    let judged : run_through r (world x) (judge_each x.done (t.made + t.ahead)) ≡ unclaimed x x vs [] =
    judge_each_run r x x [] [] x.done 0 (t.made + t.ahead) refl (omega arith) low in
    let (z, more, ran, done) = commit_each_run r x x vs [] t.made t.ahead (numbers_on r x x.done (t.made + t.ahead)) (omega (arith, low)) in
    let all : run_through r (world x) (events_to t) ≡ unclaimed z z (drop t.made vs) more =
    run_through-append r (world x) (judge_each x.done (t.made + t.ahead)) (commit_each t.made ++ Refresh ∷ [])
    ∙ ap (λ w. run_through r w (commit_each t.made ++ Refresh ∷ [])) judged
    ∙ run_through-append r (unclaimed x x vs []) (commit_each t.made) (Refresh ∷ [])
    ∙ ap (λ w. happens r w Refresh) ran in
    let there = leads r x (world x) (events_to t) z z (drop t.made vs) more t.made (start_inv r x pos) (start_hist r x) all done in
    let made : (stands r t).done ≡ x.done + t.made = sym (ap (λ (y : Standing). y.done) there.0) ∙ done in
    let behind : drop t.made vs ≡ verdicts_on r x (stands r t).done t.ahead =
    ap (drop t.made) (on_split r x x.done t.made t.ahead)
    ∙ drop_front (verdicts_on r x x.done t.made) (verdicts_on r x (x.done + t.made) t.ahead) t.made (length_on r x x.done t.made)
    ∙ ap (λ k. verdicts_on r x k t.ahead) (sym made) in
    (all ∙ (λ i. unclaimed (there.0 i) (there.0 i) (behind i) (there.1 i)), made)

pub turns_are_reached : TurnsAreReached
turns_are_reached r t pos stage = sym (reach r t pos stage).0

pub behind_inv : (r : Run) (t : LastTurn) → 0 < r.plan.moves → IsOfAStage r t → Inv r (world_behind r t)
behind_inv r t pos stage =
    subst (Inv r) (reach r t pos stage).0 (run_inv r (world t.start) (events_to t) (start_inv r t.start pos))

behind_hist : (r : Run) (t : LastTurn) → 0 < r.plan.moves → IsOfAStage r t → Hist r t.start (world_behind r t)
behind_hist r t pos stage =
    subst (Hist r t.start) (reach r t pos stage).0
    (run_hist r t.start (world t.start) (events_to t) (start_inv r t.start pos) (start_hist r t.start))

-- up to the commits of a turn

lose_beyond : (r : Run) (live older base : Standing) (log : List Accepted) (k ahead made : ℕ)
    → run_through r (unclaimed live older (verdicts_on r base k ahead) log) (lose_each (k + made) (ahead - made)) ≡ unclaimed live older (verdicts_on r base k (min ahead made)) log
lose_beyond r live older base log k ahead made =
    elim (cases_lt made ahead) [
      | inl l ↦
          (let e : ahead ≡ made + (ahead - made) = omega arith in
          let f : made ≡ min ahead made = omega arith in
          ap (λ n. run_through r (unclaimed live older (verdicts_on r base k n) log) (lose_each (k + made) (ahead - made))) e
          ∙ lose_each_run r live older base log k made (ahead - made)
          ∙ ap (λ n. unclaimed live older (verdicts_on r base k n) log) f)
      | inr l ↦
          (let e : ahead - made ≡ 0 = omega arith in
          let f : ahead ≡ min ahead made = omega arith in
          ap (λ n. run_through r (unclaimed live older (verdicts_on r base k ahead) log) (lose_each (k + made) n)) e
          ∙ ap (λ n. unclaimed live older (verdicts_on r base k n) log) f)
    ]

no_ways_judge : (r : Run) (w : World) (k n : ℕ) → ways r w (judge_each k n) ≡ []
no_ways_judge r w k zero = refl
no_ways_judge r w k (suc n) = no_ways_judge r (happens r (happens r w (Claim k)) (Judge k)) (k + 1) n

no_ways_lose : (r : Run) (w : World) (k n : ℕ) → ways r w (lose_each k n) ≡ []
no_ways_lose r w k zero = refl
no_ways_lose r w k (suc n) = no_ways_lose r (happens r w (Lose (k + n))) k n

pass : (r : Run) (w u : World) (events rest : List Event) → run_through r w events ≡ u → run_through r w (events ++ rest) ≡ run_through r u rest
pass r w u events rest e = run_through-append r w events rest ∙ ap (λ v. run_through r v rest) e

pass_ways : (r : Run) (w u : World) (events rest : List Event) → run_through r w events ≡ u → ways r w events ≡ [] → ways r w (events ++ rest) ≡ ways r u rest
pass_ways r w u events rest e none = ways-append r w events rest ∙ (λ i. none i ++ ways r (e i) rest)

-- the verdicts for the moves of a turn: those from before, and those of the missing moves
abbrev of_turn : Run → LastTurn → ℕ → List JudgedMove
of_turn r t made =
    let y = stands r t in
    verdicts_on r t.start y.done (min t.ahead made) ++ verdicts_on r y (y.done + min t.ahead made) (made - t.ahead)

numbers_of_turn : (r : Run) (t : LastTurn) (made : ℕ) → numbers (of_turn r t made) ≡ range_with_len (stands r t).done made
numbers_of_turn r t made =
    let y = stands r t in
    let j = min t.ahead made in
    let e : j + (made - t.ahead) ≡ made = omega arith in
    map-append (λ (v : JudgedMove). v.number) (verdicts_on r t.start y.done j) (verdicts_on r y (y.done + j) (made - t.ahead))
    ∙ (λ i. numbers_on r t.start y.done j i ++ numbers_on r y (y.done + j) (made - t.ahead) i)
    ∙ range-append y.done j (made - t.ahead)
    ∙ ap (range_with_len y.done) e

length_numbers : (vs : List JudgedMove) → length (numbers vs) ≡ length vs
length_numbers [] = refl
length_numbers (v ∷ vs) = ap (λ n. suc n) (length_numbers vs)

length_of_turn : (r : Run) (t : LastTurn) (made : ℕ) → length (of_turn r t made) ≡ made
length_of_turn r t made =
    sym (length_numbers (of_turn r t made)) ∙ ap length (numbers_of_turn r t made) ∙ length_range (stands r t).done made
  where
    length_range : (k n : ℕ) → length (range_with_len k n) ≡ n
    length_range k zero = refl
    length_range k (suc n) = ap (λ m. suc m) (length_range (k + 1) n)

-- the world at the first commit
abbrev at_commits : Run → LastTurn → ℕ → ℕ → World
at_commits r t made ahead =
    let y = stands r t in
    unclaimed y y (of_turn r t made ++ verdicts_on r y (y.done + made) ahead) (accepted_from r t.start t.made)

numbers_at_commits : (r : Run) (t : LastTurn) (made ahead : ℕ) → numbers (of_turn r t made ++ verdicts_on r (stands r t) ((stands r t).done + made) ahead) ≡ range_with_len (stands r t).done (made + ahead)
numbers_at_commits r t made ahead =
    let y = stands r t in
    map-append (λ (v : JudgedMove). v.number) (of_turn r t made) (verdicts_on r y (y.done + made) ahead)
    ∙ (λ i. numbers_of_turn r t made i ++ numbers_on r y (y.done + made) ahead i)
    ∙ range-append y.done made ahead

pub record IsReady (r : Run) (t : LastTurn) (made ahead : ℕ) : Type 0 where
  pub run_is : (rest : List Event)
      → run_through r (world_behind r t) (lose_each ((stands r t).done + made) (t.ahead - made) ++ (judge_each ((stands r t).done + min t.ahead made) (made - t.ahead) ++ (judge_each ((stands r t).done + made) ahead ++ rest)))
      ≡ run_through r (at_commits r t made ahead) rest
  pub ways_are : (rest : List Event)
      → ways r (world_behind r t) (lose_each ((stands r t).done + made) (t.ahead - made) ++ (judge_each ((stands r t).done + min t.ahead made) (made - t.ahead) ++ (judge_each ((stands r t).done + made) ahead ++ rest)))
      ≡ ways r (at_commits r t made ahead) rest

ready : (r : Run) (t : LastTurn) (made ahead : ℕ) → 0 < r.plan.moves → made + ahead ≤ moves_left r (stands r t) → IsReady r t made ahead
ready r t made ahead pos left =
    let y = stands r t in
    let k = y.done in
    let j = min t.ahead made in
    let log = accepted_from r t.start t.made in
    let kept = verdicts_on r t.start k j in
    let low = within r y (made + ahead) pos left in
    let beyond = lose_each (k + made) (t.ahead - made) in
    let missing = judge_each (k + j) (made - t.ahead) in
    let next = judge_each (k + made) ahead in
    let lost = lose_beyond r y y t.start log k t.ahead made in
    let judged = judge_each_run r y y kept log (k + j) j (made - t.ahead) (numbers_on r t.start k j) refl (omega (arith, low)) in
    let more = judge_each_run r y y (of_turn r t made) log (k + made) made ahead (numbers_of_turn r t made) refl (omega (arith, low)) in
    record {
      run_is = λ rest.
          pass r (world_behind r t) (unclaimed y y kept log) beyond (missing ++ (next ++ rest)) lost
          ∙ pass r (unclaimed y y kept log) (unclaimed y y (of_turn r t made) log) missing (next ++ rest) judged
          ∙ pass r (unclaimed y y (of_turn r t made) log) (at_commits r t made ahead) next rest more;
      ways_are = λ rest.
          pass_ways r (world_behind r t) (unclaimed y y kept log) beyond (missing ++ (next ++ rest)) lost (no_ways_lose r (world_behind r t) (k + made) (t.ahead - made))
          ∙ pass_ways r (unclaimed y y kept log) (unclaimed y y (of_turn r t made) log) missing (next ++ rest) judged (no_ways_judge r (unclaimed y y kept log) (k + j) (made - t.ahead))
          ∙ pass_ways r (unclaimed y y (of_turn r t made) log) (at_commits r t made ahead) next rest more (no_ways_judge r (unclaimed y y (of_turn r t made) log) (k + made) ahead);
    }

-- swaps of before a turn

none_at : (k n : ℕ) (o : Option Swap) (b c : Bool) → n < k → filter (since k) (cond b (cond c (accepted_as n o) []) []) ≡ []
none_at k n o false c l = refl
none_at k n o true false l = refl
none_at k n None true true l = refl
none_at k n (Some s) true true l = (let a : Accepted = record { number = n; swap = s } in ap (λ b. cond b (a ∷ []) []) (lt-leb k n l))

all_at : (k n : ℕ) (o : Option Swap) (b c : Bool) → k ≤ n → filter (since k) (cond b (cond c (accepted_as n o) []) []) ≡ cond b (cond c (accepted_as n o) []) []
all_at k n o false c l = refl
all_at k n o true false l = refl
all_at k n None true true l = refl
all_at k n (Some s) true true l = (let a : Accepted = record { number = n; swap = s } in ap (λ b. cond b (a ∷ []) []) (le-leb k n l))

pub step_bounds : (r : Run) (x : Standing) → (x.done ≤ (step r x).done) × ((step r x).done ≤ x.done + 1)
step_bounds r x = by_heat (is_some x.heat)
  where
    by_heat : (b : Bool) → (x.done ≤ (cond b (after_move r x (judged_here r x x.done)) x).done) × ((cond b (after_move r x (judged_here r x x.done)) x).done ≤ x.done + 1)
    by_heat true = (omega arith, omega arith)
    by_heat false = (omega arith, omega arith)

pub forgotten : (r : Run) (x : Standing) (n k : ℕ) → x.done + n ≤ k → filter (since k) (accepted_from r x n) ≡ []
forgotten r x zero k l = refl
forgotten r x (suc n) k l =
    let j = judged_here r x x.done in
    let high = (step_bounds r x).1 in
    filter-append (since k) (accepted_at r x) (accepted_from r (step r x) n)
    ∙ (λ i. none_at k x.done j.swap (is_some x.heat) j.accepted (omega (arith, l)) i ++ forgotten r (step r x) n k (omega (arith, l, high)) i)

pub kept_since : (r : Run) (x : Standing) (n k : ℕ) → k ≤ x.done → filter (since k) (accepted_from r x n) ≡ accepted_from r x n
kept_since r x zero k l = refl
kept_since r x (suc n) k l =
    let j = judged_here r x x.done in
    let low = (step_bounds r x).0 in
    filter-append (since k) (accepted_at r x) (accepted_from r (step r x) n)
    ∙ (λ i. all_at k x.done j.swap (is_some x.heat) j.accepted l i ++ kept_since r (step r x) n k (omega (arith, l, low)) i)

-- a turn of `made` moves, with `ahead` moves judged ahead

pub turn_leads : (r : Run) (t : LastTurn) (made ahead : ℕ) → 0 < r.plan.moves → IsOfAStage r t → made + ahead ≤ moves_left r (stands r t)
    → forget (stands r t).done (run_through r (world_behind r t) (events_from (stands r t).done t.ahead made ahead)) ≡ world_behind r (record { start = stands r t; made = made; ahead = ahead })
turn_leads r t made ahead pos stage left =
    let x = t.start in
    let y = stands r t in
    let k = y.done in
    let w = world_behind r t in
    let log = accepted_from r x t.made in
    let events = events_from k t.ahead made ahead in
    let next = verdicts_on r y (k + made) ahead in
    let all = of_turn r t made ++ next in
    let low = within r y (made + ahead) pos left in
    let (z, more, ran, done) = commit_each_run r y y all log made ahead (numbers_at_commits r t made ahead) (omega (arith, low)) in
    let behind : drop made all ≡ next = drop_front (of_turn r t made) next made (length_of_turn r t made) in
    let run_is : run_through r w events ≡ unclaimed z z next (log ++ more) =
    (ready r t made ahead pos left).run_is (commit_each made ++ Refresh ∷ [])
    ∙ pass r (unclaimed y y all log) (unclaimed z y (drop made all) (log ++ more)) (commit_each made) (Refresh ∷ []) ran
    ∙ ap (λ l. unclaimed z z l (log ++ more)) behind in
    let from_start : z.done ≡ x.done + (t.made + made) = (let d = (reach r t pos stage).1 in omega (arith, d, done)) in
    let there = leads r x w events z z next (log ++ more) (t.made + made) (behind_inv r t pos stage) (behind_hist r t pos stage) run_is from_start in
    let live : z ≡ from r y made = there.0 ∙ sym (from-add r x t.made made) in
    let swaps : log ++ more ≡ log ++ accepted_from r y made = there.1 ∙ sym (accepted_from-add r x t.made made) in
    let reached = (reach r t pos stage).1 in
    let recent : filter (since k) (log ++ more) ≡ accepted_from r y made =
    ap (filter (since k)) swaps
    ∙ filter-append (since k) log (accepted_from r y made)
    ∙ (λ i. forgotten r x t.made k (omega (arith, reached)) i ++ kept_since r y made k (omega arith) i) in
    let start : k + made ≡ (from r y made).done = sym done ∙ ap (λ (v : Standing). v.done) live in
    ap (forget k) run_is ∙ (λ i. unclaimed (live i) (live i) (verdicts_on r y (start i) ahead) (recent i))

fits : (batch left : ℕ) → min batch left + min batch (left - min batch left) ≤ left
fits batch left = omega arith

pub turns_lead_on : TurnsLeadOn
turns_lead_on r t batch pos stage =
    let y = stands r t in
    let next = next_turn r batch t in
    let left = fits batch (moves_left r y) in (
      ap (λ n. forget y.done (run_through r (world_behind r t) (events_from y.done n next.made next.ahead))) (length_on r t.start y.done t.ahead)
          ∙ turn_leads r t next.made next.ahead pos stage left,
      left,
    )

pub cut_turns_lead_on : CutTurnsLeadOn
cut_turns_lead_on r t made pos stage left =
    let y = stands r t in
    let all : made + 0 ≤ moves_left r y = omega (arith, left) in (
      ap (λ n. forget y.done (run_through r (world_behind r t) (events_from y.done n made 0))) (length_on r t.start y.done t.ahead)
          ∙ turn_leads r t made 0 pos stage all,
      all,
    )

-- turns one after another

pub turns_lead : (r : Run) (t : LastTurn) (batches : List ℕ) → 0 < r.plan.moves → IsOfAStage r t → turns r (world_behind r t) batches ≡ world_behind r (last_turn r t batches)
turns_lead r t [] pos stage = refl
turns_lead r t (batch ∷ batches) pos stage =
    let one = turns_lead_on r t batch pos stage in
    ap (λ w. turns r w batches) one.0 ∙ turns_lead r (next_turn r batch t) batches pos one.1

-- where turns lead from where another did
record IsOn (r : Run) (t u : LastTurn) : Type 0 where
  moves : ℕ
  there : stands r u ≡ from r (stands r t) moves
  done : (stands r u).done ≡ (stands r t).done + moves

goes_on : (r : Run) (t : LastTurn) (batches : List ℕ) → 0 < r.plan.moves → IsOfAStage r t → IsOn r t (last_turn r t batches)
goes_on r t [] pos stage = record { moves = 0; there = refl; done = omega arith }
goes_on r t (batch ∷ batches) pos stage =
    let next = next_turn r batch t in
    let of_stage = (turns_lead_on r t batch pos stage).1 in
    let rest = goes_on r next batches pos of_stage in
    let first = (reach r next pos of_stage).1 in
    let more = rest.done in
    record {
      moves = next.made + rest.moves;
      there = rest.there ∙ from-add r (stands r t) next.made rest.moves;
      done = omega (arith, first, more);
    }

pub every_batch_is_serial : EveryBatchIsSerial
every_batch_is_serial r x batches pos =
    let t = no_turn x in
    let stage : IsOfAStage r t = omega arith in
    let is : turns r (world x) batches ≡ world_behind r (last_turn r t batches) = turns_lead r t batches pos stage in
    let on = goes_on r t batches pos stage in
    let made = on.done in
    let live : (turns r (world x) batches).live ≡ stands r (last_turn r t batches) = ap (λ (w : World). w.live) is in
    let n : on.moves ≡ (turns r (world x) batches).live.done - x.done =
    (let same : (turns r (world x) batches).live.done ≡ (stands r (last_turn r t batches)).done = ap (λ (y : Standing). y.done) live in omega (arith, same, made)) in
    (live ∙ on.there ∙ ap (from r x) n, is)

-- ways

way_of_clash : (v : JudgedMove) (b : Bool) → way_of (Some v) (cond b None (Some v)) ≡ way_if b
way_of_clash v true = refl
way_of_clash v false = refl

abbrev way_at : Run → Standing → JudgedMove → Way
way_at r x v = way_if (is_redone r x v.base v.number)

commit_ways : (r : Run) (x live older : Standing) (v : JudgedMove) (rest : List JudgedMove) (log : List Accepted) → Hist r x (unclaimed live older (v ∷ rest) log) → v.number ≡ live.done → live.done < stage_end r older
    → ways_now r (unclaimed live older (v ∷ rest) log) Commit ≡ way_at r x v ∷ []
commit_ways r x live older v rest log hist here before =
    let w = unclaimed live older (v ∷ rest) log in
    let is : IsOf r x v = (recursion_from_All (IsOf r x) (v ∷ rest) hist.verdicts).0 in
    ap (λ b. cond b (way_of (verdict_here w) (usable r w (verdict_here w)) ∷ []) []) (lt-ltb live.done (stage_end r older) before)
    ∙ ap (λ o. way_of o (usable r w o) ∷ []) (found_first live.done v rest here)
    ∙ ap (λ b. way_of (Some v) (cond b None (Some v)) ∷ []) (redone_is r x w v hist is here)
    ∙ ap (λ o. o ∷ []) (way_of_clash v (is_redone r x v.base live.done))
    ∙ ap (λ k. way_if (is_redone r x v.base k) ∷ []) (sym here)

ways_each : (r : Run) (x live older : Standing) (front back : List JudgedMove) (log : List Accepted) (n c : ℕ) → length front ≡ n
    → Inv r (unclaimed live older (front ++ back) log) → Hist r x (unclaimed live older (front ++ back) log)
    → numbers (front ++ back) ≡ range_with_len live.done (n + c) → live.done + n ≤ stage_end r older
    → ways r (unclaimed live older (front ++ back) log) (commit_each n) ≡ map (way_at r x) front
ways_each r x live older [] back log zero c long inv hist all before = refl
ways_each r x live older [] back log (suc n) c long inv hist all before = absurd (omega (arith, long))
ways_each r x live older (v ∷ front) back log zero c long inv hist all before = absurd (omega (arith, long))
ways_each r x live older (v ∷ front) back log (suc n) c long inv hist all before =
    let w = unclaimed live older (v ∷ (front ++ back)) log in
    let e : suc n + c ≡ suc (n + c) = omega arith in
    let numbered : numbers (v ∷ (front ++ back)) ≡ range_with_len live.done (suc (n + c)) = all ∙ ap (range_with_len live.done) e in
    let here : v.number ≡ live.done = cc in
    let there : numbers (front ++ back) ≡ range_with_len (live.done + 1) (n + c) = cc in
    let due : live.done < stage_end r older = omega (arith, before) in
    let j = answer r w (usable r w (Some v)) in
    let log' = log ++ accepted_now live.done j in
    let next : happens r w Commit ≡ unclaimed (after_move r live j) older (front ++ back) log' = commit_first r live older v (front ++ back) log (n + c) numbered due in
    let inv' = subst (Inv r) next (happens_inv r w Commit inv) in
    let hist' = subst (Hist r x) next (run_hist r x w (Commit ∷ []) inv hist) in
    (λ i. commit_ways r x live older v (front ++ back) log hist here due i ++ ways r (next i) (commit_each n))
    ∙ ap (λ l. way_at r x v ∷ l) (ways_each r x (after_move r live j) older front back log' n c (omega (arith, long)) inv' hist' there (omega (arith, before)))

map_on : (f : JudgedMove → Way) (r : Run) (b : Standing) (ks : List ℕ) → map f (map (verdict_on r b) ks) ≡ map (λ k. f (verdict_on r b k)) ks
map_on f r b [] = refl
map_on f r b (k ∷ ks) = ap (λ l. f (verdict_on r b k) ∷ l) (map_on f r b ks)

same_on : (f g : ℕ → Way) (k n : ℕ) → ((i : ℕ) → k ≤ i → i < k + n → f i ≡ g i) → map f (range_with_len k n) ≡ map g (range_with_len k n)
same_on f g k zero h = refl
same_on f g k (suc n) h =
    let first : f k ≡ g k = h k (omega arith) (omega arith) in
    let later = same_on f g (k + 1) n (λ i a b. h i (omega (arith, a)) (omega (arith, b))) in
    λ i. first i ∷ later i

-- the ways of a turn's verdicts, by their numbers
ways_of_verdicts : (r : Run) (t : LastTurn) (made : ℕ) → map (way_at r t.start) (of_turn r t made) ≡ map (λ k. way_if (is_redone_behind r t k)) (range_with_len (stands r t).done made)
ways_of_verdicts r t made =
    let x = t.start in
    let y = stands r t in
    let k = y.done in
    let j = min t.ahead made in
    let rest = made - t.ahead in
    let now : ℕ → Way = λ i. way_if (is_redone_behind r t i) in
    let e : j + rest ≡ made = omega arith in
    let before : map (way_at r x) (verdicts_on r x k j) ≡ map now (range_with_len k j) =
    map_on (way_at r x) r x (range_with_len k j)
    ∙ same_on (λ i. way_if (is_redone r x x.done i)) now k j
    (λ i a b. ap (λ c. way_if (is_redone r x (cond c x.done k) i)) (sym (lt-ltb i (k + t.ahead) (omega (arith, b))))) in
    let after : map (way_at r x) (verdicts_on r y (k + j) rest) ≡ map now (range_with_len (k + j) rest) =
    map_on (way_at r x) r y (range_with_len (k + j) rest)
    ∙ same_on (λ i. way_if (is_redone r x k i)) now (k + j) rest
    (λ i a b. ap (λ c. way_if (is_redone r x (cond c x.done k) i)) (sym (le-ltb i (k + t.ahead) (omega (arith, a, b))))) in
    map-append (way_at r x) (verdicts_on r x k j) (verdicts_on r y (k + j) rest)
    ∙ (λ i. before i ++ after i)
    ∙ sym (map-append now (range_with_len k j) (range_with_len (k + j) rest))
    ∙ ap (map now) (range-append k j rest)
    ∙ ap (λ n. map now (range_with_len k n)) e

abbrev up_to_commits : Run → LastTurn → ℕ → ℕ → List Event
up_to_commits r t made ahead =
    lose_each ((stands r t).done + made) (t.ahead - made) ++ (judge_each ((stands r t).done + min t.ahead made) (made - t.ahead) ++ (judge_each ((stands r t).done + made) ahead ++ []))

turn_ways : (r : Run) (t : LastTurn) (made ahead : ℕ) → 0 < r.plan.moves → IsOfAStage r t → made + ahead ≤ moves_left r (stands r t)
    → ways r (world_behind r t) (events_from (stands r t).done t.ahead made ahead) ≡ map (λ k. way_if (is_redone_behind r t k)) (range_with_len (stands r t).done made)
turn_ways r t made ahead pos stage left =
    let x = t.start in
    let y = stands r t in
    let w = world_behind r t in
    let u = at_commits r t made ahead in
    let is = ready r t made ahead pos left in
    let low = within r y (made + ahead) pos left in
    let inv : Inv r u = subst (Inv r) (is.run_is []) (run_inv r w (up_to_commits r t made ahead) (behind_inv r t pos stage)) in
    let hist : Hist r x u = subst (Hist r x) (is.run_is []) (run_hist r x w (up_to_commits r t made ahead) (behind_inv r t pos stage) (behind_hist r t pos stage)) in
    is.ways_are (commit_each made ++ Refresh ∷ [])
    ∙ ways-append r u (commit_each made) (Refresh ∷ [])
    ∙ append-nil (ways r u (commit_each made))
    ∙ ways_each r x y y (of_turn r t made) (verdicts_on r y (y.done + made) ahead) (accepted_from r x t.made) made ahead (length_of_turn r t made) inv hist (numbers_at_commits r t made ahead) (omega (arith, low))
    ∙ ways_of_verdicts r t made

pub ways_of_turns : WaysOfTurns
ways_of_turns r t batch pos stage =
    let y = stands r t in
    let next = next_turn r batch t in
    ap (λ n. ways r (world_behind r t) (events_from y.done n next.made next.ahead)) (length_on r t.start y.done t.ahead)
    ∙ turn_ways r t next.made next.ahead pos stage (fits batch (moves_left r y))

pub redone_by_stamps : RedoneByStamps
redone_by_stamps r x base k =
    clash-stamps r.problem.design (accepted_from r x (k - x.done)) base (judged_here r (from r x (base - x.done)) k).footprint
