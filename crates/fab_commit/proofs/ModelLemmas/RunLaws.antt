-- Proofs of the laws of turns one after another.
use Rattle.std.proofs.Common.{◌≡◌, ℕ, zero, suc, ◌+◌, ◌-◌, ◌*◌, ◌%◌, ◌<◌, ◌≤◌, min, max, Bool, true, false, cond, List, [], ◌∷◌, ◌++◌, map, take, replicate, refl, sym, ap, ◌∙◌, subst, inl, inr, arith}
use Rattle.std.specs.Prelude.{nat_le, nat_lt}
use Rattle.std.specs.List.{count_by, filter, range_with_len}
use Rattle.std.proofs.lemmas.Bool.{cases_lt, le-ltb, lt-ltb}
use Rattle.std.proofs.lemmas.List.Elements.{filter-append}
use Rattle.std.proofs.lemmas.List.FromFn.{take-map-range_with_len}
use Rattle.std.proofs.lemmas.List.Sums.{sum_by-append, sum_by-cons}
use Rattle.fab_commit.specs.declared.run.swaps.Accepted.{Accepted}
use Rattle.fab_commit.specs.Serial.{Run, Standing, from, judged_here, moves_left, step}
use Rattle.fab_commit.specs.Model.World.{clash, is_redone_way, ways}
use Rattle.fab_commit.specs.Model.History.{accepted_from, is_redone}
use Rattle.fab_commit.specs.Model.TurnEvents.{LastTurn, IsOfAStage, base_behind, is_redone_behind, next_turn, no_turn, stands, turn, turn_events, world_behind}
use Rattle.fab_commit.specs.Model.Turns.{base_of, last_turn, part_of, redone, redone_in_run, redone_next}
use Rattle.fab_commit.specs.Laws.Turns.{way_if}
use Rattle.fab_commit.specs.Laws.Runs.{RedoneInRuns, WaysOfABeginning, WaysOfATurn, WaysOfRuns, ways_of_turns}
use Rattle.fab_commit.proofs.RunLemmas.Folding.{left_some, left_step, still_hot}
use Rattle.fab_commit.proofs.ModelLemmas.History.{accepted_from-add}
use Rattle.fab_commit.proofs.ModelLemmas.RunBases.{base_at, part_first, part_next, part_within}
use Rattle.fab_commit.proofs.ModelLemmas.Schedules.{from-add}
use Rattle.fab_commit.proofs.ModelLemmas.Stamps.{clash-forget}
use Rattle.fab_commit.proofs.ModelLemmas.TurnLaws as turn_laws
use Rattle.fab_commit.proofs.ModelLemmas.TurnSteps.{range-append}

-- counts

pub count_by-append : {X : Type 0} (p : X → Bool) (xs ys : List X) → count_by p (xs ++ ys) ≡ count_by p xs + count_by p ys
count_by-append p xs ys = sum_by-append (λ x. cond (p x) 1 0) xs ys

pub count_by-cons : {X : Type 0} (p : X → Bool) (x : X) (xs : List X) → count_by p (x ∷ xs) ≡ cond (p x) 1 0 + count_by p xs
count_by-cons p x xs = sum_by-cons (λ x. cond (p x) 1 0) x xs

pub told_is : (b : Bool) → is_redone_way (way_if b) ≡ b
told_is true = refl
told_is false = refl

-- ways that tell a test are counted as the test is
pub count_told : (f : ℕ → Bool) (ks : List ℕ) → count_by is_redone_way (map (λ k. way_if (f k)) ks) ≡ count_by f ks
count_told f [] = refl
count_told f (k ∷ ks) =
    count_by-cons is_redone_way (way_if (f k)) (map (λ k. way_if (f k)) ks)
    ∙ (λ i. cond (told_is (f k) i) 1 0 + count_told f ks i)
    ∙ sym (count_by-cons f k ks)

-- ways

pub ways_of_a_beginning : WaysOfABeginning
ways_of_a_beginning r t batch m pos stage low =
    let told = λ (k : ℕ). way_if (is_redone_behind r t k) in
    ap (λ l. count_by is_redone_way (take m l)) (turn_laws.ways_of_turns r t batch pos stage)
    ∙ ap (λ l. count_by is_redone_way l) (take-map-range_with_len told (stands r t).done (next_turn r batch t).made m low)
    ∙ count_told (is_redone_behind r t) (range_with_len (stands r t).done m)

pub ways_of_a_turn : WaysOfATurn
ways_of_a_turn r t batch pos stage =
    ap (λ l. count_by is_redone_way l) (turn_laws.ways_of_turns r t batch pos stage)
    ∙ count_told (is_redone_behind r t) (range_with_len (stands r t).done (next_turn r batch t).made)

-- turns after another
pub ways_behind : (r : Run) (t : LastTurn) (batches : List ℕ) → 0 < r.plan.moves → IsOfAStage r t → count_by is_redone_way (ways_of_turns r (world_behind r t) batches) ≡ redone r t batches
ways_behind r t [] pos stage = refl
ways_behind r t (batch ∷ batches) pos stage =
    let one = turn_laws.turns_lead_on r t batch pos stage in
    let w = world_behind r t in
    count_by-append is_redone_way (ways r w (turn_events r batch w)) (ways_of_turns r (turn r batch w) batches)
    ∙ (λ i. ways_of_a_turn r t batch pos stage i + count_by is_redone_way (ways_of_turns r (one.0 i) batches))
    ∙ ap (λ n. redone_next r batch t + n) (ways_behind r (next_turn r batch t) batches pos one.1)

pub ways_of_runs : WaysOfRuns
ways_of_runs r x batches pos = ways_behind r (no_turn x) batches pos (omega arith)

-- a move that is redone, told from a later standing

pub redone_from : (r : Run) (x : Standing) (a base k : ℕ) → (from r x a).done ≡ x.done + a → x.done + a ≤ base → base ≤ k → is_redone r (from r x a) base k ≡ is_redone r x base k
redone_from r x a base k done low due =
    let y = from r x a in
    let d = r.problem.design in
    let n = k - y.done in
    let since = λ (s : Accepted). nat_le y.done s.number in
    let moves : a + n ≡ k - x.done = omega (arith, done, low, due) in
    let more : a + (base - y.done) ≡ base - x.done = omega (arith, done, low) in
    let swaps : filter since (accepted_from r x (k - x.done)) ≡ accepted_from r y n =
    ap (λ m. filter since (accepted_from r x m)) (sym moves)
    ∙ ap (λ l. filter since l) (sym (accepted_from-add r x a n))
    ∙ filter-append since (accepted_from r x a) (accepted_from r y n)
    ∙ (λ i. turn_laws.forgotten r x a y.done (omega (arith, done)) i ++ turn_laws.kept_since r y n y.done (omega arith) i) in
    let judged : judged_here r (from r y (base - y.done)) k ≡ judged_here r (from r x (base - x.done)) k =
    ap (λ (z : Standing). judged_here r z k) (from-add r x a (base - y.done) ∙ ap (from r x) more) in
    (λ i. clash d (sym swaps i) base (judged i).footprint)
    ∙ clash-forget d (accepted_from r x (k - x.done)) y.done base (judged_here r (from r x (base - x.done)) k).footprint (omega (arith, done, low))

-- where the next turn of a batch begins, and what its moves are first judged on
record IsPlaced (r : Run) (first batch : ℕ) (t : LastTurn) : Type 0 where
  cuts : ℕ
  cut : (stands r t).done ≡ part_of r.plan.moves first (stands r t).done + cuts * batch
  based : (i : ℕ) → i < min batch (moves_left r (stands r t)) → base_behind r t ((stands r t).done + i) ≡ max (part_of r.plan.moves first (stands r t).done) ((stands r t).done - batch)

-- n moves within a stage leave it n moves shorter
left_after : (r : Run) (x : Standing) (n : ℕ) → n < moves_left r x → moves_left r (from r x n) + n ≡ moves_left r x
left_after r x zero l = omega arith
left_after r x (suc n) l =
    let one = left_step r x (omega (arith, l)) in
    let rest = left_after r (step r x) n (omega (arith, one, l)) in
    omega (arith, one, rest)

left_is : (r : Run) (x : Standing) → 0 < moves_left r x → moves_left r x ≡ r.plan.moves - x.done % r.plan.moves
left_is r x l = left_some r.plan.moves x.done x.heat (still_hot r x l)

same_base : (b : Bool) (n m : ℕ) → n ≡ m → cond b n n ≡ m
same_base true n m e = e
same_base false n m e = e

-- before the first turn
placed_first : (r : Run) (x : Standing) (batch : ℕ) → IsPlaced r x.done batch (no_turn x)
placed_first r x batch =
    let part = part_first r.plan.moves x.done in
    record {
      cuts = 0;
      cut = omega (arith, part);
      based = λ i l. same_base (nat_lt (x.done + i) (x.done + 0)) x.done (max (part_of r.plan.moves x.done x.done) (x.done - batch)) (omega (arith, part));
    }

-- after a turn that found no move left
placed_none : (r : Run) (first batch : ℕ) (t : LastTurn) → moves_left r (stands r t) ≡ 0 → IsPlaced r first batch t → IsPlaced r first batch (next_turn r batch t)
placed_none r first batch t none is =
    let next = next_turn r batch t in
    let made : next.made ≡ 0 = omega (arith, none) in
    let same : stands r next ≡ stands r t = ap (from r (stands r t)) made in
    let still = ap (moves_left r) same in
    record {
      cuts = is.cuts;
      cut = subst (λ (z : Standing). z.done ≡ part_of r.plan.moves first z.done + is.cuts * batch) (sym same) is.cut;
      based = λ i l. absurd (omega (arith, l, still, none));
    }

-- after one that made the last moves of its stage
placed_end : (r : Run) (first batch : ℕ) (t : LastTurn) → 0 < r.plan.moves → IsOfAStage r t → 0 < moves_left r (stands r t) → moves_left r (stands r t) ≤ batch → IsPlaced r first batch t → IsPlaced r first batch (next_turn r batch t)
placed_end r first batch t pos stage some all is =
    let y = stands r t in
    let next = next_turn r batch t in
    let z = stands r next in
    let m = r.plan.moves in
    let made : next.made ≡ moves_left r y = omega (arith, all) in
    let ahead : next.ahead ≡ 0 = omega (arith, all) in
    let done = (turn_laws.reach r next pos (turn_laws.turns_lead_on r t batch pos stage).1).1 in
    let long = left_is r y some in
    let cut = is.cut in
    let end : z.done ≡ y.done + (m - y.done % m) = omega (arith, done, made, long) in
    let part : part_of m first z.done ≡ z.done = subst (λ n. part_of m first n ≡ n) (sym end) (part_next m first y.done pos (omega (arith, cut))) in
    record {
      cuts = 0;
      cut = omega (arith, part);
      based = λ i l.
          ap (λ b. cond b y.done z.done) (le-ltb (z.done + i) (z.done + next.ahead) (omega (arith, ahead)))
          ∙ omega (arith, part);
    }

one_cut_more : (z y p q cuts batch : ℕ) → z ≡ y + batch → y ≡ p + cuts * batch → q ≡ p → z ≡ q + (cuts + 1) * batch
one_cut_more z y p q cuts batch a b c = grind (arith, a, b, c)

-- after one that left moves of its stage
placed_within : (r : Run) (first batch : ℕ) (t : LastTurn) → 0 < r.plan.moves → IsOfAStage r t → batch < moves_left r (stands r t) → IsPlaced r first batch t → IsPlaced r first batch (next_turn r batch t)
placed_within r first batch t pos stage more is =
    let y = stands r t in
    let next = next_turn r batch t in
    let z = stands r next in
    let m = r.plan.moves in
    let made : next.made ≡ batch = omega (arith, more) in
    let ahead : next.ahead ≡ min batch (moves_left r y - batch) = ap (λ n. min batch (moves_left r y - n)) made in
    let reached = (turn_laws.reach r next pos (turn_laws.turns_lead_on r t batch pos stage).1).1 in
    let done : z.done ≡ y.done + batch = omega (arith, reached, made) in
    let left : moves_left r z + batch ≡ moves_left r y = ap (λ n. moves_left r (from r y n) + batch) made ∙ left_after r y batch more in
    let long = left_is r y (omega (arith, more)) in
    let cut = is.cut in
    let part : part_of m first z.done ≡ part_of m first y.done = ap (part_of m first) done ∙ part_within m first y.done batch (omega (arith, long, more)) in
    let low : part_of m first y.done ≤ y.done = omega (arith, cut) in
    record {
      cuts = is.cuts + 1;
      cut = one_cut_more z.done y.done (part_of m first y.done) (part_of m first z.done) is.cuts batch done cut part;
      based = λ i l.
          let due : z.done + i < z.done + next.ahead = omega (arith, l, ahead, left) in
          let base : y.done ≡ max (part_of m first y.done) (z.done - batch) = omega (arith, low, done) in
          ap (λ b. cond b y.done z.done) (lt-ltb (z.done + i) (z.done + next.ahead) due)
          ∙ base
          ∙ ap (λ p. max p (z.done - batch)) (sym part);
    }

placed_on : (r : Run) (first batch : ℕ) (t : LastTurn) → 0 < r.plan.moves → IsOfAStage r t → IsPlaced r first batch t → IsPlaced r first batch (next_turn r batch t)
placed_on r first batch t pos stage is =
    elim (cases_lt batch (moves_left r (stands r t))) [
      | inl l ↦ placed_within r first batch t pos stage l is
      | inr l ↦
          elim (cases_lt 0 (moves_left r (stands r t))) [
            | inl some ↦ placed_end r first batch t pos stage some l is
            | inr none ↦ placed_none r first batch t (omega (arith, none)) is
          ]
    ]

-- what one batch's turns from x on leave
record IsInRun (r : Run) (x : Standing) (batch : ℕ) (t : LastTurn) : Type 0 where
  stage : IsOfAStage r t
  moves : ℕ
  start : t.start ≡ from r x moves
  done : t.start.done ≡ x.done + moves
  placed : IsPlaced r x.done batch t

begins : (r : Run) (x : Standing) (batch : ℕ) → IsInRun r x batch (no_turn x)
begins r x batch = record { stage = omega arith; moves = 0; start = refl; done = omega arith; placed = placed_first r x batch }

runs_on : (r : Run) (x : Standing) (batch : ℕ) (t : LastTurn) → 0 < r.plan.moves → IsInRun r x batch t → IsInRun r x batch (next_turn r batch t)
runs_on r x batch t pos is =
    let reached = (turn_laws.reach r t pos is.stage).1 in
    let before = is.done in
    record {
      stage = (turn_laws.turns_lead_on r t batch pos is.stage).1;
      moves = is.moves + t.made;
      start = ap (λ (z : Standing). from r z t.made) is.start ∙ from-add r x is.moves t.made;
      done = omega (arith, reached, before);
      placed = placed_on r x.done batch t pos is.stage is.placed;
    }

-- moves of a run

one_of_two : (b : Bool) (low high : ℕ) → low ≤ high → (low ≤ cond b low high) × (cond b low high ≤ high)
one_of_two true low high h = (omega arith, h)
one_of_two false low high h = (h, omega arith)

move_told : (r : Run) (x : Standing) (batch : ℕ) (t : LastTurn) (k : ℕ) → 0 < r.plan.moves → IsInRun r x batch t → (stands r t).done ≤ k → k < (stands r t).done + (next_turn r batch t).made
    → is_redone_behind r t k ≡ is_redone r x (base_of r.plan.moves x.done batch k) k
move_told r x batch t k pos is low high =
    let y = stands r t in
    let m = r.plan.moves in
    let i = k - y.done in
    let base = base_behind r t k in
    let e : y.done + i ≡ k = omega (arith, low) in
    let within : i < min batch (moves_left r y) = omega (arith, low, high) in
    let long = left_is r y (omega (arith, within)) in
    let told : base ≡ base_of m x.done batch k =
    ap (base_behind r t) (sym e)
    ∙ is.placed.based i within
    ∙ sym (base_at m x.done batch y.done is.placed.cuts i is.placed.cut (omega (arith, within)) (omega (arith, long, within)))
    ∙ ap (base_of m x.done batch) e in
    let reached = (turn_laws.reach r t pos is.stage).1 in
    let bounds = one_of_two (nat_lt k (y.done + t.ahead)) t.start.done y.done (omega (arith, reached)) in
    let before = is.done in
    let start : (from r x is.moves).done ≡ x.done + is.moves = ap (λ (z : Standing). z.done) (sym is.start) ∙ before in
    ap (λ (z : Standing). is_redone r z base k) is.start
    ∙ redone_from r x is.moves base k start (let b = bounds.0 in omega (arith, b, before)) (let b = bounds.1 in omega (arith, b, low))
    ∙ ap (λ b. is_redone r x b k) told

same_count : (f g : ℕ → Bool) (k n : ℕ) → ((i : ℕ) → k ≤ i → i < k + n → f i ≡ g i) → count_by f (range_with_len k n) ≡ count_by g (range_with_len k n)
same_count f g k zero h = refl
same_count f g k (suc n) h =
    let first : f k ≡ g k = h k (omega arith) (omega arith) in
    let later = same_count f g (k + 1) n (λ i a b. h i (omega (arith, a)) (omega (arith, b))) in
    count_by-cons f k (range_with_len (k + 1) n)
    ∙ (λ i. cond (first i) 1 0 + later i)
    ∙ sym (count_by-cons g k (range_with_len (k + 1) n))

-- how many moves turns of one batch make, and redo
record IsTold (r : Run) (x : Standing) (batch n : ℕ) (t : LastTurn) : Type 0 where
  moves : ℕ
  done : (stands r (last_turn r t (replicate n batch))).done ≡ (stands r t).done + moves
  redone_is : redone r t (replicate n batch) ≡ count_by (λ k. is_redone r x (base_of r.plan.moves x.done batch k) k) (range_with_len (stands r t).done moves)

run_told : (r : Run) (x : Standing) (batch n : ℕ) (t : LastTurn) → 0 < r.plan.moves → IsInRun r x batch t → IsTold r x batch n t
run_told r x batch zero t pos is = record { moves = 0; done = omega arith; redone_is = refl }
run_told r x batch (suc n) t pos is =
    let y = stands r t in
    let next = next_turn r batch t in
    let told : ℕ → Bool = λ k. is_redone r x (base_of r.plan.moves x.done batch k) k in
    let on = runs_on r x batch t pos is in
    let rest = run_told r x batch n next pos on in
    let reached = (turn_laws.reach r next pos on.stage).1 in
    let more = rest.done in
    record {
      moves = next.made + rest.moves;
      done = omega (arith, reached, more);
      redone_is =
          (λ i. same_count (is_redone_behind r t) told y.done next.made (λ k low high. move_told r x batch t k pos is low high) i + rest.redone_is i)
          ∙ ap (λ k. count_by told (range_with_len y.done next.made) + count_by told (range_with_len k rest.moves)) reached
          ∙ sym (count_by-append told (range_with_len y.done next.made) (range_with_len (y.done + next.made) rest.moves))
          ∙ ap (λ l. count_by told l) (range-append y.done next.made rest.moves);
    }

pub redone_in_runs : RedoneInRuns
redone_in_runs r x batch n pos =
    let told = run_told r x batch n (no_turn x) pos (begins r x batch) in
    let done = told.done in
    let all : told.moves ≡ (stands r (last_turn r (no_turn x) (replicate n batch))).done - x.done = omega (arith, done) in
    told.redone_is ∙ ap (redone_in_run r x batch) all

runs_through : (r : Run) (x : Standing) (batch n : ℕ) (t : LastTurn) → 0 < r.plan.moves → IsInRun r x batch t → IsInRun r x batch (last_turn r t (replicate n batch))
runs_through r x batch zero t pos is = is
runs_through r x batch (suc n) t pos is = runs_through r x batch n (next_turn r batch t) pos (runs_on r x batch t pos is)

-- a shorter turn after turns of one batch: its moves are first judged on what the moves of a whole turn are
pub redone_with_a_shorter : (r : Run) (x : Standing) (batch n short : ℕ) → 0 < r.plan.moves → short ≤ batch →
    let t = last_turn r (no_turn x) (replicate n batch) in
    redone r (no_turn x) (replicate n batch) + redone_next r short t ≡ redone_in_run r x batch ((stands r t).done + (next_turn r short t).made - x.done)
redone_with_a_shorter r x batch n short pos low =
    let t = last_turn r (no_turn x) (replicate n batch) in
    let y = stands r t in
    let made = (next_turn r short t).made in
    let told : ℕ → Bool = λ k. is_redone r x (base_of r.plan.moves x.done batch k) k in
    let is = runs_through r x batch n (no_turn x) pos (begins r x batch) in
    let first = run_told r x batch n (no_turn x) pos (begins r x batch) in
    let done = first.done in
    let within : made ≤ (next_turn r batch t).made = omega (arith, low) in
    let here : redone_next r short t ≡ count_by told (range_with_len y.done made) =
    same_count (is_redone_behind r t) told y.done made (λ k a b. move_told r x batch t k pos is a (omega (arith, b, within))) in
    let all : first.moves + made ≡ y.done + made - x.done = omega (arith, done) in
    (λ i. first.redone_is i + here i)
    ∙ ap (λ k. count_by told (range_with_len x.done first.moves) + count_by told (range_with_len k made)) done
    ∙ sym (count_by-append told (range_with_len x.done first.moves) (range_with_len (x.done + first.moves) made))
    ∙ ap (λ l. count_by told l) (range-append x.done first.moves made)
    ∙ ap (redone_in_run r x batch) all
