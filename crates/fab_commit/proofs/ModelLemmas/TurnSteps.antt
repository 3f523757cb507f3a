-- What the events of a turn do, one kind after another.
use Rattle.std.proofs.Common.{◌≡◌, ℕ, zero, suc, ◌+◌, ◌-◌, ◌<◌, ◌≤◌, Bool, true, false, not, cond, ◌&&◌, ◌||◌, ◌==◌, List, [], ◌∷◌, ◌++◌, map, Option, Some, None, refl, sym, ap, ◌∙◌, inl, inr, arith, append_assoc, append-nil, drop}
use Rattle.std.specs.Prelude.{nat_lt}
use Rattle.std.specs.List.{filter, list_any, range_with_len}
use Rattle.std.proofs.lemmas.Bool.{eq-eqb, ne_eqb, eqb-false, or_parts, le-ltb, lt-ltb, or_left, or_right, or_from, cases_lt}
use Rattle.std.proofs.lemmas.List.{map-append}
use Rattle.fab_commit.specs.declared.model.events.Event.TheVariants.{Claim, Judge, Lose, Commit}
use Rattle.fab_net.specs.Netlist.{has_number}
use Rattle.fab_commit.specs.Serial.{Run, Standing, after_move}
use Rattle.fab_commit.specs.declared.model.judged.JudgedMove.{JudgedMove}
use Rattle.fab_commit.specs.declared.run.swaps.Accepted.{Accepted}
use Rattle.fab_commit.specs.Model.World.{World, stage_end, is_judged, first_free, claimed, judged_claim, without_number, verdict_for, is_last, usable, answer, accepted_now, commit, committed, happens, run_through}
use Rattle.fab_commit.specs.Model.TurnEvents.{commit_each, judge_each, lose_each, verdict_on}

-- with no claim
abbrev pub unclaimed : Standing → Standing → List JudgedMove → List Accepted → World
unclaimed live older verdicts accepted =
    record { live = live; older = older; claims = []; verdicts = verdicts; accepted = accepted }

abbrev pub numbers : List JudgedMove → List ℕ
numbers verdicts = map (λ (v : JudgedMove). v.number) verdicts

in_range : (k a c : ℕ) → a ≤ k → k < a + c → has_number k (range_with_len a c) ≡ true
in_range k a zero low high = absurd (omega arith)
in_range k a (suc c) low high =
    elim (cases_lt a k) [
      | inl l ↦ or_right (k == a) (has_number k (range_with_len (a + 1) c)) (in_range k (a + 1) c (omega arith) (omega arith))
      | inr l ↦ or_left (k == a) (has_number k (range_with_len (a + 1) c)) (eq-eqb k a (omega arith))
    ]

past_range : (k a c : ℕ) → a + c ≤ k → has_number k (range_with_len a c) ≡ false
past_range k a zero h = refl
past_range k a (suc c) h =
    or_from (k == a) (has_number k (range_with_len (a + 1) c)) (ne_eqb k a (λ e. omega (arith, e))) (past_range k (a + 1) c (omega arith))

range_more : (a c : ℕ) → range_with_len a (suc c) ≡ range_with_len a c ++ (a + c) ∷ []
range_more a zero = (let e : a ≡ a + 0 = omega arith in ap (λ v. v ∷ []) e)
range_more a (suc c) = (let e : a + 1 + c ≡ a + suc c = omega arith in ap (λ v. a ∷ v) (range_more (a + 1) c ∙ ap (λ v. range_with_len (a + 1) c ++ v ∷ []) e))

is_judged-numbers : (k : ℕ) (vs : List JudgedMove) → is_judged k vs ≡ has_number k (numbers vs)
is_judged-numbers k [] = refl
is_judged-numbers k (v ∷ vs) = ap (λ b. k == v.number || b) (is_judged-numbers k vs)

-- where these have verdicts, the next is free
first_free_at : (vs : List JudgedMove) (a c b n : ℕ) → numbers vs ≡ range_with_len a c → a ≤ b → b ≤ a + c → a + c < b + n → first_free [] vs (range_with_len b n) ≡ Some (a + c)
first_free_at vs a c b zero h low mid high = absurd (omega arith)
first_free_at vs a c b (suc n) h low mid high =
    let is : is_judged b vs ≡ has_number b (range_with_len a c) = is_judged-numbers b vs ∙ ap (has_number b) h in
    elim (cases_lt b (a + c)) [
      | inl l ↦
          ap (λ v. cond v (first_free [] vs (range_with_len (b + 1) n)) (Some b)) (is ∙ in_range b a c low l)
          ∙ first_free_at vs a c (b + 1) n h (omega arith) (omega arith) (omega arith)
      | inr l ↦
          (let e : b ≡ a + c = omega arith in
          ap (λ v. cond v (first_free [] vs (range_with_len (b + 1) n)) (Some b)) (is ∙ past_range b a c l)
          ∙ ap (λ (v : ℕ). Some v) e)
    ]

-- a claim and its judgement
claim_and_judge : (p : Run) (live older : Standing) (vs : List JudgedMove) (log : List Accepted) (k c : ℕ) → numbers vs ≡ range_with_len live.done c → live.done + c ≡ k → k < stage_end p older
    → happens p (happens p (unclaimed live older vs log) (Claim k)) (Judge k) ≡ unclaimed live older (vs ++ verdict_on p older k ∷ []) log
claim_and_judge p live older vs log k c h is before =
    let w = unclaimed live older vs log in
    let free : first_free [] vs (range_with_len live.done (stage_end p older - live.done)) ≡ Some k =
    first_free_at vs live.done c live.done (stage_end p older - live.done) h (omega arith) (omega arith) (omega arith) ∙ ap (λ (v : ℕ). Some v) is in
    let same : (k == k) ≡ true = eq-eqb k k refl in
    let due : nat_lt k live.done ≡ false = le-ltb k live.done (omega arith) in
    let taken : World = claimed w k (Some k) in
    ap (λ (o : Option ℕ). happens p (claimed w k o) (Judge k)) free
    ∙ (λ i. judged_claim p taken k (cond (same i) (Some k) None))
    ∙ (λ i. record {
      live = live;
      older = older;
      claims = cond (not (same i)) (record { worker = k; number = k } ∷ []) [];
      verdicts = cond (due i) vs (vs ++ verdict_on p older k ∷ []);
      accepted = log;
    })

pub judge_each_run : (p : Run) (live older : Standing) (vs : List JudgedMove) (log : List Accepted) (k c n : ℕ) → numbers vs ≡ range_with_len live.done c → live.done + c ≡ k → k + n ≤ stage_end p older
    → run_through p (unclaimed live older vs log) (judge_each k n) ≡ unclaimed live older (vs ++ map (verdict_on p older) (range_with_len k n)) log
judge_each_run p live older vs log k c zero h is before = ap (λ v. unclaimed live older v log) (sym (append-nil vs))
judge_each_run p live older vs log k c (suc n) h is before =
    let v = verdict_on p older k in
    let more : numbers (vs ++ v ∷ []) ≡ range_with_len live.done (suc c) =
    map-append (λ (v : JudgedMove). v.number) vs (v ∷ []) ∙ (λ i. h i ++ sym is i ∷ []) ∙ sym (range_more live.done c) in
    ap (λ w. run_through p w (judge_each (k + 1) n)) (claim_and_judge p live older vs log k c h is (omega arith))
    ∙ judge_each_run p live older (vs ++ v ∷ []) log (k + 1) (suc c) n more (omega arith) (omega arith)
    ∙ ap (λ l. unclaimed live older l log) (append_assoc vs (v ∷ []) (map (verdict_on p older) (range_with_len (k + 1) n)))

-- the verdict that stands first is the one for the next move
pub found_first : (k : ℕ) (v : JudgedMove) (rest : List JudgedMove) → v.number ≡ k → verdict_for k (v ∷ rest) ≡ Some v
found_first k v rest e = ap (λ b. cond b (Some v) (verdict_for k rest)) (eq-eqb v.number k e)

all_pass : (k a c : ℕ) (vs : List JudgedMove) → numbers vs ≡ range_with_len a c → k < a → without_number k vs ≡ vs
all_pass k a c [] h low = refl
all_pass k a zero (v ∷ vs) h low = cc
all_pass k a (suc c) (v ∷ vs) h low =
    let here : v.number ≡ a = cc in
    let there : numbers vs ≡ range_with_len (a + 1) c = cc in
    let other : (v.number == k) ≡ false = ne_eqb v.number k (λ e. omega (arith, e, here)) in
    ap (λ b. cond (not b) (v ∷ without_number k vs) (without_number k vs)) other
    ∙ ap (λ l. v ∷ l) (all_pass k (a + 1) c vs there (omega arith))

-- and it goes
without_first : (k c : ℕ) (v : JudgedMove) (rest : List JudgedMove) → numbers (v ∷ rest) ≡ range_with_len k (suc c) → without_number k (v ∷ rest) ≡ rest
without_first k c v rest h =
    let here : v.number ≡ k = cc in
    let there : numbers rest ≡ range_with_len (k + 1) c = cc in
    ap (λ b. cond (not b) (v ∷ without_number k rest) (without_number k rest)) (eq-eqb v.number k here)
    ∙ all_pass k (k + 1) c rest there (omega arith)

-- a commit, where a verdict stands for the next move
pub commit_first : (p : Run) (live older : Standing) (v : JudgedMove) (rest : List JudgedMove) (log : List Accepted) (c : ℕ) → numbers (v ∷ rest) ≡ range_with_len live.done (suc c) → live.done < stage_end p older
    → (let j = answer p (unclaimed live older (v ∷ rest) log) (usable p (unclaimed live older (v ∷ rest) log) (Some v)) in
    happens p (unclaimed live older (v ∷ rest) log) Commit ≡ unclaimed (after_move p live j) older rest (log ++ accepted_now live.done j))
commit_first p live older v rest log c h before =
    let w = unclaimed live older (v ∷ rest) log in
    let here : v.number ≡ live.done = cc in
    ap (λ b. cond b (commit p w) w) (lt-ltb live.done (stage_end p older) before)
    ∙ ap (λ o. committed p w (answer p w (usable p w o))) (found_first live.done v rest here)
    ∙ (let j = answer p w (usable p w (Some v)) in ap (λ l. unclaimed (after_move p live j) older l (log ++ accepted_now live.done j)) (without_first live.done c v rest h))

-- n commits, where verdicts stand for the next n moves and c more
pub commit_each_run : (p : Run) (live older : Standing) (vs : List JudgedMove) (log : List Accepted) (n c : ℕ) → numbers vs ≡ range_with_len live.done (n + c) → live.done + n ≤ stage_end p older
    → (x : Standing) × (more : List Accepted) × (run_through p (unclaimed live older vs log) (commit_each n) ≡ unclaimed x older (drop n vs) (log ++ more)) × (x.done ≡ live.done + n)
commit_each_run p live older vs log zero c h before = (live, [], ap (unclaimed live older vs) (sym (append-nil log)), omega arith)
commit_each_run p live older [] log (suc n) c h before =
    let e : suc n + c ≡ suc (n + c) = omega arith in
    let bad : [] ≡ range_with_len live.done (suc (n + c)) = h ∙ ap (range_with_len live.done) e in
    cc
commit_each_run p live older (v ∷ vs) log (suc n) c h before =
    let e : suc n + c ≡ suc (n + c) = omega arith in
    let all : numbers (v ∷ vs) ≡ range_with_len live.done (suc (n + c)) = h ∙ ap (range_with_len live.done) e in
    let there : numbers vs ≡ range_with_len (live.done + 1) (n + c) = cc in
    let j = answer p (unclaimed live older (v ∷ vs) log) (usable p (unclaimed live older (v ∷ vs) log) (Some v)) in
    let (x, more, is, done) = commit_each_run p (after_move p live j) older vs (log ++ accepted_now live.done j) n c there (omega arith) in (
      x,
      accepted_now live.done j ++ more,
      ap (λ w. run_through p w (commit_each n)) (commit_first p live older v vs log (n + c) all (omega arith))
          ∙ is
          ∙ ap (unclaimed x older (drop n vs)) (append_assoc log (accepted_now live.done j) more),
      omega (arith, done),
    )

-- losing what was judged ahead

abbrev pub workers : List JudgedMove → List ℕ
workers vs = map (λ (v : JudgedMove). v.worker) vs

none_later : (k n : ℕ) (vs : List JudgedMove) → has_number k (workers vs) ≡ false → list_any (λ (v : JudgedMove). v.worker == k && nat_lt n v.number) vs ≡ false
none_later k n [] h = refl
none_later k n (u ∷ vs) h =
    let parts = or_parts (k == u.worker) (has_number k (workers vs)) h in
    let other : (u.worker == k) ≡ false = ne_eqb u.worker k (λ q. eqb-false k u.worker parts.0 (sym q)) in
    or_from (u.worker == k && nat_lt n u.number) (list_any (λ (v : JudgedMove). v.worker == k && nat_lt n v.number) vs)
    (ap (λ b. b && nat_lt n u.number) other) (none_later k n vs parts.1)

any_push : (p : JudgedMove → Bool) (vs : List JudgedMove) (v : JudgedMove) → list_any p vs ≡ false → p v ≡ false → list_any p (vs ++ v ∷ []) ≡ false
any_push p [] v h e = or_from (p v) false e refl
any_push p (u ∷ vs) v h e =
    let parts = or_parts (p u) (list_any p vs) h in
    or_from (p u) (list_any p (vs ++ v ∷ [])) parts.0 (any_push p vs v parts.1 e)

and_false : (b : Bool) → (b && false) ≡ false
and_false true = refl
and_false false = refl

-- the one verdict of a worker is its last
last_alone : (k : ℕ) (vs : List JudgedMove) (v : JudgedMove) → has_number k (workers vs) ≡ false → is_last k (vs ++ v ∷ []) v.number ≡ true
last_alone k vs v h =
    let same : nat_lt v.number v.number ≡ false = le-ltb v.number v.number (omega arith) in
    ap not (any_push (λ (u : JudgedMove). u.worker == k && nat_lt v.number u.number) vs v (none_later k v.number vs h)
    (ap (λ b. v.worker == k && b) same ∙ and_false (v.worker == k)))

filter_last : (k : ℕ) (last : ℕ → Bool) (vs : List JudgedMove) (v : JudgedMove) → has_number k (workers vs) ≡ false → v.worker ≡ k → last v.number ≡ true
    → filter (λ (v : JudgedMove). not (v.worker == k && last v.number)) (vs ++ v ∷ []) ≡ vs
filter_last k last [] v h e t = λ i. cond (not (eq-eqb v.worker k e i && t i)) (v ∷ []) []
filter_last k last (u ∷ vs) v h e t =
    let parts = or_parts (k == u.worker) (has_number k (workers vs)) h in
    let other : (u.worker == k) ≡ false = ne_eqb u.worker k (λ q. eqb-false k u.worker parts.0 (sym q)) in
    let rest = filter (λ (v : JudgedMove). not (v.worker == k && last v.number)) (vs ++ v ∷ []) in
    ap (λ b. cond (not (b && last u.number)) (u ∷ rest) rest) other
    ∙ ap (λ l. u ∷ l) (filter_last k last vs v parts.1 e t)

pub lose_last : (p : Run) (live older : Standing) (vs : List JudgedMove) (v : JudgedMove) (log : List Accepted) (k : ℕ) → has_number k (workers vs) ≡ false → v.worker ≡ k
    → happens p (unclaimed live older (vs ++ v ∷ []) log) (Lose k) ≡ unclaimed live older vs log
lose_last p live older vs v log k h e =
    ap (λ l. unclaimed live older l log) (filter_last k (is_last k (vs ++ v ∷ [])) vs v h e (last_alone k vs v h))

pub numbers_of : (p : Run) (older : Standing) (ks : List ℕ) → numbers (map (verdict_on p older) ks) ≡ ks
numbers_of p older [] = refl
numbers_of p older (k ∷ ks) = ap (λ l. k ∷ l) (numbers_of p older ks)

pub range-append : (a n m : ℕ) → range_with_len a n ++ range_with_len (a + n) m ≡ range_with_len a (n + m)
range-append a zero m = (let e : a + 0 ≡ a = omega arith in let f : m ≡ 0 + m = omega arith in λ i. range_with_len (e i) (f i))
range-append a (suc n) m =
    let e : a + suc n ≡ a + 1 + n = omega arith in
    let f : suc (n + m) ≡ suc n + m = omega arith in
    ap (λ b. a ∷ (range_with_len (a + 1) n ++ range_with_len b m)) e ∙ ap (λ l. a ∷ l) (range-append (a + 1) n m) ∙ ap (range_with_len a) f

workers_of : (p : Run) (older : Standing) (ks : List ℕ) → workers (map (verdict_on p older) ks) ≡ ks
workers_of p older [] = refl
workers_of p older (k ∷ ks) = ap (λ l. k ∷ l) (workers_of p older ks)

-- of the verdicts for c and n moves from k on the last n are lost
pub lose_each_run : (p : Run) (live older base : Standing) (log : List Accepted) (k c n : ℕ)
    → run_through p (unclaimed live older (map (verdict_on p base) (range_with_len k (c + n))) log) (lose_each (k + c) n) ≡ unclaimed live older (map (verdict_on p base) (range_with_len k c)) log
lose_each_run p live older base log k c zero =
    (let e : c + 0 ≡ c = omega arith in ap (λ m. unclaimed live older (map (verdict_on p base) (range_with_len k m)) log) e)
lose_each_run p live older base log k c (suc n) =
    let v = verdict_on p base (k + (c + n)) in
    let front = map (verdict_on p base) (range_with_len k (c + n)) in
    let e : c + suc n ≡ suc (c + n) = omega arith in
    let last : k + (c + n) ≡ k + c + n = omega arith in
    let split : map (verdict_on p base) (range_with_len k (c + suc n)) ≡ front ++ v ∷ [] =
    ap (λ m. map (verdict_on p base) (range_with_len k m)) e
    ∙ ap (map (verdict_on p base)) (range_more k (c + n))
    ∙ map-append (verdict_on p base) (range_with_len k (c + n)) ((k + (c + n)) ∷ []) in
    let none : has_number (k + c + n) (workers front) ≡ false =
    ap (has_number (k + c + n)) (workers_of p base (range_with_len k (c + n))) ∙ past_range (k + c + n) k (c + n) (omega arith) in
    ap (λ l. run_through p (happens p (unclaimed live older l log) (Lose (k + c + n))) (lose_each (k + c) n)) split
    ∙ ap (λ w. run_through p w (lose_each (k + c) n)) (lose_last p live older front v log (k + c + n) none last)
    ∙ lose_each_run p live older base log k c n
