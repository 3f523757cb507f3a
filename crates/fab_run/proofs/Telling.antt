-- Stages told one after another, each colder than the one before.
use Rattle.std.proofs.Common.{◌≡◌, ℕ, zero, suc, ◌+◌, ◌-◌, ◌*◌, ◌/◌, ◌%◌, ◌<◌, ◌≤◌, true, cond, eqb, List, [], ◌∷◌, ◌++◌, length, take, Option, Some, None, is_some, refl, sym, ap, subst, ◌∙◌, arith, inl, inr}
use Rattle.std.specs.Io.KnownBytes.{Appends}
use Rattle.std.proofs.lemmas.Bool.{eq-eqb, cases_eq, false≢true}
use Rattle.std.proofs.lemmas.List.{append-nil, append_assoc, length-append}
use Rattle.std.proofs.lemmas.Nat.{mod-mul-add}
use Rattle.std.proofs.Math.Nat.{mod-add-div}
use Rattle.fab_sched.specs.Annealing.{Plan, IsCooling, cooled, factor_by, hot, next_heat}
use Rattle.fab_sched.proofs.Falling.{cooled_on, cooler, factor_small, hot_le}
use Rattle.fab_commit.specs.Serial.{Run, Standing, accepted_among, from, judged_here, left_at, moves_left, one_if, step}
use Rattle.fab_commit.specs.Run.Commits.{AnnealOf, IsSameRun, run, run_of}
use Rattle.fab_commit.proofs.RunLemmas.Folding.{still_hot, step_is, from_add}
use Rattle.fab_run.specs.Piece.{stage_costs, stage_lines}
use Rattle.fab_run.proofs.Pieces.{accepted_add, costs_add, lines_add, stays_in}

pub appends_two : (a b c : Option (List ℕ)) (xs ys : List ℕ) → Appends a b xs → Appends b c ys → Appends a c (xs ++ ys)
appends_two None b c xs ys p q = tt
appends_two (Some x) None c xs ys p q = absurd p
appends_two (Some x) (Some y) None xs ys p q = absurd q
appends_two (Some x) (Some y) (Some z) xs ys p q = q ∙ ap (λ l. l ++ ys) p ∙ append_assoc x xs ys

pub appends_none : (a : Option (List ℕ)) → Appends a a []
appends_none None = tt
appends_none (Some x) = sym (append-nil x)

-- one more than a temperature, and 0 for none
abbrev pub warmth : Option ℕ → ℕ
warmth None = 0
warmth (Some t) = t + 1

colder_by : (p : Plan) (f t : ℕ) → f ≤ 999 → warmth (cooled p f (Some t)) < t + 1
colder_by p f t small =
    elim (cases_eq t 0) [
      | inl z ↦
          let none : cooled p f (Some t) ≡ None = ap (λ b. cond b None (Some (hot p (t * f / 1000)))) (eq-eqb t 0 z) in
          let w = ap warmth none in
          omega (arith, w)
      | inr ne ↦
          let some : 0 < t = omega arith in
          let w = ap warmth (cooled_on p f t some) in
          let h = hot_le p (t * f / 1000) in
          let c = cooler t f some small in
          omega (arith, w, h, c)
    ]

next_colder : (p : Plan) (range accepted t : ℕ) → IsCooling p.cooling → warmth (next_heat p range accepted (Some t)) < t + 1
next_colder p range accepted t c = colder_by p (factor_by p.cooling p.moves range accepted) t (factor_small p.cooling p.moves range accepted c)

colder_from : (p : Plan) (range accepted : ℕ) (h : Option ℕ) → IsCooling p.cooling → is_some h ≡ true → warmth (next_heat p range accepted h) < warmth h
colder_from p range accepted None c e = absurd (false≢true e)
colder_from p range accepted (Some t) c e = next_colder p range accepted t c

left_some : (moves n : ℕ) (h : Option ℕ) → is_some h ≡ true → left_at moves n h ≡ moves - n % moves
left_some moves n None e = absurd (false≢true e)
left_some moves n (Some t) e = refl

over_mod : (n m : ℕ) → n % m + 1 ≡ m → (n + 1) % m ≡ 0
over_mod n m h =
    let split = mod-add-div n m in
    let e : n + 1 ≡ (n / m + 1) * m + 0 = turned (n % m) (n / m) m n split h in
    ap (λ k. k % m) e ∙ mod-mul-add (n / m + 1) m 0 (omega (arith, h))
  where
    turned : (a b m n : ℕ) → a + m * b ≡ n → a + 1 ≡ m → n + 1 ≡ (b + 1) * m + 0
    turned a b m n e q = grind (arith, e, q)

-- each whole stage leaves a lower temperature, or none
pub colder_whole : (r : Run) (x : Standing) (n : ℕ) → IsCooling r.plan.cooling → moves_left r x ≡ suc n → warmth (from r x (suc n)).heat < warmth x.heat
colder_whole r x zero c e =
    let hot_here = still_hot r x (omega (arith, e)) in
    let left = left_some r.plan.moves x.done x.heat hot_here in
    let over : eqb ((x.done + 1) % r.plan.moves) 0 ≡ true = eq-eqb ((x.done + 1) % r.plan.moves) 0 (over_mod x.done r.plan.moves (omega (arith, left, e))) in
    let took = x.accepted + one_if (judged_here r x x.done).accepted in
    let heat : (step r x).heat ≡ next_heat r.plan x.range took x.heat = ap (λ y. y.heat) (step_is r x hot_here) ∙ ap (λ b. cond b (next_heat r.plan x.range took x.heat) x.heat) over in
    let colder = colder_from r.plan x.range took x.heat c hot_here in
    let w = ap warmth heat in
    omega (arith, colder, w)
colder_whole r x (suc n) c e =
    let s = stays_in r x (omega (arith, e)) in
    let left = s.left in
    let rest = colder_whole r (step r x) n c (omega (arith, e, left)) in
    let w = ap warmth s.heat in
    omega (arith, rest, w)

pub colder_by_stage : (r : Run) (x : Standing) (n : ℕ) → IsCooling r.plan.cooling → 0 < n → moves_left r x ≡ n → warmth (from r x n).heat < warmth x.heat
colder_by_stage r x zero c p e = absurd (omega arith)
colder_by_stage r x (suc n) c p e = colder_whole r x n c e

-- how far a run has come, and what is told of it
pub record HasTold (r : Run) (x y : Standing) (accepted0 accepted costs0 costs : List ℕ) (old new : Option (List ℕ)) (n : ℕ) : Type 0 where
  pub stands : y ≡ from r x n
  pub numbers : accepted ≡ accepted0 ++ accepted_among r x n
  pub values : costs ≡ costs0 ++ stage_costs r x n
  pub told : Appends old new (stage_lines r x n)

pub told_nothing : (r : Run) (x : Standing) (accepted costs : List ℕ) (old : Option (List ℕ)) → HasTold r x x accepted accepted costs costs old old 0
told_nothing r x accepted costs old = record { stands = refl; numbers = sym (append-nil accepted); values = sym (append-nil costs); told = appends_none old }

pub told_on : (r : Run) (x y z : Standing) (a0 a b c0 c d : List ℕ) (old mid new : Option (List ℕ)) (n m : ℕ)
    → HasTold r x y a0 a c0 c old mid n → z ≡ from r y m → b ≡ a ++ accepted_among r y m → d ≡ c ++ stage_costs r y m → Appends mid new (stage_lines r y m)
    → HasTold r x z a0 b c0 d old new (n + m)
told_on r x y z a0 a b c0 c d old mid new n m t stands numbers values told =
    record {
      stands = stands ∙ ap (λ s. from r s m) t.stands ∙ sym (from_add r x n m);
      numbers =
          numbers
          ∙ (λ i. t.numbers i ++ accepted_among r (t.stands i) m)
          ∙ append_assoc a0 (accepted_among r x n) (accepted_among r (from r x n) m)
          ∙ ap (λ l. a0 ++ l) (sym (accepted_add r x n m));
      values =
          values
          ∙ (λ i. t.values i ++ stage_costs r (t.stands i) m)
          ∙ append_assoc c0 (stage_costs r x n) (stage_costs r (from r x n) m)
          ∙ ap (λ l. c0 ++ l) (sym (costs_add r x n m));
      told =
          subst (λ l. Appends old new l) (sym (lines_add r x n m))
          (appends_two old mid new (stage_lines r x n) (stage_lines r (from r x n) m) t.told (subst (λ s. Appends mid new (stage_lines r s m)) t.stands told));
    }

pub take_whole : (xs : List ℕ) → take (length xs) xs ≡ xs
take_whole [] = refl
take_whole (x ∷ xs) = ap (λ l. x ∷ l) (take_whole xs)

pub take_more : (xs ys : List ℕ) (k : ℕ) → take (length xs + k) (xs ++ ys) ≡ xs ++ take k ys
take_more [] ys k = (let e : 0 + k ≡ k = omega arith in ap (λ n. take n ys) e)
take_more (x ∷ xs) ys k = (let e : suc (length xs) + k ≡ suc (length xs + k) = omega arith in ap (λ n. take n (x ∷ (xs ++ ys))) e ∙ ap (λ l. x ∷ l) (take_more xs ys k))

-- what went out is a beginning of the stages' lines
pub cut_between : (old now : Option (List ℕ)) (lines : List ℕ) → Appends old now lines → Appends old now (take (length lines) lines)
cut_between old now lines p = subst (λ l. Appends old now l) (sym (take_whole lines)) p

pub cut_within : (r : Run) (x y : Standing) (n m k : ℕ) (old mid new : Option (List ℕ)) (line : List ℕ)
    → Appends old mid (stage_lines r x n) → y ≡ from r x n → line ≡ stage_lines r y m → Appends mid new (take k line)
    → Appends old new (take (length (stage_lines r x n) + k) (stage_lines r x (n + m)))
cut_within r x y n m k old mid new line told stands is cut =
    let here : take k line ≡ take k (stage_lines r (from r x n) m) = ap (take k) is ∙ ap (λ s. take k (stage_lines r s m)) stands in
    let two = appends_two old mid new (stage_lines r x n) (take k line) told cut in
    let all : stage_lines r x n ++ take k line ≡ take (length (stage_lines r x n) + k) (stage_lines r x (n + m)) =
    ap (λ l. stage_lines r x n ++ l) here
    ∙ sym (take_more (stage_lines r x n) (stage_lines r (from r x n) m) k)
    ∙ ap (take (length (stage_lines r x n) + k)) (sym (lines_add r x n m)) in
    subst (λ l. Appends old new l) all two

pub same_run : {W : Type 0} (moves : W → ℕ → List ℕ) (a b : AnnealOf W) → IsSameRun a b → run_of moves b ≡ run_of moves a
same_run moves a b s = (λ i. run (s.design i) (s.grid i) (s.fixed i) (moves (s.words i)) (s.plan i))

pub same_twice : {W : Type 0} (a b c : AnnealOf W) → IsSameRun a b → IsSameRun b c → IsSameRun a c
same_twice a b c p q = record { design = q.design ∙ p.design; grid = q.grid ∙ p.grid; fixed = q.fixed ∙ p.fixed; plan = q.plan ∙ p.plan; words = q.words ∙ p.words }

-- where not all of a line went out, neither did all of the lines
pub short_within : (r : Run) (x y : Standing) (n m k : ℕ) (line : List ℕ) → y ≡ from r x n → line ≡ stage_lines r y m → k < length line → length (stage_lines r x n) + k < length (stage_lines r x (n + m))
short_within r x y n m k line stands is less =
    let long : length line ≡ length (stage_lines r (from r x n) m) = ap length is ∙ ap (λ s. length (stage_lines r s m)) stands in
    let all : length (stage_lines r x (n + m)) ≡ length (stage_lines r x n) + length (stage_lines r (from r x n) m) = ap length (lines_add r x n m) ∙ length-append (stage_lines r x n) (stage_lines r (from r x n) m) in
    omega (arith, less, long, all)
