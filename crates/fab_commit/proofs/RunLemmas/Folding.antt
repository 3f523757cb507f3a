-- Moves one after another: they compose, and a stage goes on while it has moves left.
use Rattle.std.proofs.Common.{◌≡◌, ℕ, zero, suc, ◌+◌, ◌-◌, ◌*◌, ◌/◌, ◌%◌, ◌<◌, Bool, true, false, cond, eqb, Option, Some, None, is_some, refl, ap, ◌∙◌, arith}
use Rattle.std.proofs.lemmas.Bool.{ne_eqb, false≢true}
use Rattle.std.proofs.lemmas.Nat.{mod-mul-add}
use Rattle.std.proofs.Math.Nat.{mod-add-div}
use Rattle.fab_commit.specs.Run.Commits.{heat_of}
use Rattle.fab_commit.specs.Serial.{Run, Standing, step, from, after_move, judged_here, moves_left, left_at, one_if}
use Rattle.fab_sched.specs.Annealing.{next_heat}

-- n moves and then m moves
pub from_add : (r : Run) (x : Standing) (n m : ℕ) → from r x (n + m) ≡ from r (from r x n) m
from_add r x zero m = (let e : 0 + m ≡ m = omega arith in ap (from r x) e)
from_add r x (suc n) m = (let e : suc n + m ≡ suc (n + m) = omega arith in ap (from r x) e ∙ from_add r (step r x) n m)

next_mod : (n m : ℕ) → n % m + 1 < m → (n + 1) % m ≡ n % m + 1
next_mod n m h =
    let split = mod-add-div n m in
    let e : n + 1 ≡ n / m * m + (n % m + 1) = turned (n % m) (n / m) m n split in
    ap (λ k. k % m) e ∙ mod-mul-add (n / m) m (n % m + 1) h
  where
    turned : (a b m n : ℕ) → a + m * b ≡ n → n + 1 ≡ b * m + (a + 1)
    turned a b m n e = grind (arith, e)

abbrev with_heat : Standing → Option ℕ → Standing
with_heat x h = record x { heat = h }

hot_left : (r : Run) (x : Standing) (h : Option ℕ) → x.heat ≡ h → 0 < moves_left r x → is_some x.heat ≡ true
hot_left r x None e l = absurd (none_left e l)
  where
    none_left : x.heat ≡ None → 0 < moves_left r x → ⊥
    none_left e l = (let z = ap (left_at r.plan.moves x.done) e in omega (arith, z, l))
hot_left r x (Some t) e l = ap is_some e

-- a stage with moves left has a temperature
pub still_hot : (r : Run) (x : Standing) → 0 < moves_left r x → is_some x.heat ≡ true
still_hot r x l = hot_left r x x.heat refl l

pub step_is : (r : Run) (x : Standing) → is_some x.heat ≡ true → step r x ≡ after_move r x (judged_here r x x.done)
step_is r x h = ap (λ b. cond b (after_move r x (judged_here r x x.done)) x) h

pub left_some : (moves n : ℕ) (h : Option ℕ) → is_some h ≡ true → left_at moves n h ≡ moves - n % moves
left_some moves n None e = absurd (false≢true e)
left_some moves n (Some t) e = refl

-- the last move of a stage alone ends it
pub not_over : (r : Run) (x : Standing) → 1 < moves_left r x → eqb ((x.done + 1) % r.plan.moves) 0 ≡ false
not_over r x l =
    let here = left_some r.plan.moves x.done x.heat (still_hot r x (omega (arith, l))) in
    let next = next_mod x.done r.plan.moves (omega (arith, l, here)) in
    ne_eqb ((x.done + 1) % r.plan.moves) 0 (λ e. absurd (omega (arith, e, next)))

-- a move within a stage leaves it one move shorter
pub left_step : (r : Run) (x : Standing) → 1 < moves_left r x → moves_left r (step r x) + 1 ≡ moves_left r x
left_step r x l =
    let hot = still_hot r x (omega (arith, l)) in
    let here = left_some r.plan.moves x.done x.heat hot in
    let inside : x.done % r.plan.moves + 1 < r.plan.moves = omega (arith, l, here) in
    let next = next_mod x.done r.plan.moves inside in
    let on = not_over r x l in
    let j = judged_here r x x.done in
    let heat : (after_move r x j).heat ≡ x.heat = ap (λ b. cond b (next_heat r.plan x.range (x.accepted + one_if j.accepted) x.heat) x.heat) on in
    let after : moves_left r (after_move r x j) ≡ r.plan.moves - (x.done + 1) % r.plan.moves = left_some r.plan.moves (x.done + 1) (after_move r x j).heat (ap is_some heat ∙ hot) in
    let same = ap (moves_left r) (step_is r x hot) in
    omega (arith, here, next, after, same, inside)

-- while the stage has moves left it goes on
pub goes_on : (r : Run) (x : Standing) (n : ℕ) → n < moves_left r x → is_some (from r x n).heat ≡ true
goes_on r x zero l = still_hot r x l
goes_on r x (suc n) l = (let e = left_step r x (omega (arith, l)) in goes_on r (step r x) n (omega (arith, e, l)))

pub step_done : (r : Run) (x : Standing) → is_some x.heat ≡ true → (step r x).done ≡ x.done + 1
step_done r x h = ap (λ y. y.done) (step_is r x h)

pub not_ended : (b : Bool) (t : ℕ) → is_some (heat_of b t) ≡ true → b ≡ false
not_ended true t e = absurd (false≢true e)
not_ended false t e = refl

pub hot_at : (b : Bool) (t : ℕ) → b ≡ false → is_some (heat_of b t) ≡ true
hot_at b t e = ap (λ c. is_some (heat_of c t)) e

-- n moves within a stage leave it n moves shorter
pub left_from : (r : Run) (x : Standing) (n : ℕ) → n < moves_left r x → moves_left r (from r x n) + n ≡ moves_left r x
left_from r x zero l = omega arith
left_from r x (suc n) l =
    let one = left_step r x (omega (arith, l)) in
    let rest = left_from r (step r x) n (omega (arith, l, one)) in
    omega (arith, one, rest)
