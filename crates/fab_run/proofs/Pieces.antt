-- A whole stage of moves, and stages one after another.
use Rattle.std.proofs.Common.{◌≡◌, ℕ, zero, suc, ◌+◌, ◌-◌, ◌*◌, ◌/◌, ◌%◌, ◌<◌, ◌≤◌, ◌==◌, Bool, true, false, cond, eqb, List, [], ◌∷◌, ◌++◌, max, Option, Some, None, is_some, refl, sym, ap, ◌∙◌, arith}
use Rattle.std.proofs.lemmas.Bool.{eq-eqb, ne_eqb, false≢true}
use Rattle.std.proofs.lemmas.List.{append-nil, append_assoc}
use Rattle.std.proofs.lemmas.Nat.{mod-mul-add, div-mul-add}
use Rattle.std.proofs.Math.Nat.{mod-add-div}
use Rattle.fab_sched.specs.Annealing.{next_heat, next_range}
use Rattle.fab_commit.specs.Serial.{Run, Standing, after_move, accepted_among, accepted_here, from, judged_here, left_at, moves_left, one_if, or_zero, stage_at, stage_of, step}
use Rattle.fab_sched.specs.declared.schedules.Stage.{Stage}
use Rattle.std.proofs.lemmas.Nat.{mod_below}
use Rattle.fab_commit.proofs.RunLemmas.Folding.{still_hot, step_is, left_step, from_add}
use Rattle.fab_run.specs.RunReport.{stage_line}
use Rattle.fab_run.specs.Piece.{IsOver, cost_at, cost_here, line_here, stage_costs, stage_lines}

-- n moves and then m moves
pub lines_add : (r : Run) (x : Standing) (n m : ℕ) → stage_lines r x (n + m) ≡ stage_lines r x n ++ stage_lines r (from r x n) m
lines_add r x zero m = (let e : 0 + m ≡ m = omega arith in ap (stage_lines r x) e)
lines_add r x (suc n) m =
    let e : suc n + m ≡ suc (n + m) = omega arith in
    ap (stage_lines r x) e
    ∙ ap (λ l. line_here r x ++ l) (lines_add r (step r x) n m)
    ∙ sym (append_assoc (line_here r x) (stage_lines r (step r x) n) (stage_lines r (from r (step r x) n) m))

pub costs_add : (r : Run) (x : Standing) (n m : ℕ) → stage_costs r x (n + m) ≡ stage_costs r x n ++ stage_costs r (from r x n) m
costs_add r x zero m = (let e : 0 + m ≡ m = omega arith in ap (stage_costs r x) e)
costs_add r x (suc n) m =
    let e : suc n + m ≡ suc (n + m) = omega arith in
    ap (stage_costs r x) e
    ∙ ap (λ l. cost_here r x ++ l) (costs_add r (step r x) n m)
    ∙ sym (append_assoc (cost_here r x) (stage_costs r (step r x) n) (stage_costs r (from r (step r x) n) m))

pub accepted_add : (r : Run) (x : Standing) (n m : ℕ) → accepted_among r x (n + m) ≡ accepted_among r x n ++ accepted_among r (from r x n) m
accepted_add r x zero m = (let e : 0 + m ≡ m = omega arith in ap (accepted_among r x) e)
accepted_add r x (suc n) m =
    let e : suc n + m ≡ suc (n + m) = omega arith in
    ap (accepted_among r x) e
    ∙ ap (λ l. accepted_here r x ++ l) (accepted_add r (step r x) n m)
    ∙ sym (append_assoc (accepted_here r x) (accepted_among r (step r x) n) (accepted_among r (from r (step r x) n) m))

one_le : (b : Bool) → one_if b ≤ 1
one_le true = omega arith
one_le false = omega arith

-- no accepted move is forgotten
step_total : (r : Run) (x : Standing) (b : Bool) → is_some x.heat ≡ b → x.total ≤ (step r x).total
step_total r x true e = (let k = ap (λ y. y.total) (step_is r x e) in omega (arith, k))
step_total r x false e = (let k = ap (λ c. (cond c (after_move r x (judged_here r x x.done)) x).total) e in omega (arith, k))

pub total_grows : (r : Run) (x : Standing) (n : ℕ) → x.total ≤ (from r x n).total
total_grows r x zero = omega arith
total_grows r x (suc n) =
    let a = step_total r x (is_some x.heat) refl in
    let b = total_grows r (step r x) n in
    omega (arith, a, b)

left_some : (moves n : ℕ) (h : Option ℕ) → is_some h ≡ true → left_at moves n h ≡ moves - n % moves
left_some moves n None e = absurd (false≢true e)
left_some moves n (Some t) e = refl

-- a move that does not end its stage
pub record StaysIn (r : Run) (x y : Standing) : Type 0 where
  pub index : y.done / r.plan.moves ≡ x.done / r.plan.moves
  pub heat : y.heat ≡ x.heat
  pub range : y.range ≡ x.range
  pub accepted : y.accepted ≡ x.accepted + one_if (judged_here r x x.done).accepted
  pub total : y.total ≡ x.total + one_if (judged_here r x x.done).accepted
  pub left : moves_left r y + 1 ≡ moves_left r x

next_parts : (n m : ℕ) → n % m + 1 < m → ((n + 1) % m ≡ n % m + 1) × ((n + 1) / m ≡ n / m)
next_parts n m h =
    let split = mod-add-div n m in
    let e : n + 1 ≡ n / m * m + (n % m + 1) = turned (n % m) (n / m) m n split in
    (ap (λ k. k % m) e ∙ mod-mul-add (n / m) m (n % m + 1) h, ap (λ k. k / m) e ∙ div-mul-add (n / m) m (n % m + 1) h)
  where
    turned : (a b m n : ℕ) → a + m * b ≡ n → n + 1 ≡ b * m + (a + 1)
    turned a b m n e = grind (arith, e)

pub stays_in : (r : Run) (x : Standing) → 1 < moves_left r x → StaysIn r x (step r x)
stays_in r x l =
    let hot = still_hot r x (omega (arith, l)) in
    let here = left_some r.plan.moves x.done x.heat hot in
    let inside : x.done % r.plan.moves + 1 < r.plan.moves = omega (arith, l, here) in
    let next = next_parts x.done r.plan.moves inside in
    let within = next.0 in
    let on : eqb ((x.done + 1) % r.plan.moves) 0 ≡ false = ne_eqb ((x.done + 1) % r.plan.moves) 0 (λ e. absurd (omega (arith, e, within))) in
    let j = judged_here r x x.done in
    let took = x.accepted + one_if j.accepted in
    let is = step_is r x hot in
    record {
      index = ap (λ y. y.done / r.plan.moves) is ∙ next.1;
      heat = ap (λ y. y.heat) is ∙ ap (λ b. cond b (next_heat r.plan x.range took x.heat) x.heat) on;
      range = ap (λ y. y.range) is ∙ ap (λ b. cond b (next_range r.plan (max r.problem.grid.nx r.problem.grid.ny) x.range took) x.range) on;
      accepted = ap (λ y. y.accepted) is ∙ ap (λ b. cond b 0 took) on;
      total = ap (λ y. y.total) is;
      left = left_step r x l;
    }

-- the line of a whole stage
abbrev pub line_of : Run → Standing → Standing → List ℕ
line_of r x y = stage_line (x.done / r.plan.moves) (or_zero x.heat) x.range r.plan.moves (x.accepted + (y.total - x.total)) (cost_at r y)

pub stage_lines_whole : (r : Run) (x : Standing) (n : ℕ) → moves_left r x ≡ suc n → stage_lines r x (suc n) ≡ line_of r x (from r x (suc n))
stage_lines_whole r x zero e =
    let hot = still_hot r x (omega (arith, e)) in
    let one : eqb (moves_left r x) 1 ≡ true = eq-eqb (moves_left r x) 1 e in
    let j = judged_here r x x.done in
    let total = ap (λ y. y.total) (step_is r x hot) in
    let same : x.accepted + one_if j.accepted ≡ x.accepted + ((step r x).total - x.total) = omega (arith, total) in
    append-nil (line_here r x)
    ∙ ap (λ b. cond b (stage_line (x.done / r.plan.moves) (or_zero x.heat) x.range r.plan.moves (x.accepted + one_if j.accepted) (cost_at r (step r x))) []) one
    ∙ ap (λ a. stage_line (x.done / r.plan.moves) (or_zero x.heat) x.range r.plan.moves a (cost_at r (step r x))) same
stage_lines_whole r x (suc n) e =
    let s = stays_in r x (omega (arith, e)) in
    let left = s.left in
    let rest = stage_lines_whole r (step r x) n (omega (arith, e, left)) in
    let more : eqb (moves_left r x) 1 ≡ false = ne_eqb (moves_left r x) 1 (λ q. absurd (omega (arith, e, q))) in
    let j = judged_here r x x.done in
    let grows = total_grows r (step r x) (suc n) in
    let end = from r (step r x) (suc n) in
    let accepted = s.accepted in
    let total = s.total in
    let same : (step r x).accepted + (end.total - (step r x).total) ≡ x.accepted + (end.total - x.total) = omega (arith, grows, accepted, total) in
    ap (λ b. cond b (stage_line (x.done / r.plan.moves) (or_zero x.heat) x.range r.plan.moves (x.accepted + one_if j.accepted) (cost_at r (step r x))) [] ++ stage_lines r (step r x) (suc n)) more
    ∙ rest
    ∙ (λ i. stage_line (s.index i) (or_zero (s.heat i)) (s.range i) r.plan.moves (same i) (cost_at r end))

pub stage_costs_whole : (r : Run) (x : Standing) (n : ℕ) → moves_left r x ≡ suc n → stage_costs r x (suc n) ≡ cost_at r (from r x (suc n)) ∷ []
stage_costs_whole r x zero e =
    let one : eqb (moves_left r x) 1 ≡ true = eq-eqb (moves_left r x) 1 e in
    append-nil (cost_here r x) ∙ ap (λ b. cond b (cost_at r (step r x) ∷ []) []) one
stage_costs_whole r x (suc n) e =
    let s = stays_in r x (omega (arith, e)) in
    let left = s.left in
    let rest = stage_costs_whole r (step r x) n (omega (arith, e, left)) in
    let more : eqb (moves_left r x) 1 ≡ false = ne_eqb (moves_left r x) 1 (λ q. absurd (omega (arith, e, q))) in
    ap (λ b. cond b (cost_at r (step r x) ∷ []) [] ++ stage_costs r (step r x) (suc n)) more ∙ rest

-- the running stage, as it is told
pub record IsTold (r : Run) (x : Standing) (s : Stage) : Type 0 where
  pub heat : x.heat ≡ Some s.t
  pub index : s.index ≡ x.done / r.plan.moves
  pub range : s.range ≡ x.range
  pub accepted : s.accepted ≡ x.accepted
  pub done : s.done ≡ x.done % r.plan.moves

told_by : (r : Run) (x : Standing) (s : Stage) (h : Option ℕ) → x.heat ≡ h → Some s ≡ stage_at r.plan x h → IsTold r x s
told_by r x s None e k = absurd cc
told_by r x s (Some t) e k =
    let same : s ≡ record { index = x.done / r.plan.moves; t = t; range = x.range; done = x.done % r.plan.moves; accepted = x.accepted; frozen = t == 0 } = some_same s _ k in
    record {
      heat = e ∙ ap (λ q. Some q) (sym (ap (λ q. q.t) same));
      index = ap (λ q. q.index) same;
      range = ap (λ q. q.range) same;
      accepted = ap (λ q. q.accepted) same;
      done = ap (λ q. q.done) same;
    }
  where
    some_same : (a b : Stage) → Some a ≡ Some b → a ≡ b
    some_same a b q = cc

pub told : (r : Run) (x : Standing) (s : Stage) → Some s ≡ stage_of r x → IsTold r x s
told r x s k = told_by r x s x.heat refl k

pub left_there : (r : Run) (x : Standing) (s : Stage) → Some s ≡ stage_of r x → 1 ≤ r.plan.moves → 0 < moves_left r x
left_there r x s k m =
    let t = told r x s k in
    let left = left_some r.plan.moves x.done x.heat (ap is_some t.heat) in
    let below = mod_below x.done r.plan.moves (omega (arith, m)) in
    omega (arith, left, below)

-- what the stage says is left of it
pub left_is : (r : Run) (x : Standing) (s : Stage) (moves : ℕ) → Some s ≡ stage_of r x → moves ≡ r.plan.moves → moves - s.done ≡ moves_left r x
left_is r x s moves k em =
    let t = told r x s k in
    (λ i. em i - t.done i) ∙ sym (left_some r.plan.moves x.done x.heat (ap is_some t.heat))

whole_line : (r : Run) (x : Standing) (n : ℕ) → 0 < n → moves_left r x ≡ n → stage_lines r x n ≡ line_of r x (from r x n)
whole_line r x zero pos e = absurd (omega arith)
whole_line r x (suc n) pos e = stage_lines_whole r x n e

whole_cost : (r : Run) (x : Standing) (n : ℕ) → 0 < n → moves_left r x ≡ n → stage_costs r x n ≡ cost_at r (from r x n) ∷ []
whole_cost r x zero pos e = absurd (omega arith)
whole_cost r x (suc n) pos e = stage_costs_whole r x n e

pub told_line : (r : Run) (x y : Standing) (s : Stage) (moves accepted cost : ℕ) → Some s ≡ stage_of r x → 1 ≤ r.plan.moves → y ≡ from r x (moves_left r x)
    → moves ≡ r.plan.moves → accepted ≡ s.accepted + (y.total - x.total) → cost ≡ cost_at r y
    → stage_line s.index s.t s.range moves accepted cost ≡ stage_lines r x (moves_left r x)
told_line r x y s moves accepted cost k m there em ea ec =
    let t = told r x s k in
    let whole = whole_line r x (moves_left r x) (left_there r x s k m) refl in
    let took : accepted ≡ x.accepted + (y.total - x.total) = ea ∙ ap (λ a. a + (y.total - x.total)) t.accepted in
    (λ i. stage_line (t.index i) (or_zero (sym t.heat i)) (t.range i) (em i) (took i) (ec i))
    ∙ ap (line_of r x) there
    ∙ sym whole

pub told_cost : (r : Run) (x y : Standing) (s : Stage) (cost : ℕ) → Some s ≡ stage_of r x → 1 ≤ r.plan.moves → y ≡ from r x (moves_left r x) → cost ≡ cost_at r y → cost ∷ [] ≡ stage_costs r x (moves_left r x)
told_cost r x y s cost k m there ec =
    ap (λ c. c ∷ []) (ec ∙ ap (cost_at r) there) ∙ sym (whole_cost r x (moves_left r x) (left_there r x s k m) refl)

left_le_by : (moves n : ℕ) (h : Option ℕ) → left_at moves n h ≤ moves
left_le_by moves n None = omega arith
left_le_by moves n (Some t) = omega arith

pub left_le : (r : Run) (x : Standing) → moves_left r x ≤ r.plan.moves
left_le r x = left_le_by r.plan.moves x.done x.heat

-- within a stage no line is told, and no cost
pub no_lines : (r : Run) (x : Standing) (n : ℕ) → n < moves_left r x → stage_lines r x n ≡ []
no_lines r x zero l = refl
no_lines r x (suc n) l =
    let s = stays_in r x (omega (arith, l)) in
    let left = s.left in
    let more : eqb (moves_left r x) 1 ≡ false = ne_eqb (moves_left r x) 1 (λ q. absurd (omega (arith, l, q))) in
    ap (λ b. cond b (stage_line (x.done / r.plan.moves) (or_zero x.heat) x.range r.plan.moves (x.accepted + one_if (judged_here r x x.done).accepted) (cost_at r (step r x))) [] ++ stage_lines r (step r x) n) more
    ∙ no_lines r (step r x) n (omega (arith, l, left))

pub no_costs : (r : Run) (x : Standing) (n : ℕ) → n < moves_left r x → stage_costs r x n ≡ []
no_costs r x zero l = refl
no_costs r x (suc n) l =
    let s = stays_in r x (omega (arith, l)) in
    let left = s.left in
    let more : eqb (moves_left r x) 1 ≡ false = ne_eqb (moves_left r x) 1 (λ q. absurd (omega (arith, l, q))) in
    ap (λ b. cond b (cost_at r (step r x) ∷ []) [] ++ stage_costs r (step r x) n) more
    ∙ no_costs r (step r x) n (omega (arith, l, left))

-- where no move is left, none is made
pub still : (r : Run) (x : Standing) → x.heat ≡ None → step r x ≡ x
still r x e = ap (λ q. cond (is_some q) (after_move r x (judged_here r x x.done)) x) e

pub from_still : (r : Run) (x : Standing) (n : ℕ) → x.heat ≡ None → from r x n ≡ x
from_still r x zero e = refl
from_still r x (suc n) e = ap (λ y. from r y n) (still r x e) ∙ from_still r x n e

pub over_later : (r : Run) (x : Standing) (n m : ℕ) → IsOver r x n → n ≤ m → IsOver r x m
over_later r x n m over low =
    let e : n + (m - n) ≡ m = omega (arith, low) in
    let there : from r x m ≡ from r x n = ap (from r x) (sym e) ∙ from_add r x n (m - n) ∙ from_still r (from r x n) (m - n) over in
    ap (λ y. y.heat) there ∙ over
