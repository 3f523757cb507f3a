-- What was accepted since a run's standing, as more moves are made.
use Rattle.std.proofs.Common.{◌≡◌, ℕ, zero, suc, ◌+◌, ◌-◌, ◌≤◌, Bool, true, false, cond, List, [], length, ◌++◌, Some, None, is_some, Result, Ok, Err, refl, sym, ap, subst, ◌∙◌, arith}
use Rattle.std.specs.declared.alloc.AllocError.{AllocError}
use Rattle.std.proofs.lemmas.List.{length-append}
use Rattle.fab_commit.specs.declared.run.pipeline.Pipeline.{Pipeline}
use Rattle.fab_commit.specs.declared.run.state.State.{State}
use Rattle.fab_commit.specs.Serial.{Run, Standing, accepted_among, accepted_here, after_move, from, judged_here, numbers_if, one_if, step}
use Rattle.fab_commit.specs.Run.Commits.{standing_of}
use Rattle.fab_commit.specs.Run.Noted.{noted, noted_more}
use Rattle.fab_commit.specs.Run.Pipelines.{HasTurned, IsAfter, TurnsOn}
use Rattle.fab_commit.specs.Run.Since.{IsSince, accepted_since}
use Rattle.fab_commit.specs.Model.TurnEvents.{LastTurn}
use Rattle.fab_commit.proofs.RunLemmas.Annealing.{moves_made, noted_on, stands_on}
use Rattle.fab_commit.proofs.RunLemmas.Folding.{from_add}
use Rattle.fab_commit.proofs.RunLemmas.Going.{accepted_add}
use Rattle.fab_commit.proofs.RunLemmas.Owning.{led_same}

-- what was accepted up to a later move: what was accepted up to here, and what the moves from here on accept
pub accepted_later : (r : Run) (x y : Standing) (now : ℕ) → x.done ≤ y.done → y.done ≤ now → y ≡ from r x (y.done - x.done)
    → accepted_since r x now ≡ accepted_since r x y.done ++ accepted_among r y (now - y.done)
accepted_later r x y now after later here =
    let n = y.done - x.done in
    let m = now - y.done in
    let sum : now - x.done ≡ n + m = omega (arith, after, later) in
    ap (accepted_among r x) sum ∙ sym (accepted_add r x n m) ∙ ap (λ z. accepted_among r x n ++ accepted_among r z m) (sym here)

-- a value begins
pub since_start : (r : Run) (s : State) → noted s.accepted ≡ Some [] → IsSince r true s.total (standing_of s) s
since_start r s none =
    let x = standing_of s in
    let zero_made : 0 ≡ s.done - s.done = omega arith in
    record {
      first = refl;
      after = omega arith;
      here = ap (from r x) zero_made;
      numbers = none ∙ ap (λ n. Some (accepted_among r x n)) zero_made;
    }

-- more moves are made
pub since_on : (r : Run) (keeps : Bool) (before : ℕ) (x : Standing) (s now : State) → IsSince r keeps before x s → s.done ≤ now.done → standing_of now ≡ from r (standing_of s) (now.done - s.done)
    → noted now.accepted ≡ noted_more (noted s.accepted) (accepted_among r (standing_of s) (now.done - s.done)) → IsSince r keeps before x now
since_on r keeps before x s now h later there numbers =
    let n = s.done - x.done in
    let m = now.done - s.done in
    let after = h.after in
    let sum : n + m ≡ now.done - x.done = omega (arith, after, later) in
    record {
      first = h.first;
      after = omega (arith, after, later);
      here = there ∙ ap (λ y. from r y m) h.here ∙ sym (from_add r x n m) ∙ ap (from r x) sum;
      numbers = numbers ∙ ap (λ o. noted_more o (accepted_among r (standing_of s) m)) h.numbers ∙ kept keeps (accepted_since r x s.done) (accepted_since r x now.done) (accepted_among r (standing_of s) m) (sym (accepted_later r x (standing_of s) now.done after later h.here));
    }
  where
    kept : (b : Bool) (a c l : List ℕ) → a ++ l ≡ c → noted_more (cond b (Some a) None) l ≡ cond b (Some c) None
    kept true a c l e = ap (λ k. Some k) e
    kept false a c l e = refl

-- a turn is made
pub since_turned : (r : Run) (keeps : Bool) (before : ℕ) (x : Standing) (t : LastTurn) (s now : Pipeline) (n ahead : ℕ) → IsAfter r t s → HasTurned r t s n ahead now
    → IsSince r keeps before x s.owner.state → IsSince r keeps before x now.owner.state
since_turned r keeps before x t s now n ahead b h since =
    let made = moves_made r t s now n ahead b h in
    since_on r keeps before x s.owner.state now.owner.state since (omega (arith, made)) (stands_on r t s now n ahead b h) (noted_on r t s now n ahead b h)

pub since_turn : {A : Type 0} (r : Run) (keeps : Bool) (before : ℕ) (x : Standing) (batch : ℕ) (t : LastTurn) (s now : Pipeline) (answer : Result A AllocError) → IsAfter r t s → TurnsOn r batch s now answer
    → IsSince r keeps before x s.owner.state → IsSince r keeps before x now.owner.state
since_turn r keeps before x batch t s now (Ok a) b on = since_turned r keeps before x t s now _ _ b (on.ok t b)
since_turn r keeps before x batch t s now (Err e) b on = since_turned r keeps before x t s now _ _ b (on.err t b)

-- moves are made alone
pub since_made : (r : Run) (keeps : Bool) (before : ℕ) (x : Standing) (s now : State) (made : ℕ) → now.done ≡ s.done + made → standing_of now ≡ from r (standing_of s) made
    → noted now.accepted ≡ noted_more (noted s.accepted) (accepted_among r (standing_of s) made) → IsSince r keeps before x s → IsSince r keeps before x now
since_made r keeps before x s now made done there numbers since =
    let some : made ≡ now.done - s.done = omega (arith, done) in
    since_on r keeps before x s now since (omega (arith, done)) (there ∙ ap (from r (standing_of s)) some) (numbers ∙ ap (λ k. noted_more (noted s.accepted) (accepted_among r (standing_of s) k)) some)

-- how many moves were accepted in all grows by those accepted
total_step : (r : Run) (x : Standing) → (step r x).total ≡ x.total + length (accepted_here r x)
total_step r x = moved_on (is_some x.heat) (judged_here r x x.done).accepted refl
  where
    one : (k : ℕ) (b : Bool) → one_if b ≡ length (numbers_if k b)
    one k true = refl
    one k false = refl

    moved_on : (hot took : Bool) → (judged_here r x x.done).accepted ≡ took
        → (cond hot (after_move r x (judged_here r x x.done)) x).total ≡ x.total + length (cond hot (numbers_if x.done (judged_here r x x.done).accepted) [])
    moved_on true took e = ap (λ n. x.total + n) (one x.done (judged_here r x x.done).accepted)
    moved_on false took e = omega arith

pub total_from : (r : Run) (x : Standing) (n : ℕ) → (from r x n).total ≡ x.total + length (accepted_among r x n)
total_from r x zero = omega arith
total_from r x (suc n) =
    let first = total_step r x in
    let rest = total_from r (step r x) n in
    let both = length-append (accepted_here r x) (accepted_among r (step r x) n) in
    omega (arith, first, rest, both)

-- so this value accepted as many as the total grew by
pub count_since : (r : Run) (keeps : Bool) (before : ℕ) (x : Standing) (s : State) → IsSince r keeps before x s → s.total ≡ before + length (accepted_since r x s.done)
count_since r keeps before x s h =
    let here = ap (λ (y : Standing). y.total) h.here in
    let total = total_from r x (s.done - x.done) in
    let first = h.first in
    omega (arith, here, total, first)

-- numbers that are forgotten
pub forgets : (r : Run) (t : LastTurn) (s now : Pipeline) → now ≡ record s { owner = record s.owner { state = record s.owner.state { accepted = None } } } → IsAfter r t s → IsAfter r t now
forgets r t s now is b = subst (IsAfter r t) (sym is) (record {
  at_turn = record {
    plan = b.at_turn.plan;
    owned = record {
      sound = (let sound = b.at_turn.owned.sound in record { legal = sound.legal; array = sound.array; cost = sound.cost; place = sound.place; counted = sound.counted; stage = sound.stage });
      table = b.at_turn.owned.table;
      counted = b.at_turn.owned.counted;
    };
    many = b.at_turn.many;
    swaps = b.at_turn.swaps;
    led = led_same r t.start t.made s.owner (record s.owner { state = record s.owner.state { accepted = None } }) s.base t.ahead t.ahead b.at_turn.led refl refl (omega arith);
  };
  judged = b.judged;
})

pub since_forgotten : (r : Run) (keeps : Bool) (before : ℕ) (x : Standing) (s : State) (now : Pipeline) (was : Pipeline) → now ≡ record was { owner = record was.owner { state = record was.owner.state { accepted = None } } } → was.owner.state ≡ s
    → IsSince r keeps before x s → IsSince r false before x now.owner.state
since_forgotten r keeps before x s now was is here h =
    subst (λ (p : Pipeline). IsSince r false before x p.owner.state) (sym is)
    (let since = subst (IsSince r keeps before x) (sym here) h in record { first = since.first; after = since.after; here = since.here; numbers = refl })

-- nothing was accepted yet
pub none_since : (r : Run) (x : Standing) (done : ℕ) → done ≡ x.done → accepted_since r x done ≡ []
none_since r x done same = (let none : done - x.done ≡ 0 = omega (arith, same) in ap (accepted_among r x) none)
