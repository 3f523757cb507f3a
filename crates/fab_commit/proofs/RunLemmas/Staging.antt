-- Moves of a stage that are made turn by turn.
use mathlib.Core.Logic.{dite}
use native.Mathlib.Decide.{dec_le}
use Rattle.std.proofs.Common.{◌≡◌, ℕ, ◌+◌, ◌-◌, ◌<◌, ◌≤◌, min, List, [], ◌∷◌, ◌++◌, replicate, lt_of_not-le, sym, ap, subst, arith}
use Rattle.fab_dial.specs.declared.readings.Reading.{Reading}
use Rattle.fab_commit.specs.declared.run.alone.OnBase.{OnBase}
use Rattle.fab_commit.specs.declared.run.owner.Owner.{Owner}
use Rattle.fab_commit.specs.declared.run.state.State.{State}
use Rattle.fab_commit.specs.Serial.{Run, moves_left}
use Rattle.fab_commit.specs.Run.Stages.{EndsAt, HasGone, HaveEnded, HaveGone, LeadsTo}
use Rattle.fab_commit.specs.Run.Commits.{IsSound, standing_of}
use Rattle.fab_commit.specs.Run.Further.{IsFurther}
use Rattle.fab_commit.specs.Run.Pipelines.{IsAtTurn}
use Rattle.fab_commit.specs.Run.Readings.{reading_at}
use Rattle.fab_commit.specs.Model.TurnEvents.{LastTurn, next_turn, stands}
use Rattle.fab_commit.specs.Model.Turns.{last_turn}
use Rattle.fab_commit.proofs.RunLemmas.InTurns.{have_more, none_gone}
use Rattle.fab_commit.proofs.RunLemmas.Folding.{left_from}
use Rattle.fab_commit.proofs.RunLemmas.Going.{further_more, further_none}
use Rattle.fab_commit.proofs.RunLemmas.Parts.{ended_short, ended_whole, ends_whole}
use Rattle.fab_commit.proofs.RunLemmas.Showing.{shown_behind, shown_on}

-- of `count` moves of a stage, `rest` are left. While some are left, all turns that were made were of this batch
pub record HasCome (r : Run) (batch count : ℕ) (s : State) (rest : ℕ) (now : State) (old new : List Reading) : Type 0 where
  pub low : rest ≤ count
  pub further : IsFurther r s (count - rest) now
  pub going : 0 < rest → LeadsTo r batch (standing_of s) (standing_of now) old new
  pub whole : count ≡ moves_left r (standing_of s) → LeadsTo r batch (standing_of s) (standing_of now) old new
  pub ends : EndsAt r batch (standing_of s) (standing_of now) old new

-- before the first turn
pub come_first : (r : Run) (batch count : ℕ) (s : State) (old : List Reading) → IsSound r s → HasCome r batch count s count s old old
come_first r batch count s old sound =
    let x = standing_of s in
    let zero : 0 ≡ count - count = omega arith in
    record {
      low = omega arith;
      further = subst (λ k. IsFurther r s k s) zero (further_none r s sound);
      going = λ some z before h. h;
      whole = λ w z before h. h;
      ends = ends_whole r batch x x old old (λ z before h. h);
    }

-- how many moves of the stage are left when `rest` of the `count` moves are
pub come_left : (r : Run) (batch count rest : ℕ) (s mid : State) (old was : List Reading) → HasCome r batch count s rest mid old was → 0 < rest → count ≤ moves_left r (standing_of s)
    → moves_left r (standing_of mid) + (count - rest) ≡ moves_left r (standing_of s)
come_left r batch count rest s mid old was come some most =
    let low = come.low in
    let there = ap (moves_left r) come.further.stands in
    let left = left_from r (standing_of s) (count - rest) (omega (arith, some, low, most)) in
    omega (arith, there, left)

-- the next turn makes as many moves as a batch has, or all that are left
pub come_size : (r : Run) (batch b count rest : ℕ) (s mid : State) (old was : List Reading) → HasCome r batch count s rest mid old was → 0 < rest → count ≤ moves_left r (standing_of s)
    → (batch ≤ rest → b ≡ batch) → (moves_left r (standing_of s) ≤ count → b ≡ batch) → (rest < batch → count < moves_left r (standing_of s) → b ≡ rest)
    → min b (moves_left r (standing_of mid)) ≡ min batch rest
come_size r batch b count rest s mid old was come some most whole last shorter =
    let low = come.low in
    let left = come_left r batch count rest s mid old was come some most in
    dite (dec_le batch rest)
    (λ l. (let e = whole l in omega (arith, e, l, left, low, most)))
    (λ g. dite (dec_le (moves_left r (standing_of s)) count)
    (λ l. (let e = last l in omega (arith, e, l, left, low, most)))
    (λ h. (let few = lt_of_not-le g in let e = shorter few (lt_of_not-le h) in omega (arith, e, few, left, low, most))))

-- one more turn
pub come_on : (r : Run) (batch count rest j : ℕ) (s mid now : State) (old was new : List Reading) → HasCome r batch count s rest mid old was → 0 < rest → 1 ≤ batch → count ≤ moves_left r (standing_of s) → j ≡ min batch rest
    → IsFurther r mid j now → new ≡ was ++ reading_at r (standing_of now) ∷ [] → HasCome r batch count s (rest - j) now old new
come_on r batch count rest j s mid now old was new come some one most size on shown =
    let x = standing_of s in
    let y = standing_of mid in
    let z = standing_of now in
    let low = come.low in
    let made = on.done in
    let left = come_left r batch count rest s mid old was come some most in
    let sum : count - rest + j ≡ count - (rest - j) = omega (arith, size, low) in
    let leads = come.going some in
    record {
      low = omega (arith, low);
      further = subst (λ k. IsFurther r s k now) sum (further_more r s mid now (count - rest) j come.further on);
      going = λ more a before h. shown_on r batch a before y was z new j (leads a before h) on.stands made (omega (arith, size, some, one)) (omega (arith, more, size, left, low, most)) shown;
      whole = λ w a before h. shown_on r batch a before y was z new j (leads a before h) on.stands made (omega (arith, size, some, one)) (omega (arith, w, size, left, low)) shown;
      ends = λ a before h. shown_behind r batch a before y was z new j (leads a before h) on.stands made (omega (arith, size, some, one)) (omega (arith, size)) (omega (arith, size, left, low, most)) shown;
    }

-- the redone moves of these turns are counted. After the last turn, which may be shorter, nothing counts as judged ahead
pub record HasTold (r : Run) (batch count : ℕ) (o : Owner) (ahead : OnBase) (rest : ℕ) (now : Owner) (due : OnBase) : Type 0 where
  pub gone : 0 < rest → (t : LastTurn) → IsAtTurn r t o ahead → (n : ℕ) × HaveGone r batch t o n (count - rest) now due
  pub ended : rest ≡ 0 → (t : LastTurn) → IsAtTurn r t o ahead → HaveEnded r batch t o count now (record { base = due.base; moves = 0 })

-- before the first turn
pub told_first : (r : Run) (batch count : ℕ) (o : Owner) (ahead : OnBase) → 0 < moves_left r (standing_of o.state) → HasTold r batch count o ahead count o ahead
told_first r batch count o ahead some =
    let zero : 0 ≡ count - count = omega arith in
    record {
      gone = λ more t a. (0, subst (λ k. HaveGone r batch t o 0 k o ahead) zero (none_gone r batch t o ahead a));
      ended = λ e t a. subst (λ k. HaveEnded r batch t o k o (record { base = ahead.base; moves = 0 })) (sym e) (ended_whole r batch t o o 0 0 ahead (none_gone r batch t o ahead a) (λ w. absurd (omega (arith, w, some))));
    }

-- one more turn of the batch, after whatever turn
gone_on : (r : Run) (batch count rest m : ℕ) (o mid now : Owner) (ahead due then : OnBase) → rest ≤ count → HasTold r batch count o ahead rest mid due → 0 < rest → m ≤ rest
    → ((t : LastTurn) → IsAtTurn r t mid due → HasGone r t mid (next_turn r batch t).made (next_turn r batch t).ahead now then) → now.state.done ≡ mid.state.done + m
    → (t : LastTurn) → IsAtTurn r t o ahead → (n : ℕ) × HaveGone r batch t o n (count - (rest - m)) now then
gone_on r batch count rest m o mid now ahead due then low told some fit on done t a =
    let h = told.gone some t a in
    let step = on (last_turn r t (replicate h.0 batch)) h.1.at_turn in
    let made = step.further.done in
    (h.0 + 1, have_more r batch t o mid now due then h.0 (count - rest) (count - (rest - m)) h.1 step (omega (arith, made, done, low, fit)))

-- a turn of the whole batch
told_whole : (r : Run) (batch count rest m : ℕ) (o mid now : Owner) (ahead due then : OnBase) → rest ≤ count → HasTold r batch count o ahead rest mid due → 0 < rest → m ≤ rest
    → moves_left r (standing_of mid.state) + (count - rest) ≡ moves_left r (standing_of o.state)
    → ((t : LastTurn) → IsAtTurn r t mid due → HasGone r t mid (next_turn r batch t).made (next_turn r batch t).ahead now then)
    → (t : LastTurn) → IsAtTurn r t mid due → now.state.done ≡ mid.state.done + m → HasTold r batch count o ahead (rest - m) now then
told_whole r batch count rest m o mid now ahead due then low told some fit left on t at done =
    let step = on t at in
    let k = (next_turn r batch t).made in
    let made = step.further.done in
    let k_is : k ≡ m = omega (arith, made, done) in
    let there : moves_left r (standing_of mid.state) ≡ moves_left r (stands r t) = ap (moves_left r) at.led.here in
    let many = step.at_turn.many in
    record {
      gone = λ more. gone_on r batch count rest m o mid now ahead due then low told some fit on done;
      ended = λ e u a.
          let h = gone_on r batch count rest m o mid now ahead due then low told some fit on done u a in
          let all : count - (rest - m) ≡ count = omega (arith, e) in
          subst (λ j. HaveEnded r batch u o j now (record { base = then.base; moves = 0 })) all
          (ended_whole r batch u o now h.0 (count - (rest - m)) then h.1 (λ w. omega (arith, many, k_is, there, left, w, low, fit)));
    }

-- a shorter turn, which makes all that are left
told_short : (r : Run) (batch count rest m : ℕ) (o mid now : Owner) (ahead due then : OnBase) → rest ≤ count → HasTold r batch count o ahead rest mid due → 0 < rest → rest < batch → count < moves_left r (standing_of o.state)
    → moves_left r (standing_of mid.state) + (count - rest) ≡ moves_left r (standing_of o.state)
    → ((t : LastTurn) → IsAtTurn r t mid due → HasGone r t mid (next_turn r rest t).made (next_turn r rest t).ahead now then)
    → (t : LastTurn) → IsAtTurn r t mid due → now.state.done ≡ mid.state.done + m → HasTold r batch count o ahead (rest - m) now then
told_short r batch count rest m o mid now ahead due then low told some few part left on t at done =
    let y = standing_of mid.state in
    let step = on t at in
    let made = step.further.done in
    let there : moves_left r y ≡ moves_left r (stands r t) = ap (moves_left r) at.led.here in
    let room : rest ≤ moves_left r y = omega (arith, left, low, part) in
    let k_is : (next_turn r rest t).made ≡ rest = omega (arith, room, there) in
    let none : rest - m ≡ 0 = omega (arith, made, done, k_is) in
    record {
      gone = λ more. absurd (omega (arith, more, none));
      ended = λ e u a.
          let h = told.gone some u a in
          let v = last_turn r u (replicate h.0 batch) in
          let here : moves_left r y ≡ moves_left r (stands r v) = ap (moves_left r) h.1.at_turn.led.here in
          let made_is : (next_turn r rest v).made ≡ rest = omega (arith, room, here) in
          ended_short r batch u o mid now h.0 (count - rest) rest count due then h.1 (on v h.1.at_turn) some (omega (arith, few)) (omega (arith, made_is, low)) part;
    }

-- the next turn, whichever of the two it is
pub told_on : (r : Run) (batch b count rest m : ℕ) (o mid now : Owner) (ahead due then : OnBase) → rest ≤ count → HasTold r batch count o ahead rest mid due → 0 < rest → m ≤ rest
    → moves_left r (standing_of mid.state) + (count - rest) ≡ moves_left r (standing_of o.state)
    → (batch ≤ rest → b ≡ batch) → (moves_left r (standing_of o.state) ≤ count → b ≡ batch) → (rest < batch → count < moves_left r (standing_of o.state) → b ≡ rest)
    → ((t : LastTurn) → IsAtTurn r t mid due → HasGone r t mid (next_turn r b t).made (next_turn r b t).ahead now then)
    → (t : LastTurn) → IsAtTurn r t mid due → now.state.done ≡ mid.state.done + m → HasTold r batch count o ahead (rest - m) now then
told_on r batch b count rest m o mid now ahead due then low told some fit left whole last shorter on t at done =
    dite (dec_le batch rest)
    (λ l. told_whole r batch count rest m o mid now ahead due then low told some fit left (of_batch batch (whole l)) t at done)
    (λ g. dite (dec_le (moves_left r (standing_of o.state)) count)
    (λ l. told_whole r batch count rest m o mid now ahead due then low told some fit left (of_batch batch (last l)) t at done)
    (λ h. told_short r batch count rest m o mid now ahead due then low told some (lt_of_not-le g) (lt_of_not-le h) left (of_batch rest (shorter (lt_of_not-le g) (lt_of_not-le h))) t at done))
  where
    of_batch : (k : ℕ) → b ≡ k → (u : LastTurn) → IsAtTurn r u mid due → HasGone r u mid (next_turn r k u).made (next_turn r k u).ahead now then
    of_batch k e = subst (λ j. (u : LastTurn) → IsAtTurn r u mid due → HasGone r u mid (next_turn r j u).made (next_turn r j u).ahead now then) e on
