-- Turns of one batch, of which the last may be shorter.
use Rattle.std.proofs.Common.{◌≡◌, ℕ, ◌+◌, ◌<◌, ◌≤◌, subst, List, ◌++◌, ◌∷◌, [], replicate, zero, suc, refl, sym, ap, ◌∙◌, arith}
use Rattle.std.specs.List.{count_by, range_with_len}
use Rattle.fab_dial.specs.declared.readings.Reading.{Reading}
use Rattle.fab_commit.specs.declared.run.alone.OnBase.{OnBase}
use Rattle.fab_commit.specs.declared.run.owner.Owner.{Owner}
use Rattle.fab_commit.specs.Serial.{Run, Standing, moves_left}
use Rattle.fab_commit.specs.Run.Stages.{EndsAt, HasGone, HaveEnded, HaveGone, LeadsTo, unjudged, with_shorter}
use Rattle.fab_commit.specs.Run.Commits.{standing_of}
use Rattle.fab_commit.specs.Run.Readings.{readings}
use Rattle.fab_commit.specs.Model.TurnEvents.{LastTurn, is_redone_behind, next_turn, stands}
use Rattle.fab_commit.specs.Model.Turns.{last_turn, redone, redone_next}
use Rattle.fab_commit.specs.Run.Pipelines.{IsAtTurn}
use Rattle.fab_commit.proofs.RunLemmas.Owning.{led_same}
use Rattle.fab_commit.proofs.RunLemmas.Going.{further_both}

-- nothing counts as judged ahead any more
pub nothing_ahead : (r : Run) (t : LastTurn) (o : Owner) (due : OnBase) → IsAtTurn r t o due → IsAtTurn r (unjudged t) o (record { base = due.base; moves = 0 })
nothing_ahead r t o due alone = record {
  plan = alone.plan;
  owned = alone.owned;
  many = refl;
  swaps = alone.swaps;
  led = led_same r t.start t.made o o due.base t.ahead 0 alone.led refl refl (omega arith);
}

pub none_redone : (r : Run) (t : LastTurn) → redone_next r 0 t ≡ 0
none_redone r t =
    let none : (next_turn r 0 t).made ≡ 0 = omega arith in
    ap (λ n. count_by (is_redone_behind r t) (range_with_len (stands r t).done n)) none

-- the last turn of some and one more
pub last_more : (r : Run) (t : LastTurn) (batches : List ℕ) (k : ℕ) → last_turn r t (batches ++ k ∷ []) ≡ next_turn r k (last_turn r t batches)
last_more r t [] k = refl
last_more r t (batch ∷ batches) k = last_more r (next_turn r batch t) batches k

pub redone_more : (r : Run) (t : LastTurn) (batches : List ℕ) (k : ℕ) → redone r t (batches ++ k ∷ []) ≡ redone r t batches + redone_next r k (last_turn r t batches)
redone_more r t [] k = omega arith
redone_more r t (batch ∷ batches) k = (let rest = redone_more r (next_turn r batch t) batches k in omega (arith, rest))

with_some : (turns batch short : ℕ) → 0 < short → with_shorter turns batch short ≡ replicate turns batch ++ short ∷ []
with_some turns batch zero l = absurd (omega (arith, l))
with_some turns batch (suc short) l = refl

-- no turn was shorter
pub ended_whole : (r : Run) (batch : ℕ) (t : LastTurn) (o now : Owner) (n made : ℕ) (due : OnBase) → HaveGone r batch t o n made now due
    → (made ≡ moves_left r (standing_of o.state) → due.moves ≡ 0) → HaveEnded r batch t o made now (record { base = due.base; moves = 0 })
ended_whole r batch t o now n made due gone none_due =
    let u = last_turn r t (replicate n batch) in
    let here : now.state.done ≡ (stands r u).done = ap (λ (s : Standing). s.done) gone.at_turn.led.here in
    let none : (next_turn r 0 u).made ≡ 0 = omega arith in
    let again = gone.redone in
    let zero = none_redone r u in
    record {
      turns = n;
      short = 0;
      few = omega arith;
      at_turn = nothing_ahead r u now due gone.at_turn;
      whole = λ w. (refl, sym gone.at_turn.many ∙ none_due w);
      further = gone.further;
      last = omega (arith, here, none);
      redone = omega (arith, again, zero);
    }

-- a shorter turn came last
pub ended_short : (r : Run) (batch : ℕ) (t : LastTurn) (o mid now : Owner) (n made short count : ℕ) (due then : OnBase) → HaveGone r batch t o n made mid due
    → HasGone r (last_turn r t (replicate n batch)) mid (next_turn r short (last_turn r t (replicate n batch))).made (next_turn r short (last_turn r t (replicate n batch))).ahead now then
    → 0 < short → short ≤ batch → made + (next_turn r short (last_turn r t (replicate n batch))).made ≡ count → count < moves_left r (standing_of o.state) → HaveEnded r batch t o count now (record { base = then.base; moves = 0 })
ended_short r batch t o mid now n made short count due then first second some few sum part =
    let u = last_turn r t (replicate n batch) in
    let k = (next_turn r short u).made in
    let here : mid.state.done ≡ (stands r u).done = ap (λ (s : Standing). s.done) first.at_turn.led.here in
    let is = second.further.done in
    let again = first.redone in
    let more = second.redone in
    let turn_is : last_turn r t (with_shorter n batch short) ≡ next_turn r short u = ap (last_turn r t) (with_some n batch short some) ∙ last_more r t (replicate n batch) short in
    record {
      turns = n;
      short = short;
      few = few;
      at_turn = subst (λ v. IsAtTurn r (unjudged v) now (record { base = then.base; moves = 0 })) (sym turn_is) (nothing_ahead r (next_turn r short u) now then second.at_turn);
      whole = λ w. absurd (omega (arith, w, part));
      further = further_both r o.state mid.state now.state made k count first.further second.further sum;
      last = omega (arith, here, is);
      redone = omega (arith, again, more);
    }

-- what turns without a shorter one showed
pub ends_whole : (r : Run) (batch : ℕ) (x y : Standing) (old new : List Reading) → LeadsTo r batch x y old new → EndsAt r batch x y old new
ends_whole r batch x y old new leads z before has =
    let h = leads z before has in
    let done = h.done in
    h.shown ∙ ap (λ n. before ++ readings r z batch n) (omega (arith, done))
