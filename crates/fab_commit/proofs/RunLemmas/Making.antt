-- Moves that an owner makes, whether it counts the redone ones or not.
use Rattle.std.proofs.Common.{◌≡◌, ℕ, ◌+◌, ◌≤◌, Bool, true, false, eqb, not, [], refl, sym, ap, subst, ◌∙◌, arith}
use Rattle.std.proofs.lemmas.Bool.{false≢true, ne_eqb}
use Rattle.fab_commit.specs.declared.run.alone.OnBase.{OnBase}
use Rattle.fab_commit.specs.declared.run.owner.Owner.{Owner}
use Rattle.fab_move.specs.declared.stamps.Stamps.{Stamps}
use Rattle.fab_commit.specs.Serial.{Run}
use Rattle.fab_commit.specs.Run.Commits.{standing_of}
use Rattle.fab_commit.specs.Run.Owners.{HasMade, IsOwned, Makes}
use Rattle.fab_commit.specs.Run.Pipelines.{IsAtTurn}
use Rattle.fab_commit.specs.Model.Stamps.{AreStamps}
use Rattle.fab_commit.specs.Model.TurnEvents.{LastTurn, no_turn}
use Rattle.fab_commit.proofs.RunLemmas.Going.{further_more, further_none}
use Rattle.fab_commit.proofs.RunLemmas.Owning.{before_weaker, made_more, none_made, none_since}

-- a const parameter that is false, or true
pub is_off : (k : ℕ) → k ≡ 0 → not (eqb k 0) ≡ false
is_off k e = ap (λ n. not (eqb n 0)) e

pub is_on : (k : ℕ) → (k ≡ 0 → ⊥) → not (eqb k 0) ≡ true
is_on k h = ap not (ne_eqb k 0 h)

pub makes_none : (b : Bool) (r : Run) (o : Owner) → IsOwned r o → Makes b r o 0 o
makes_none b r o owned = record {
  owned = owned;
  further = further_none r o.state owned.sound;
  kept = λ e. none_made r o owned;
  swaps = λ e. refl;
  stamps = λ e. refl;
  redone = λ e. refl;
}

pub makes_more : (b : Bool) (r : Run) (o mid now : Owner) (n m : ℕ) → Makes b r o n mid → Makes b r mid m now → Makes b r o (n + m) now
makes_more b r o mid now n m first second = record {
  owned = second.owned;
  further = further_more r o.state mid.state now.state n m first.further second.further;
  kept = λ e. made_more r o mid now n m (first.kept e) (second.kept e);
  swaps = λ e. second.swaps e ∙ first.swaps e;
  stamps = λ e. second.stamps e ∙ first.stamps e;
  redone = λ e. second.redone e ∙ first.redone e;
}

-- moves whose redone ones are counted
pub makes_kept : (b : Bool) (r : Run) (o now : Owner) (n : ℕ) → b ≡ true → HasMade r o n now → Makes b r o n now
makes_kept b r o now n is made = record {
  owned = made.owned;
  further = made.further;
  kept = λ e. made;
  swaps = λ e. absurd (false≢true (sym e ∙ is));
  stamps = λ e. absurd (false≢true (sym e ∙ is));
  redone = λ e. absurd (false≢true (sym e ∙ is));
}

-- after moves whose redone ones are not counted, nothing of what came before counts as judged ahead
pub forgotten : (r : Run) (t : LastTurn) (s now : Owner) (ahead : OnBase) → IsAtTurn r t s ahead → IsOwned r now → s.state.done ≤ now.state.done → now.swaps.items ≡ [] → now.stamps ≡ s.stamps
    → IsAtTurn r (no_turn (standing_of now.state)) now (record { base = now.state.done; moves = 0 })
forgotten r t s now ahead alone owned later swaps stamps =
    let y = standing_of now.state in
    let log = alone.led.log in
    let before = before_weaker s.state.done y.done log later alone.led.before in
    record {
      plan = alone.plan;
      owned = owned;
      many = refl;
      swaps = swaps;
      led = record {
        log = log;
        here = refl;
        base_is = refl;
        done_is = omega arith;
        stage = omega arith;
        stamps = subst (λ (v : Stamps). AreStamps r.problem.design r.problem.grid v log) (sym stamps) alone.led.stamps;
        before = before;
        recent = none_since y.done log before;
      };
    }
