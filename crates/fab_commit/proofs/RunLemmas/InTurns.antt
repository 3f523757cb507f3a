-- Moves of turns: the live placement tells whether a judgement made ahead was spoilt, and what a turn leaves.
use Rattle.std.proofs.Common.{◌≡◌, ℕ, zero, suc, ◌+◌, ◌-◌, ◌<◌, ◌≤◌, min, false, [], List, length, is_some, refl, sym, ap, subst, ◌∙◌, arith, ◌++◌, append-nil, replicate, ◌∷◌}
use Rattle.std.specs.Global.{Vec}
use Rattle.std.specs.List.{count_by, range_with_len}
use Rattle.fab_commit.specs.declared.run.alone.OnBase.{OnBase}
use Rattle.fab_commit.specs.declared.run.owner.Owner.{Owner}
use Rattle.fab_commit.specs.declared.run.state.State.{State}
use Rattle.fab_commit.specs.declared.run.swaps.Accepted.{Accepted}
use Rattle.fab_commit.specs.Serial.{Run, Standing, from, judged_here, moves_left, one_if}
use Rattle.fab_commit.specs.Run.Stages.{HasGone, HaveGone, HaveStopped, is_touched_here}
use Rattle.fab_commit.specs.Run.Pipelines.{AreJudged, HasTurn, HasTurned, IsAtTurn, IsAfter}
use Rattle.fab_commit.specs.declared.run.pipeline.Pipeline.{Pipeline}
use Rattle.fab_commit.specs.Run.Commits.{IsSound, standing_of}
use Rattle.fab_commit.specs.Run.Noted.{noted}
use Rattle.fab_commit.specs.Run.Owners.{AreOpen, HasMade, IsLed, IsOwned, Leads}
use Rattle.fab_move.specs.StampTables.{IsTable, kept_stamp}
use Rattle.fab_commit.specs.Model.TurnEvents.{LastTurn, is_redone_behind, next_turn, stands}
use Rattle.fab_commit.specs.Model.Turns.{last_turn}
use Rattle.fab_commit.specs.Model.History.{accepted_from, is_redone}
use Rattle.fab_commit.specs.Model.World.{clash}
use Rattle.fab_commit.proofs.RunLemmas.Folding.{goes_on, left_from, not_ended}
use Rattle.fab_commit.proofs.RunLemmas.Noting.{noted_more-nil}
use Rattle.fab_commit.proofs.RunLemmas.Going.{further_both, further_from, further_none}
use Rattle.fab_commit.proofs.RunLemmas.Owning.{IsOpenNext, count_more, led_as, led_here, led_on, led_same, none_made, touched_is}
use Rattle.fab_commit.proofs.RunLemmas.ByChains.{chain_push}
use Rattle.fab_commit.proofs.RunLemmas.Parts.{nothing_ahead}
use Rattle.fab_commit.proofs.RunLemmas.Pipelining.{behind_counts, none_judged}
use Rattle.fab_commit.proofs.ModelLemmas.Backwards.{length_from, same_clash}

-- after i commits, the next move as it stands then
pub record IsOpenAt (r : Run) (start : Standing) (base k : ℕ) (now : Owner) : Type 0 where
  pub number : now.state.done ≡ k
  pub touch : is_touched_here r now base ≡ is_redone r start base k
  pub going : now.state.ended ≡ false

pub open_at : (r : Run) (o now : Owner) (base count i : ℕ) → 0 < r.plan.moves → (due : AreOpen r o base count) → HasMade r o i now → i < count → IsOpenAt r due.start base (o.state.done + i) now
open_at r o now base count i pos due made l =
    let d = r.problem.design in
    let x = due.start in
    let k = o.state.done + i in
    let n = due.made + i in
    let on = led_on r x due.made o now base count i 1 due.led made (omega (arith, l)) in
    let stage = on.stage in
    let left : n < moves_left r x = omega (arith, stage) in
    let k_is : k ≡ x.done + n = sym made.further.done ∙ on.done_is in
    let base_is = on.base_is in
    let here = on.here in
    let long : length x.sites ≡ length d.kinds = sym (length_from r x n) ∙ ap (λ (s : Standing). length s.sites) (sym here) ∙ made.owned.sound.legal.all in
    let number : now.state.done ≡ x.done + n = on.done_is in
    let marks = (judged_here r (standing_of now.state) now.state.done).footprint in
    let since_start : k - x.done ≡ n = omega (arith, k_is) in
    let none_between : base - x.done ≡ 0 = omega (arith, base_is) in
    record {
      number = made.further.done;
      touch =
          touched_is d (kept_stamp r.problem.grid now.stamps) on.log base marks on.stamps
          ∙ (λ j. clash d (on.recent j) (base_is j) (judged_here r (here j) (number j)).footprint)
          ∙ same_clash r x n pos long left
          ∙ (λ j. clash d (accepted_from r x n) (sym base_is j) (judged_here r x (sym k_is j)).footprint)
          ∙ ap (λ m. clash d (accepted_from r x m) base (judged_here r x k).footprint) (sym since_start)
          ∙ ap (λ m. clash d (accepted_from r x (k - x.done)) base (judged_here r (from r x m) k).footprint) (sym none_between);
      going = not_ended now.state.ended now.state.stage.t (ap (λ (s : Standing). is_some s.heat) here ∙ goes_on r x n left);
    }

-- one more of the moves that count as judged again is counted
pub counted_open : (r : Run) (start : Standing) (base k i old before after : ℕ) (now : Owner) → IsOpenAt r start base (k + i) now
    → before ≡ old + count_by (is_redone r start base) (range_with_len k i) → after ≡ before + one_if (is_touched_here r now base) → after ≡ old + count_by (is_redone r start base) (range_with_len k (i + 1))
counted_open r start base k i old before after now is was more =
    let next = count_more (is_redone r start base) k i in
    let same : one_if (is_touched_here r now base) ≡ one_if (is_redone r start base (k + i)) = ap one_if is.touch in
    omega (arith, was, more, next, same)

pub open_later : (r : Run) (o now : Owner) (base n i m : ℕ) → (due : AreOpen r o base n) → HasMade r o i now → i + m ≤ n → IsOpenNext r now base m due.start
open_later r o now base n i m due made low = record {
  due = record { start = due.start; made = due.made + i; led = led_on r due.start due.made o now base n i m due.led made low };
  is = refl;
}

-- moves that are open are left in the stage
pub open_left : (r : Run) (o : Owner) (base n : ℕ) → AreOpen r o base n → n ≤ moves_left r (standing_of o.state)
open_left r o base zero due = omega arith
open_left r o base (suc n) due =
    let stage = due.led.stage in
    let here = ap (moves_left r) due.led.here in
    let left = left_from r due.start due.made (omega (arith, stage)) in
    omega (arith, stage, here, left)

-- the owner as it was before a turn, with its swaps forgotten
pub record IsReadied (s o : Owner) : Type 0 where
  pub stands : standing_of o.state ≡ standing_of s.state
  pub accepted : noted o.state.accepted ≡ noted s.state.accepted
  pub swaps : o.swaps.items ≡ []
  pub stamps : o.stamps ≡ s.stamps
  pub redone : o.redone ≡ s.redone

pub readied : (r : Run) (s cleared o : Owner) → cleared.state ≡ s.state → cleared.swaps.items ≡ [] → cleared.stamps ≡ s.stamps → cleared.redone ≡ s.redone
    → HasMade r cleared 0 o → o.stamps ≡ cleared.stamps → o.redone ≡ cleared.redone → IsReadied s o
readied r s cleared o state swaps stamps redone made same_stamps same_redone = record {
  stands = made.further.stands ∙ ap standing_of state;
  accepted = made.further.accepted ∙ noted_more-nil (noted cleared.state.accepted) ∙ ap (λ (v : State). noted v.accepted) state;
  swaps = made.swaps ∙ append-nil cleared.swaps.items ∙ swaps;
  stamps = same_stamps ∙ stamps;
  redone = same_redone ∙ redone;
}

pub owned_cleared : (r : Run) (s cleared : Owner) → IsOwned r s → cleared.state ≡ s.state → cleared.stamps ≡ s.stamps → cleared.redone ≡ s.redone → IsOwned r cleared
owned_cleared r s cleared owned state stamps redone =
    let counted = owned.counted in
    let done : cleared.state.done ≡ s.state.done = (λ i. (state i).done) in
    record {
      sound = subst (IsSound r) (sym state) owned.sound;
      table = subst (IsTable r.problem.design r.problem.grid) (sym stamps) owned.table;
      counted = omega (arith, counted, done, redone);
    }

-- no swaps lead to where it was
pub led_nowhere : (r : Run) (s o : Owner) → IsReadied s o → Leads r.problem.grid s.state.placement.sites o.swaps.items o.state.placement.sites
led_nowhere r s o ready =
    subst (λ l. Leads r.problem.grid s.state.placement.sites l o.state.placement.sites) (sym ready.swaps) (ap (λ (x : Standing). x.sites) (sym ready.stands))

-- the moves that count as judged ahead are open
pub open_ahead : (r : Run) (t : LastTurn) (s o : Owner) (ahead : OnBase) (n : ℕ) → IsAtTurn r t s ahead → IsReadied s o → n ≤ ahead.moves → IsOpenNext r o ahead.base n t.start
open_ahead r t s o ahead n alone ready low =
    let many = alone.many in
    record {
      due = record { start = t.start; made = t.made; led = led_same r t.start t.made s o ahead.base t.ahead n alone.led ready.stands ready.stamps (omega (arith, many, low)) };
      is = refl;
    }

-- those after them are open from where the turn began
pub open_here : (r : Run) (t : LastTurn) (s o mid : Owner) (ahead : OnBase) (kept n : ℕ) → IsAtTurn r t s ahead → IsReadied s o → HasMade r o kept mid → kept + n ≤ moves_left r (standing_of o.state)
    → IsOpenNext r mid s.state.done n (standing_of o.state)
open_here r t s o mid ahead kept n alone ready made left =
    let y = standing_of o.state in
    let led = led_same r t.start t.made s o ahead.base t.ahead t.ahead alone.led ready.stands ready.stamps (omega arith) in
    let next = led_here r t.start t.made o mid ahead.base t.ahead kept n led made left in
    record { due = record { start = y; made = kept; led = led_as r y y kept mid o.state.done s.state.done n next refl (ap (λ (x : Standing). x.done) ready.stands) }; is = refl }

-- both parts of a turn are counted
pub both_counted : (r : Run) (t : LastTurn) (s o mid now : Owner) (ahead : OnBase) (kept moves : ℕ) (start second : Standing) → IsAtTurn r t s ahead → IsReadied s o → kept ≡ min ahead.moves moves → start ≡ t.start → second ≡ standing_of o.state
    → mid.state.done ≡ o.state.done + kept
    → mid.redone ≡ o.redone + count_by (is_redone r start ahead.base) (range_with_len o.state.done kept)
    → now.redone ≡ mid.redone + count_by (is_redone r second s.state.done) (range_with_len mid.state.done (moves - kept))
    → now.redone ≡ o.redone + count_by (is_redone_behind r t) (range_with_len (stands r t).done moves)
both_counted r t s o mid now ahead kept moves start second alone ready kept_is origin is done one two =
    let y = stands r t in
    let here : standing_of o.state ≡ y = ready.stands ∙ alone.led.here in
    let there : s.state.done ≡ y.done = ap (λ (x : Standing). x.done) alone.led.here in
    let from_o : o.state.done ≡ y.done = ap (λ (x : Standing). x.done) here in
    let begun : y.done ≡ t.start.done + t.made = sym there ∙ alone.led.done_is in
    let many = alone.many in
    let few : kept ≡ min moves t.ahead = omega (arith, kept_is, many) in
    let all = behind_counts r t kept moves moves begun few (omega arith) in
    let least : kept ≡ min kept moves = omega (arith, kept_is) in
    let first : count_by (is_redone r start ahead.base) (range_with_len o.state.done kept) ≡ count_by (is_redone r t.start t.start.done) (range_with_len y.done (min kept moves)) =
    (λ i. count_by (is_redone r (origin i) (alone.led.base_is i)) (range_with_len (from_o i) (least i))) in
    let place : mid.state.done ≡ y.done + kept = omega (arith, done, from_o) in
    let rest : count_by (is_redone r second s.state.done) (range_with_len mid.state.done (moves - kept)) ≡ count_by (is_redone r y y.done) (range_with_len (y.done + kept) (moves - kept)) =
    (λ i. count_by (is_redone r ((is ∙ here) i) (there i)) (range_with_len (place i) (moves - kept))) in
    omega (arith, one, two, first, rest, all)

-- after a turn
pub gone : (r : Run) (t : LastTurn) (s o now : Owner) (ahead due : OnBase) (n next : ℕ) → IsAtTurn r t s ahead → IsReadied s o → HasMade r o n now → n + next ≤ moves_left r (stands r t)
    → due.base ≡ s.state.done → due.moves ≡ next → now.redone ≡ o.redone + count_by (is_redone_behind r t) (range_with_len (stands r t).done n) → HasGone r t s n next now due
gone r t s o now ahead due n next alone ready made left base many counted =
    let y = stands r t in
    let x = standing_of o.state in
    let here : x ≡ y = ready.stands ∙ alone.led.here in
    let there : s.state.done ≡ y.done = ap (λ (v : Standing). v.done) alone.led.here in
    let same : o.state.done ≡ s.state.done = ap (λ (v : Standing). v.done) ready.stands in
    let from_o : o.state.done ≡ y.done = ap (λ (v : Standing). v.done) here in
    let redone = ready.redone in
    let led = led_same r t.start t.made s o ahead.base t.ahead t.ahead alone.led ready.stands ready.stamps (omega arith) in
    let on = led_here r t.start t.made o now ahead.base t.ahead n next led made (subst (λ v. n + next ≤ moves_left r v) (sym here) left) in
    record {
      at_turn = record {
        plan = alone.plan;
        owned = made.owned;
        many = many;
        swaps = made.swaps ∙ (λ i. ready.swaps i ++ accepted_from r (here i) n);
        led = led_as r x y n now o.state.done due.base next on here (same ∙ sym base);
      };
      further = further_from r s.state o.state now.state n ready.stands ready.accepted made.further;
      redone = omega (arith, redone, counted);
    }

-- no move was made
pub gone_nowhere : (r : Run) (t : LastTurn) (s o : Owner) (ahead due : OnBase) → IsAtTurn r t s ahead → IsReadied s o → IsOwned r o → due.base ≡ s.state.done → due.moves ≡ 0 → HasGone r t s 0 0 o due
gone_nowhere r t s o ahead due alone ready owned base many =
    gone r t s o o ahead due 0 0 alone ready (none_made r o owned) (omega arith) base many (omega arith)

-- turns one after another

pub none_gone : (r : Run) (batch : ℕ) (t : LastTurn) (o : Owner) (ahead : OnBase) → IsAtTurn r t o ahead → HaveGone r batch t o 0 0 o ahead
none_gone r batch t o ahead alone = record {
  at_turn = alone;
  further = further_none r o.state alone.owned.sound;
  redone = omega arith;
}

pub have_more : (r : Run) (batch : ℕ) (t : LastTurn) (o mid now : Owner) (ahead due : OnBase) (n made all : ℕ) → HaveGone r batch t o n made mid ahead
    → HasGone r (last_turn r t (replicate n batch)) mid (next_turn r batch (last_turn r t (replicate n batch))).made (next_turn r batch (last_turn r t (replicate n batch))).ahead now due
    → made + (next_turn r batch (last_turn r t (replicate n batch))).made ≡ all → HaveGone r batch t o (n + 1) all now due
have_more r batch t o mid now ahead due n made all first second sum =
    let u = last_turn r t (replicate n batch) in
    let push = chain_push r t n batch in
    let was = first.redone in
    let more = second.redone in
    let again = push.1 in
    record {
      at_turn = subst (λ v. IsAtTurn r v now due) (sym push.0) second.at_turn;
      further = further_both r o.state mid.state now.state made (next_turn r batch u).made all first.further second.further sum;
      redone = omega (arith, was, more, again);
    }

pub have_stopped : (r : Run) (batch : ℕ) (t : LastTurn) (o mid now : Owner) (ahead due : OnBase) (n made : ℕ) → HaveGone r batch t o n made mid ahead → HasGone r (last_turn r t (replicate n batch)) mid 0 0 now due → HaveStopped r batch t o n made now due
have_stopped r batch t o mid now ahead due n made first second =
    let was = first.redone in
    let more = second.redone in
    record {
      at_turn = second.at_turn;
      further = further_both r o.state mid.state now.state made 0 made first.further second.further (omega arith);
      redone = omega (arith, was, more);
    }

-- memory ran out before the first turn
pub stopped_at_once : (r : Run) (batch : ℕ) (t : LastTurn) (o now : Owner) (ahead due : OnBase) → IsAtTurn r t o ahead → HasGone r t o 0 0 now due → HaveStopped r batch t o 0 0 now due
stopped_at_once r batch t o now ahead due alone gone = have_stopped r batch t o o now ahead due 0 0 (none_gone r batch t o ahead alone) gone

-- the owner of what is kept after a turn
pub at_turn_after : (r : Run) (t : LastTurn) (s : Pipeline) (ahead : OnBase) → IsAfter r t s → ahead.base ≡ s.base → ahead.moves ≡ length s.ahead.items → IsAtTurn r t s.owner ahead
at_turn_after r t s ahead b base many = record {
  plan = b.at_turn.plan;
  owned = b.at_turn.owned;
  many = many ∙ b.at_turn.many;
  swaps = b.at_turn.swaps;
  led = subst (λ v. IsLed r t.start t.made s.owner v t.ahead) (sym base) b.at_turn.led;
}

-- what is kept where nothing is judged ahead
pub after_at_turn : (r : Run) (u : LastTurn) (now : Pipeline) (due : OnBase) → IsAtTurn r u now.owner due → due.moves ≡ 0 → now.ahead.items ≡ [] → now.foreseen.items ≡ [] → now.base ≡ due.base → IsAfter r u now
after_at_turn r u now due alone none empty unseen base = record {
  at_turn = record {
    plan = alone.plan;
    owned = alone.owned;
    many = ap length empty ∙ sym none ∙ alone.many;
    swaps = alone.swaps;
    led = subst (λ v. IsLed r u.start u.made now.owner v u.ahead) (sym base) alone.led;
  };
  judged = none_judged r u.start now.owner.state.done now.ahead.items now.foreseen.items empty unseen;
}

-- where no verdict is kept, nothing that was foreseen is
pub unseen : (r : Run) (s : Pipeline) → s.ahead.items ≡ [] → HasTurn r s → s.foreseen.items ≡ []
unseen r s none turn = no_items s.foreseen.items (turn.1.judged.long ∙ ap length none)
  where
    no_items : {A : Type 0} (xs : List A) → length xs ≡ 0 → xs ≡ []
    no_items [] e = refl
    no_items (x ∷ xs) e = absurd (omega (arith, e))

-- a turn that is gone, and what was judged ahead meanwhile
pub turned : (r : Run) (t : LastTurn) (s now : Pipeline) (due : OnBase) (n ahead : ℕ) → HasGone r t s.owner n ahead now.owner due → due.base ≡ now.base → due.moves ≡ length now.ahead.items
    → AreJudged r (stands r t) now.owner.state.done now.ahead.items now.foreseen.items → HasTurned r t s n ahead now
turned r t s now due n ahead gone base many judged = record {
  behind = record {
    at_turn = record {
      plan = gone.at_turn.plan;
      owned = gone.at_turn.owned;
      many = sym many ∙ gone.at_turn.many;
      swaps = gone.at_turn.swaps;
      led = subst (λ v. IsLed r (stands r t) n now.owner v ahead) base gone.at_turn.led;
    };
    judged = judged;
  };
  further = gone.further;
  redone = gone.redone;
}

-- a turn that is gone, of which nothing that was judged ahead is kept
pub turned_cut : (r : Run) (t : LastTurn) (s now : Pipeline) (due : OnBase) (n ahead : ℕ) → HasGone r t s.owner n ahead now.owner due → due.base ≡ now.base → now.ahead.items ≡ [] → now.foreseen.items ≡ [] → HasTurned r t s n 0 now
turned_cut r t s now due n ahead gone base empty unseen =
    turned r t s now (record { base = due.base; moves = 0 }) n 0
    (record { at_turn = nothing_ahead r (record { start = stands r t; made = n; ahead = ahead }) now.owner due gone.at_turn; further = gone.further; redone = gone.redone })
    base (ap length (sym empty)) (none_judged r (stands r t) now.owner.state.done now.ahead.items now.foreseen.items empty unseen)

-- a turn of no move, after which nothing is judged ahead
pub turned_nowhere : (r : Run) (t : LastTurn) (s now : Pipeline) → IsAfter r t s
    → ((u : LastTurn) → IsAtTurn r u s.owner (record { base = s.base; moves = length s.ahead.items }) → HasGone r u s.owner 0 0 now.owner (record { base = now.base; moves = 0 }))
    → now.ahead.items ≡ [] → now.foreseen.items ≡ [] → HasTurned r t s 0 0 now
turned_nowhere r t s now b gone empty unseen =
    turned r t s now (record { base = now.base; moves = 0 }) 0 0 (gone t b.at_turn) refl (ap length (sym empty)) (none_judged r (stands r t) now.owner.state.done now.ahead.items now.foreseen.items empty unseen)

-- what a turn finds once it has taken the swaps of the turn before and has reserved its room
pub record IsFound (r : Run) (s o : Owner) : Type 0 where
  pub ready : IsReadied s o
  pub owned : IsOwned r o

pub found : (r : Run) (t : LastTurn) (s o : Owner) (swaps : Vec Accepted) (ahead : OnBase) → IsAtTurn r t s ahead → swaps.items ≡ []
    → (IsOwned r (record { state = s.state; swaps = swaps; stamps = s.stamps; redone = s.redone }) → HasMade r (record { state = s.state; swaps = swaps; stamps = s.stamps; redone = s.redone }) 0 o)
    → o.stamps ≡ s.stamps → o.redone ≡ s.redone → IsFound r s o
found r t s o swaps ahead at empty same stamps redone =
    let cleared : Owner = record { state = s.state; swaps = swaps; stamps = s.stamps; redone = s.redone } in
    let made = same (owned_cleared r s cleared at.owned refl refl refl) in
    record { ready = readied r s cleared o refl empty refl refl made stamps redone; owned = made.owned }
