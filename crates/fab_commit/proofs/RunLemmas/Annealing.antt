-- What a turn leaves, without a word of the turn before it.
use Rattle.std.proofs.Common.{◌≡◌, ℕ, ◌+◌, ◌-◌, ◌<◌, ◌≤◌, min, List, [], ◌∷◌, Option, Some, None, is_some, Bool, true, false, length, map, take, refl, sym, ap, ◌∙◌, inl, inr, arith}
use Rattle.std.specs.List.{count_by, range_with_len}
use Rattle.std.proofs.lemmas.Bool.{cases_lt, false≢true}
use Rattle.std.proofs.lemmas.Option.{none-some}
use Rattle.fab_move.specs.declared.verdicts.Verdict.{Verdict as Answer}
use Rattle.fab_move.specs.Judge.{says}
use Rattle.fab_commit.specs.declared.model.judged.JudgedMove.{JudgedMove}
use Rattle.fab_commit.specs.declared.run.pipeline.Pipeline.{Pipeline}
use Rattle.fab_commit.specs.declared.model.events.Way.{Way}
use Rattle.fab_commit.specs.Serial.{Run, Standing, accepted_among, from, left_at, moves_left}
use Rattle.fab_commit.specs.Run.Commits.{heat_of, standing_of}
use Rattle.fab_commit.specs.Run.Noted.{noted, noted_more}
use Rattle.fab_commit.specs.Run.Owners.{verdict_of}
use Rattle.fab_commit.specs.Run.Pipelines.{HasTurned, IsAfter, world_in}
use Rattle.fab_commit.specs.Model.History.{accepted_from}
use Rattle.fab_commit.specs.Model.TurnEvents.{LastTurn, events_from, forget, next_turn, stands, turn, turn_events, turn_making, verdict_on, world_behind}
use Rattle.fab_commit.specs.Model.World.{World, is_redone_way, run_through, ways}
use Rattle.fab_commit.proofs.ModelLemmas.RunLaws.{ways_of_a_beginning}
use Rattle.fab_commit.proofs.RunLemmas.Folding.{left_from}
use Rattle.fab_commit.proofs.ModelLemmas.TurnLaws.{length_on, turn_leads, turns_lead_on}

pub some_moves : (r : Run) (t : LastTurn) (s : Pipeline) → IsAfter r t s → 0 < r.plan.moves
some_moves r t s b = (let m = b.at_turn.plan.moves in omega (arith, m))

pub done_at : (r : Run) (t : LastTurn) (s : Pipeline) → IsAfter r t s → s.owner.state.done ≡ (stands r t).done
done_at r t s b = ap (λ (v : Standing). v.done) b.at_turn.led.here

-- what is kept after a turn is the world after it
pub world_is : (r : Run) (t : LastTurn) (s : Pipeline) → IsAfter r t s → world_in s ≡ world_behind r t
world_is r t s b =
    let base = b.at_turn.led.base_is in
    let verdicts : map (verdict_of s.base) s.ahead.items ≡ map (verdict_on r t.start) (range_with_len (stands r t).done t.ahead) =
    ap (λ k. map (verdict_of k) s.ahead.items) base
    ∙ b.judged.answers_are
    ∙ (λ i. map (verdict_on r t.start) (range_with_len (done_at r t s b i) (b.at_turn.many i))) in
    (λ i. record { live = b.at_turn.led.here i; older = b.at_turn.led.here i; claims = []; verdicts = verdicts i; accepted = b.at_turn.swaps i })

-- how many moves it made
pub moves_made : (r : Run) (t : LastTurn) (s now : Pipeline) (n ahead : ℕ) → IsAfter r t s → HasTurned r t s n ahead now → now.owner.state.done ≡ s.owner.state.done + n
moves_made r t s now n ahead b h =
    let e = h.behind.at_turn.led.done_is in
    let there = done_at r t s b in
    omega (arith, e, there)

pub stands_on : (r : Run) (t : LastTurn) (s now : Pipeline) (n ahead : ℕ) → IsAfter r t s → HasTurned r t s n ahead now → standing_of now.owner.state ≡ from r (standing_of s.owner.state) (now.owner.state.done - s.owner.state.done)
stands_on r t s now n ahead b h =
    let made = moves_made r t s now n ahead b h in
    let e : n ≡ now.owner.state.done - s.owner.state.done = omega (arith, made) in
    h.behind.at_turn.led.here ∙ (λ i. from r (sym b.at_turn.led.here i) (e i))

pub noted_on : (r : Run) (t : LastTurn) (s now : Pipeline) (n ahead : ℕ) → IsAfter r t s → HasTurned r t s n ahead now
    → noted now.owner.state.accepted ≡ noted_more (noted s.owner.state.accepted) (accepted_among r (standing_of s.owner.state) (now.owner.state.done - s.owner.state.done))
noted_on r t s now n ahead b h =
    let made = moves_made r t s now n ahead b h in
    let e : n ≡ now.owner.state.done - s.owner.state.done = omega (arith, made) in
    h.further.accepted ∙ ap (λ k. noted_more (noted s.owner.state.accepted) (accepted_among r (standing_of s.owner.state) k)) e

pub redone_on : (r : Run) (t : LastTurn) (s now : Pipeline) (batch n ahead : ℕ) → IsAfter r t s → HasTurned r t s n ahead now → n ≤ (next_turn r batch t).made
    → now.owner.redone ≡ s.owner.redone + count_by is_redone_way (take (now.owner.state.done - s.owner.state.done) (ways r (world_in s) (turn_events r batch (world_in s))))
redone_on r t s now batch n ahead b h low =
    let made = moves_made r t s now n ahead b h in
    let e : n ≡ now.owner.state.done - s.owner.state.done = omega (arith, made) in
    let w = world_is r t s b in
    let told = ways_of_a_beginning r t batch n (some_moves r t s b) b.at_turn.led.stage low in
    h.redone
    ∙ ap (λ m. s.owner.redone + m)
    (sym told ∙ (λ i. count_by is_redone_way (take (e i) (ways r (sym w i) (turn_events r batch (sym w i))))))

pub world_on : (r : Run) (t : LastTurn) (s now : Pipeline) (batch : ℕ) → IsAfter r t s → HasTurned r t s (next_turn r batch t).made (next_turn r batch t).ahead now → world_in now ≡ turn r batch (world_in s)
world_on r t s now batch b h =
    world_is r (next_turn r batch t) now h.behind
    ∙ sym (turns_lead_on r t batch (some_moves r t s b) b.at_turn.led.stage).0
    ∙ ap (turn r batch) (sym (world_is r t s b))

-- what it judged ahead: `ahead` moves after its own, on the placement where it began
pub ahead_on : (r : Run) (t : LastTurn) (s now : Pipeline) (n ahead : ℕ) → IsAfter r t s → HasTurned r t s n ahead now → map (verdict_of now.base) now.ahead.items ≡ map (verdict_on r (standing_of s.owner.state)) (range_with_len now.owner.state.done ahead)
ahead_on r t s now n ahead b h =
    let u : LastTurn = record { start = stands r t; made = n; ahead = ahead } in
    ap (λ (w : World). w.verdicts) (world_is r u now h.behind)
    ∙ (λ i. map (verdict_on r (sym b.at_turn.led.here i)) (range_with_len (sym (done_at r u now h.behind) i) ahead))

pub world_cut : (r : Run) (t : LastTurn) (s now : Pipeline) (n : ℕ) → IsAfter r t s → HasTurned r t s n 0 now → world_in now ≡ turn_making r (now.owner.state.done - s.owner.state.done) 0 (world_in s)
world_cut r t s now n b h =
    let made = moves_made r t s now n 0 b h in
    let e : n ≡ now.owner.state.done - s.owner.state.done = omega (arith, made) in
    let stage = h.behind.at_turn.led.stage in
    let long : t.ahead ≡ length (world_behind r t).verdicts = sym (length_on r t.start (stands r t).done t.ahead) in
    world_is r (record { start = stands r t; made = n; ahead = 0 }) now h.behind
    ∙ sym (turn_leads r t n 0 (some_moves r t s b) b.at_turn.led.stage stage)
    ∙ ap (λ k. forget (stands r t).done (run_through r (world_behind r t) (events_from (stands r t).done k n 0))) long
    ∙ (λ i. turn_making r (e i) 0 (sym (world_is r t s b) i))

-- answers as verdicts keep their numbers, and what they say

pub numbers_told : (base : ℕ) (answers : List Answer) → map (λ (v : Answer). v.k) answers ≡ map (λ (v : JudgedMove). v.number) (map (verdict_of base) answers)
numbers_told base [] = refl
numbers_told base (a ∷ answers) = ap (λ l. a.k ∷ l) (numbers_told base answers)

pub says_told : (base : ℕ) (answers : List Answer) → map says answers ≡ map (λ (v : JudgedMove). v.judged) (map (verdict_of base) answers)
says_told base [] = refl
says_told base (a ∷ answers) = ap (λ l. says a ∷ l) (says_told base answers)

-- what stays where a turn finds no move left
pub record Stays (s now : Pipeline) : Type 0 where
  pub stands : standing_of now.owner.state ≡ standing_of s.owner.state
  pub redone : now.owner.redone ≡ s.owner.redone
  pub ahead : map (verdict_of now.base) now.ahead.items ≡ []

pub none_left : (r : Run) (x : Standing) → x.heat ≡ None → moves_left r x ≡ 0
none_left r x over = ap (left_at r.plan.moves x.done) over

pub stays : (r : Run) (s now : Pipeline) (batch : ℕ) (told : List Way) → (standing_of s.owner.state).heat ≡ None
    → standing_of now.owner.state ≡ from r (standing_of s.owner.state) (now.owner.state.done - s.owner.state.done)
    → now.owner.state.done ≡ s.owner.state.done + min batch (moves_left r (standing_of s.owner.state))
    → now.owner.redone ≡ s.owner.redone + count_by is_redone_way (take (now.owner.state.done - s.owner.state.done) told)
    → map (verdict_of now.base) now.ahead.items ≡ map (verdict_on r (standing_of s.owner.state)) (range_with_len now.owner.state.done (min batch (moves_left r (standing_of s.owner.state) - min batch (moves_left r (standing_of s.owner.state)))))
    → Stays s now
stays r s now batch told over stands done redone ahead =
    let x = standing_of s.owner.state in
    let left = none_left r x over in
    let none : now.owner.state.done - s.owner.state.done ≡ 0 = omega (arith, done, left) in
    let least : min batch (moves_left r x - min batch (moves_left r x)) ≡ 0 = omega (arith, left) in
    let counted : count_by is_redone_way (take (now.owner.state.done - s.owner.state.done) told) ≡ 0 = ap (λ n. count_by is_redone_way (take n told)) none in
    record {
      stands = stands ∙ ap (from r x) none;
      redone = omega (arith, redone, counted);
      ahead = ahead ∙ ap (λ n. map (verdict_on r x) (range_with_len now.owner.state.done n)) least;
    }

-- a run that is over has ended
pub has_ended : (s now : Pipeline) → standing_of now.owner.state ≡ standing_of s.owner.state → (standing_of s.owner.state).heat ≡ None → now.owner.state.ended ≡ true
has_ended s now same over = by_end now.owner.state.ended now.owner.state.stage.t (ap (λ (x : Standing). x.heat) same ∙ over)
  where
    by_end : (b : Bool) (t : ℕ) → heat_of b t ≡ None → b ≡ true
    by_end true t e = refl
    by_end false t e = absurd (none-some t (sym e))

-- a run that is over has nothing judged ahead
pub none_ahead : (r : Run) (t : LastTurn) (s : Pipeline) → IsAfter r t s → (standing_of s.owner.state).heat ≡ None → s.ahead.items ≡ []
none_ahead r t s b over =
    let none : moves_left r (stands r t) ≡ 0 = none_left r (stands r t) (ap (λ (x : Standing). x.heat) (sym b.at_turn.led.here) ∙ over) in
    let stage = b.at_turn.led.stage in
    let many = b.at_turn.many in
    elim (cases_lt t.made (moves_left r t.start)) [
      | inl l ↦ (let left = left_from r t.start t.made l in absurd (omega (arith, left, none, l)))
      | inr l ↦ no_items s.ahead.items (omega (arith, l, stage, many))
    ]
  where
    no_items : {A : Type 0} (xs : List A) → length xs ≡ 0 → xs ≡ []
    no_items [] e = refl
    no_items (x ∷ xs) e = absurd (omega (arith, e))

-- a turn of no move accepts no swap
pub no_swaps : (r : Run) (t : LastTurn) (s now : Pipeline) (n ahead : ℕ) → HasTurned r t s n ahead now → n ≡ 0 → now.owner.swaps.items ≡ []
no_swaps r t s now n ahead h none = h.behind.at_turn.swaps ∙ ap (accepted_from r (stands r t)) none

-- a run that is not over has moves left in its stage
pub some_left : (r : Run) (x : Standing) → 0 < r.plan.moves → is_some x.heat ≡ true → 0 < moves_left r x
some_left r x pos going = by_heat x.heat going
  where
    by_heat : (o : Option ℕ) → is_some o ≡ true → 0 < left_at r.plan.moves x.done o
    by_heat None e = absurd (false≢true e)
    by_heat (Some t) e = omega (arith, pos)
