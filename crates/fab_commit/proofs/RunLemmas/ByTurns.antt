-- Turns of one batch, one more at a time.
use Rattle.std.proofs.Common.{◌≡◌, ℕ, zero, suc, ◌+◌, ◌-◌, ◌<◌, ◌≤◌, min, [], replicate, take, refl, sym, ap, ◌∙◌, arith}
use Rattle.std.specs.List.{count_by}
use Rattle.fab_commit.specs.Serial.{Run, Standing, moves_left}
use Rattle.fab_commit.specs.Run.Commits.{AnnealOf, world_of}
use Rattle.fab_commit.specs.Run.ByTurns.{IsByTurns, LeadsByTurns}
use Rattle.fab_commit.specs.Model.TurnEvents.{LastTurn, IsOfAStage, next_turn, no_turn, stands, turn, turn_events, world_behind}
use Rattle.fab_commit.specs.Model.Turns.{last_turn, redone, redone_in_run, redone_next}
use Rattle.fab_commit.specs.Model.World.{World, is_redone_way, ways}
use Rattle.fab_commit.proofs.ModelLemmas.RunLaws.{redone_in_runs, redone_with_a_shorter, ways_of_a_beginning}
use Rattle.fab_commit.proofs.ModelLemmas.TurnLaws.{turns_lead_on}

last_push : (r : Run) (t : LastTurn) (n batch : ℕ) → last_turn r t (replicate (suc n) batch) ≡ next_turn r batch (last_turn r t (replicate n batch))
last_push r t zero batch = refl
last_push r t (suc n) batch = last_push r (next_turn r batch t) n batch

redone_push : (r : Run) (t : LastTurn) (n batch : ℕ) → redone r t (replicate (suc n) batch) ≡ redone r t (replicate n batch) + redone_next r batch (last_turn r t (replicate n batch))
redone_push r t zero batch = omega arith
redone_push r t (suc n) batch = (let e = redone_push r (next_turn r batch t) n batch in omega (arith, e))

pub last_of_a_stage : (r : Run) (t : LastTurn) (n batch : ℕ) → 0 < r.plan.moves → IsOfAStage r t → IsOfAStage r (last_turn r t (replicate n batch))
last_of_a_stage r t zero batch pos stage = stage
last_of_a_stage r t (suc n) batch pos stage = last_of_a_stage r (next_turn r batch t) n batch pos (turns_lead_on r t batch pos stage).1

pub by_turns_on : {W : Type 0} (r : Run) (batch : ℕ) (a b : AnnealOf W) → 0 < r.plan.moves
    → world_of b ≡ turn r batch (world_of a)
    → b.standing.done ≡ a.standing.done + min batch (moves_left r a.standing)
    → b.redone ≡ a.redone + count_by is_redone_way (take (b.standing.done - a.standing.done) (ways r (world_of a) (turn_events r batch (world_of a))))
    → LeadsByTurns r batch a b
by_turns_on r batch a b pos world done count = record { on = on }
  where
    on : (x : Standing) → IsByTurns r x batch a → IsByTurns r x batch b
    on x by =
        let t = last_turn r (no_turn x) (replicate by.turns batch) in
        let first : IsOfAStage r (no_turn x) = omega arith in
        let stage = last_of_a_stage r (no_turn x) by.turns batch pos first in
        let next = next_turn r batch t in
        let here : a.standing ≡ stands r t = ap (λ (w : World). w.live) by.here in
        let same : min batch (moves_left r a.standing) ≡ next.made = ap (λ s. min batch (moves_left r s)) here in
        let made : b.standing.done - a.standing.done ≡ next.made = omega (arith, done, same) in
        let told = ways_of_a_beginning r t batch next.made pos stage (omega arith) in
        let counted : count_by is_redone_way (take (b.standing.done - a.standing.done) (ways r (world_of a) (turn_events r batch (world_of a)))) ≡ redone_next r batch t =
        (λ i. count_by is_redone_way (take (made i) (ways r (by.here i) (turn_events r batch (by.here i))))) ∙ told in
        let was = by.again in
        let push = redone_push r (no_turn x) by.turns batch in
        record {
          turns = suc by.turns;
          here =
              world
              ∙ ap (turn r batch) by.here
              ∙ (turns_lead_on r t batch pos stage).0
              ∙ ap (world_behind r) (sym (last_push r (no_turn x) by.turns batch));
          again = omega (arith, count, counted, was, push);
        }

pub by_turns_stay : {W : Type 0} (r : Run) (batch : ℕ) (a : AnnealOf W) → LeadsByTurns r batch a a
by_turns_stay r batch a = record { on = λ x h. h }

pub by_turns_then : {W : Type 0} (r : Run) (batch : ℕ) (a b c : AnnealOf W) → LeadsByTurns r batch a b → LeadsByTurns r batch b c → LeadsByTurns r batch a c
by_turns_then r batch a b c first second = record { on = λ x h. second.on x (first.on x h) }

-- before the first turn
pub by_no_turn : {W : Type 0} (r : Run) (batch : ℕ) (a : AnnealOf W) → a.ahead ≡ [] → a.swaps ≡ [] → a.redone ≡ 0 → IsByTurns r a.standing batch a
by_no_turn r batch a ahead swaps none = record {
  turns = 0;
  here = (λ i. record { live = a.standing; older = a.standing; claims = []; verdicts = ahead i; accepted = swaps i });
  again = none;
}

-- how many moves were judged again
pub redone_by_turns : {W : Type 0} (r : Run) (x : Standing) (batch : ℕ) (a : AnnealOf W) → 0 < r.plan.moves → IsByTurns r x batch a → a.redone ≡ redone_in_run r x batch (a.standing.done - x.done)
redone_by_turns r x batch a pos by =
    by.again
    ∙ redone_in_runs r x batch by.turns pos
    ∙ ap (λ (w : World). redone_in_run r x batch (w.live.done - x.done)) (sym by.here)

-- and how many are, where a shorter turn came last
pub redone_by_a_shorter : {W : Type 0} (r : Run) (x : Standing) (batch short : ℕ) (a b : AnnealOf W) → 0 < r.plan.moves → short ≤ batch → IsByTurns r x batch a
    → b.standing.done ≡ a.standing.done + min short (moves_left r a.standing)
    → b.redone ≡ a.redone + count_by is_redone_way (take (b.standing.done - a.standing.done) (ways r (world_of a) (turn_events r short (world_of a))))
    → b.redone ≡ redone_in_run r x batch (b.standing.done - x.done)
redone_by_a_shorter r x batch short a b pos low by done count =
    let t = last_turn r (no_turn x) (replicate by.turns batch) in
    let first : IsOfAStage r (no_turn x) = omega arith in
    let stage = last_of_a_stage r (no_turn x) by.turns batch pos first in
    let next = next_turn r short t in
    let here : a.standing ≡ stands r t = ap (λ (w : World). w.live) by.here in
    let same : min short (moves_left r a.standing) ≡ next.made = ap (λ s. min short (moves_left r s)) here in
    let made : b.standing.done - a.standing.done ≡ next.made = omega (arith, done, same) in
    let told = ways_of_a_beginning r t short next.made pos stage (omega arith) in
    let counted : count_by is_redone_way (take (b.standing.done - a.standing.done) (ways r (world_of a) (turn_events r short (world_of a)))) ≡ redone_next r short t =
    (λ i. count_by is_redone_way (take (made i) (ways r (by.here i) (turn_events r short (by.here i))))) ∙ told in
    let was = by.again in
    let all = redone_with_a_shorter r x batch by.turns short pos low in
    let begun : a.standing.done ≡ (stands r t).done = ap (λ (s : Standing). s.done) here in
    let end : (stands r t).done + next.made - x.done ≡ b.standing.done - x.done = omega (arith, done, same, begun) in
    let sum : b.redone ≡ redone r (no_turn x) (replicate by.turns batch) + redone_next r short t = omega (arith, count, counted, was) in
    sum ∙ all ∙ ap (redone_in_run r x batch) end
