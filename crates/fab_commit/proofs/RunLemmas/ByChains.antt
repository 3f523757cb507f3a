-- Turns of one batch, several more at a time.
use Rattle.std.proofs.Common.{◌≡◌, ℕ, zero, suc, ◌+◌, ◌<◌, replicate, refl, sym, ap, ◌∙◌, arith}
use Rattle.std.specs.List.{count_by}
use Rattle.fab_commit.specs.Serial.{Run, Standing}
use Rattle.fab_commit.specs.Run.Commits.{AnnealOf, world_of}
use Rattle.fab_commit.specs.Run.ByTurns.{IsByTurns, LeadsByTurns}
use Rattle.fab_commit.specs.Model.TurnEvents.{LastTurn, IsOfAStage, next_turn, no_turn, turn, turn_events, world_behind}
use Rattle.fab_commit.specs.Model.Turns.{last_turn, redone, redone_next}
use Rattle.fab_commit.specs.Model.World.{World, is_redone_way, ways}
use Rattle.fab_commit.proofs.ModelLemmas.RunLaws.{ways_of_a_turn}
use Rattle.fab_commit.proofs.ModelLemmas.TurnLaws.{turns_lead_on}
use Rattle.fab_commit.proofs.RunLemmas.ByTurns.{last_of_a_stage}

pub last_add : (r : Run) (t : LastTurn) (m n batch : ℕ) → last_turn r t (replicate (m + n) batch) ≡ last_turn r (last_turn r t (replicate m batch)) (replicate n batch)
last_add r t zero n batch = (let e : 0 + n ≡ n = omega arith in ap (λ k. last_turn r t (replicate k batch)) e)
last_add r t (suc m) n batch =
    let e : suc m + n ≡ suc (m + n) = omega arith in
    ap (λ k. last_turn r t (replicate k batch)) e ∙ last_add r (next_turn r batch t) m n batch

pub redone_add : (r : Run) (t : LastTurn) (m n batch : ℕ) → redone r t (replicate (m + n) batch) ≡ redone r t (replicate m batch) + redone r (last_turn r t (replicate m batch)) (replicate n batch)
redone_add r t zero n batch =
    let e : 0 + n ≡ n = omega arith in
    let same = ap (λ k. redone r t (replicate k batch)) e in
    omega (arith, same)
redone_add r t (suc m) n batch =
    let e : suc m + n ≡ suc (m + n) = omega arith in
    let same = ap (λ k. redone r t (replicate k batch)) e in
    let rest = redone_add r (next_turn r batch t) m n batch in
    omega (arith, same, rest)

-- one more turn of the batch
pub chain_push : (r : Run) (t : LastTurn) (n batch : ℕ)
    → (last_turn r t (replicate (n + 1) batch) ≡ next_turn r batch (last_turn r t (replicate n batch)))
    × (redone r t (replicate (n + 1) batch) ≡ redone r t (replicate n batch) + redone_next r batch (last_turn r t (replicate n batch)))
chain_push r t n batch = (last_add r t n 1 batch, let sum = redone_add r t n 1 batch in omega (arith, sum))

-- what turns of a batch make depends only on the world before them
pub same_turns : (r : Run) (t u : LastTurn) (n batch : ℕ) → 0 < r.plan.moves → IsOfAStage r t → IsOfAStage r u → world_behind r t ≡ world_behind r u
    → (world_behind r (last_turn r t (replicate n batch)) ≡ world_behind r (last_turn r u (replicate n batch)))
    × (redone r t (replicate n batch) ≡ redone r u (replicate n batch))
same_turns r t u zero batch pos first second same = (same, refl)
same_turns r t u (suc n) batch pos first second same =
    let on = turns_lead_on r t batch pos first in
    let beside = turns_lead_on r u batch pos second in
    let told = λ (w : World). count_by is_redone_way (ways r w (turn_events r batch w)) in
    let one : redone_next r batch t ≡ redone_next r batch u = sym (ways_of_a_turn r t batch pos first) ∙ ap told same ∙ ways_of_a_turn r u batch pos second in
    let rest = same_turns r (next_turn r batch t) (next_turn r batch u) n batch pos on.1 beside.1 (sym on.0 ∙ ap (turn r batch) same ∙ beside.0) in
    let more = rest.1 in
    (rest.0, omega (arith, one, more))

-- turns from the world of one annealer to that of another, whatever turns led to the first
pub by_chain : {W : Type 0} (r : Run) (batch n : ℕ) (t : LastTurn) (a b : AnnealOf W) → 0 < r.plan.moves → IsOfAStage r t
    → world_of a ≡ world_behind r t
    → world_of b ≡ world_behind r (last_turn r t (replicate n batch))
    → b.redone ≡ a.redone + redone r t (replicate n batch)
    → LeadsByTurns r batch a b
by_chain r batch n t a b pos stage here there count = record { on = on }
  where
    on : (x : Standing) → IsByTurns r x batch a → IsByTurns r x batch b
    on x by =
        let u = last_turn r (no_turn x) (replicate by.turns batch) in
        let first : IsOfAStage r (no_turn x) = omega arith in
        let same = same_turns r t u n batch pos stage (last_of_a_stage r (no_turn x) by.turns batch pos first) (sym here ∙ by.here) in
        let was = by.again in
        let more = same.1 in
        let all = redone_add r (no_turn x) by.turns n batch in
        record {
          turns = by.turns + n;
          here = there ∙ same.0 ∙ ap (world_behind r) (sym (last_add r (no_turn x) by.turns n batch));
          again = omega (arith, count, was, more, all);
        }
