-- What an annealer is after moves that its owner made alone.
use Rattle.std.proofs.Common.{◌≡◌, ℕ, ◌+◌, ◌-◌, ◌<◌, ◌≤◌, ◌++◌, List, [], ◌∷◌, min, replicate, Result, Ok, Err, refl, sym, ap, subst, ◌∙◌, arith}
use Rattle.std.specs.List.{count_by}
use Rattle.std.specs.declared.alloc.AllocError.{AllocError}
use Rattle.fab_dial.specs.declared.readings.Reading.{Reading}
use Rattle.fab_commit.specs.declared.run.alone.OnBase.{OnBase}
use Rattle.fab_commit.specs.declared.run.owner.Owner.{Owner}
use Rattle.fab_commit.specs.declared.run.pipeline.Pipeline.{Pipeline}
use Rattle.fab_commit.specs.declared.run.state.Given.{Given}
use Rattle.fab_commit.specs.Serial.{Run, Standing, from, moves_left}
use Rattle.fab_commit.specs.Run.Stages.{AreCounted, AreMade, HaveEnded, IsMadeByTurns, redone_in, unjudged, with_shorter}
use Rattle.fab_commit.specs.Run.ByTurns.{IsByTurns}
use Rattle.fab_commit.specs.Run.Commits.{AnnealOf, run_for, standing_of, world_of}
use Rattle.fab_commit.specs.Run.Pipelines.{HasTurn, IsAtTurn, IsAfter, world_in}
use Rattle.fab_commit.specs.Model.TurnEvents.{LastTurn, IsOfAStage, cut_turn, next_turn, no_turn, stands, turn_events, turn_making, world_behind}
use Rattle.fab_commit.specs.Model.Turns.{last_turn, redone, redone_in_run, redone_next, turns}
use Rattle.fab_commit.specs.Model.World.{World, is_redone_way, ways}
use Rattle.fab_commit.proofs.ModelLemmas.RunLaws.{redone_with_a_shorter, ways_of_a_turn}
use Rattle.fab_commit.proofs.ModelLemmas.TurnLaws.{cut_turns_lead_on, turns_lead, turns_lead_on}
use Rattle.fab_commit.proofs.RunLemmas.InTurns.{after_at_turn, unseen}
use Rattle.fab_commit.proofs.RunLemmas.Annealing.{some_moves, world_is}
use Rattle.fab_commit.proofs.RunLemmas.ByChains.{by_chain, last_add, redone_add, same_turns}
use Rattle.fab_commit.proofs.RunLemmas.ByTurns.{last_of_a_stage}
use Rattle.fab_commit.proofs.RunLemmas.Parts.{none_redone, redone_more}
use Rattle.fab_commit.proofs.RunLemmas.Further.{made_further}
use Rattle.fab_commit.proofs.RunLemmas.Turned.{seen}

-- what turns judge again depends only on the world before them
redone_are : (r : Run) (t : LastTurn) (batches : List ℕ) → 0 < r.plan.moves → IsOfAStage r t → redone_in r (world_behind r t) batches ≡ redone r t batches
redone_are r t [] pos stage = refl
redone_are r t (batch ∷ batches) pos stage =
    let on = turns_lead_on r t batch pos stage in
    let one = ways_of_a_turn r t batch pos stage in
    let rest = ap (λ w. redone_in r w batches) on.0 ∙ redone_are r (next_turn r batch t) batches pos on.1 in
    omega (arith, one, rest)

-- the world after turns of these batches
worlds : (r : Run) (t : LastTurn) (s : Pipeline) (batches : List ℕ) → IsAfter r t s → world_behind r (last_turn r t batches) ≡ turns r (world_in s) batches
worlds r t s batches b = sym (turns_lead r t batches (some_moves r t s b) b.at_turn.led.stage) ∙ ap (λ w. turns r w batches) (sym (world_is r t s b))

-- turns of this batch and a shorter one, counted in the world before them
counted_in : (r : Run) (t : LastTurn) (s : Pipeline) (n batch short old new : ℕ) → IsAfter r t s → new ≡ old + (redone r t (replicate n batch) + redone_next r short (last_turn r t (replicate n batch)))
    → new ≡ old + redone_in r (world_in s) (replicate n batch ++ short ∷ [])
counted_in r t s n batch short old new b counted =
    let more = redone_more r t (replicate n batch) short in
    let all = redone_are r t (replicate n batch ++ short ∷ []) (some_moves r t s b) b.at_turn.led.stage in
    let here = ap (λ w. redone_in r w (replicate n batch ++ short ∷ [])) (world_is r t s b) in
    omega (arith, counted, more, all, here)

-- what is judged again after turns of one batch and a shorter one
counted_part : {W : Type 0} (r : Run) (batch : ℕ) (t : LastTurn) (o now : Owner) (due : OnBase) (count : ℕ) (a : AnnealOf W) (x : Standing) → 0 < r.plan.moves → IsOfAStage r t → world_of a ≡ world_behind r t → a.redone ≡ o.redone
    → HaveEnded r batch t o count now due → IsByTurns r x batch a → now.redone ≡ redone_in_run r x batch (now.state.done - x.done)
counted_part r batch t o now due count a x pos stage here again h by =
    let m = by.turns in
    let n = h.turns in
    let k = h.short in
    let u = last_turn r (no_turn x) (replicate m batch) in
    let first : IsOfAStage r (no_turn x) = omega arith in
    let stage_u = last_of_a_stage r (no_turn x) m batch pos first in
    let same = same_turns r t u n batch pos stage stage_u (sym here ∙ by.here) in
    let v = last_turn r t (replicate n batch) in
    let w = last_turn r u (replicate n batch) in
    let told = λ (z : World). count_by is_redone_way (ways r z (turn_events r k z)) in
    let one : redone_next r k v ≡ redone_next r k w =
    sym (ways_of_a_turn r v k pos (last_of_a_stage r t n batch pos stage)) ∙ ap told same.0 ∙ ways_of_a_turn r w k pos (last_of_a_stage r u n batch pos stage_u) in
    let all = redone_add r (no_turn x) m n batch in
    let end = subst (λ (z : LastTurn). redone r (no_turn x) (replicate (m + n) batch) + redone_next r k z ≡ redone_in_run r x batch ((stands r z).done + (next_turn r k z).made - x.done)) (last_add r (no_turn x) m n batch) (redone_with_a_shorter r x batch (m + n) k pos h.few) in
    let live : stands r v ≡ stands r w = ap (λ (z : World). z.live) same.0 in
    let size : (next_turn r k v).made ≡ (next_turn r k w).made = ap (λ s. min k (moves_left r s)) live in
    let begun : (stands r v).done ≡ (stands r w).done = ap (λ (s : Standing). s.done) live in
    let last = h.last in
    let there : (stands r w).done + (next_turn r k w).made - x.done ≡ now.state.done - x.done = omega (arith, last, size, begun) in
    let was = by.again in
    let more = h.redone in
    let chain = same.1 in
    let sum : now.redone ≡ redone r (no_turn x) (replicate (m + n) batch) + redone_next r k w = omega (arith, was, more, chain, one, all, again) in
    sum ∙ end ∙ ap (redone_in_run r x batch) there

pub made_by_turns : {W A : Type 0} (moves : W → ℕ → List ℕ) (given : Given W) (z : Standing) (batch count : ℕ) (s now : Pipeline) (t : LastTurn) (ahead : OnBase) (answer : Result A AllocError) (old new : List Reading) → IsAfter (run_for moves given) t s
    → z.done ≤ s.owner.state.done → standing_of s.owner.state ≡ from (run_for moves given) z (s.owner.state.done - z.done)
    → IsAtTurn (run_for moves given) t s.owner ahead → AreMade (run_for moves given) batch count s.owner.state now.owner.state answer old new → AreCounted (run_for moves given) batch count s.owner ahead now.owner now.base answer
    → now.ahead.items ≡ [] → HasTurn (run_for moves given) now → IsMadeByTurns moves batch count (seen moves given z s) (seen moves given z now) answer old new
made_by_turns moves given z batch count s now t ahead (Ok v) old new b after here alone made counted none turn =
    let r = run_for moves given in
    let h = counted.ended t alone in
    let n = h.turns in
    let u = last_turn r t (with_shorter n batch h.short) in
    let behind = after_at_turn r (unjudged u) now (record { base = now.base; moves = 0 }) h.at_turn refl none (unseen r now none turn) refl in
    record {
      made = made_further moves given z batch count s now (Ok v) old new after here made none turn;
      turns_made = n;
      short = h.short;
      few = h.few;
      whole = tt;
      world = world_is r (unjudged u) now behind ∙ ap (λ (w : World). record w { verdicts = [] }) (worlds r t s (with_shorter n batch h.short) b);
      cut = tt;
      redone = counted_in r t s n batch h.short s.owner.redone now.owner.redone b h.redone;
      by_turns = λ w.
          let end = h.whole w in
          let plain : u ≡ last_turn r t (replicate n batch) = ap (λ k. last_turn r t (with_shorter n batch k)) end.0 in
          let same : unjudged (last_turn r t (replicate n batch)) ≡ last_turn r t (replicate n batch) = (let v = last_turn r t (replicate n batch) in ap (λ k. record { start = v.start; made = v.made; ahead = k }) (sym end.1)) in
          let zero = ap (λ k. redone_next r k (last_turn r t (replicate n batch))) end.0 ∙ none_redone r (last_turn r t (replicate n batch)) in
          let again = h.redone in
          by_chain r batch n t (seen moves given z s) (seen moves given z now) (some_moves r t s b) b.at_turn.led.stage (world_is r t s b) (world_is r (unjudged u) now behind ∙ ap (λ v. world_behind r (unjudged v)) plain ∙ ap (world_behind r) same) (omega (arith, again, zero));
      counted = λ x by. counted_part r batch t s.owner now.owner (record { base = now.base; moves = 0 }) count (seen moves given z s) x (some_moves r t s b) b.at_turn.led.stage (world_is r t s b) refl h by;
    }
made_by_turns moves given z batch count s now t ahead (Err e) old new b after here alone made counted none turn =
    let r = run_for moves given in
    let h = counted.stopped t alone in
    let n = h.0 in
    let h = h.3 in
    let u = last_turn r t (replicate n batch) in
    let behind = after_at_turn r (cut_turn r 0 u) now (record { base = now.base; moves = 0 }) h.at_turn refl none (unseen r now none turn) refl in
    let zero = none_redone r u in
    let again = h.redone in
    record {
      made = made_further moves given z batch count s now (Err e) old new after here made none turn;
      turns_made = n;
      short = 0;
      few = omega arith;
      whole = refl;
      world = tt;
      cut = world_is r (cut_turn r 0 u) now behind ∙ sym (cut_turns_lead_on r u 0 (some_moves r t s b) (last_of_a_stage r t n batch (some_moves r t s b) b.at_turn.led.stage) (omega arith)).0 ∙ ap (turn_making r 0 0) (worlds r t s (replicate n batch) b);
      redone = counted_in r t s n batch 0 s.owner.redone now.owner.redone b (omega (arith, again, zero));
      by_turns = tt;
      counted = tt;
    }
