-- An annealer whose run is some moves further.
use Rattle.std.proofs.Common.{◌≡◌, ℕ, ◌-◌, ◌<◌, ◌≤◌, Bool, false, List, [], map, Option, Result, Ok, Err, is_some, refl, ap, ◌∙◌, arith}
use Rattle.std.specs.Global.{Vec}
use Rattle.std.specs.declared.alloc.AllocError.{AllocError}
use Rattle.fab_dial.specs.declared.readings.Reading.{Reading}
use Rattle.fab_commit.specs.declared.run.pipeline.Pipeline.{Pipeline}
use Rattle.fab_commit.specs.declared.run.state.Given.{Given}
use Rattle.fab_commit.specs.declared.run.state.State.{State}
use Rattle.fab_commit.specs.Serial.{Run, Standing, accepted_among, from, moves_left}
use Rattle.fab_commit.specs.Run.Stages.{AreMade, IsMade}
use Rattle.fab_commit.specs.Run.Commits.{IsSound, run_for, standing_of}
use Rattle.fab_commit.specs.Run.Noted.{noted, noted_more}
use Rattle.fab_commit.specs.Run.Owners.{verdict_of}
use Rattle.fab_commit.specs.Run.Pipelines.{HasTurn}
use Rattle.fab_commit.specs.Run.Since.{IsSince}
use Rattle.fab_commit.specs.Run.Further.{IsFurther}
use Rattle.fab_commit.proofs.RunLemmas.Annealing.{world_is}
use Rattle.fab_commit.proofs.RunLemmas.Folding.{goes_on, not_ended}
use Rattle.fab_commit.proofs.RunLemmas.Since.{accepted_later, since_made}
use Rattle.fab_commit.proofs.RunLemmas.Turned.{seen}

-- while the stage has moves left the run goes on
pub further_going : (r : Run) (s now : State) (n : ℕ) → IsFurther r s n now → n < moves_left r (standing_of s) → now.ended ≡ false
further_going r s now n f l = not_ended now.ended now.stage.t (ap (λ (y : Standing). is_some y.heat) f.stands ∙ goes_on r (standing_of s) n l)

-- numbers with more room
pub sound_kept : (r : Run) (s : State) (l : Option (Vec ℕ)) → IsSound r s → IsSound r (record s { accepted = l })
sound_kept r s l sound = record { legal = sound.legal; array = sound.array; cost = sound.cost; place = sound.place; counted = sound.counted; stage = sound.stage }

pub further_kept : (r : Run) (s now : State) (l : Option (Vec ℕ)) (n : ℕ) → noted l ≡ noted s.accepted → IsFurther r (record s { accepted = l }) n now → IsFurther r s n now
further_kept r s now l n same f = record {
  sound = f.sound;
  done = f.done;
  stands = f.stands;
  accepted = f.accepted ∙ ap (λ o. noted_more o (accepted_among r (standing_of s) n)) same;
}

-- what an annealer is after moves of its stage
pub made_further : {W A : Type 0} (moves : W → ℕ → List ℕ) (given : Given W) (z : Standing) (batch count : ℕ) (s now : Pipeline) (answer : Result A AllocError) (old new : List Reading)
    → z.done ≤ s.owner.state.done → standing_of s.owner.state ≡ from (run_for moves given) z (s.owner.state.done - z.done)
    → AreMade (run_for moves given) batch count s.owner.state now.owner.state answer old new → now.ahead.items ≡ [] → HasTurn (run_for moves given) now
    → IsMade moves batch count (seen moves given z s) (seen moves given z now) answer old new
made_further moves given z batch count s now (Ok v) old new after here made none turn =
    let r = run_for moves given in
    let x = standing_of s.owner.state in
    let done = made.further.done in
    let all = made.ok in
    let few = made.few in
    let some : made.made ≡ now.owner.state.done - s.owner.state.done = omega (arith, done) in
    record {
      same = record { design = refl; grid = refl; fixed = refl; plan = refl; words = refl };
      stands = made.further.stands ∙ ap (from r x) some;
      accepted = accepted_later r z x now.owner.state.done after (omega (arith, done)) here;
      ok = omega (arith, done, all);
      within = (omega (arith, done), omega (arith, done, few));
      ahead = ap (map (verdict_of now.base)) none;
      behind = (turn.0, world_is r turn.0 now turn.1);
      shown = made.shown;
      ends = made.ends;
      shown_cut = tt;
    }
made_further moves given z batch count s now (Err e) old new after here made none turn =
    let r = run_for moves given in
    let x = standing_of s.owner.state in
    let done = made.further.done in
    let few = made.few in
    let some : made.made ≡ now.owner.state.done - s.owner.state.done = omega (arith, done) in
    record {
      same = record { design = refl; grid = refl; fixed = refl; plan = refl; words = refl };
      stands = made.further.stands ∙ ap (from r x) some;
      accepted = accepted_later r z x now.owner.state.done after (omega (arith, done)) here;
      ok = tt;
      within = (omega (arith, done), omega (arith, done, few));
      ahead = ap (map (verdict_of now.base)) none;
      behind = (turn.0, world_is r turn.0 now turn.1);
      shown = tt;
      ends = tt;
      shown_cut = made.cut;
    }

-- what was accepted since a run's standing
pub since_further : {A : Type 0} (r : Run) (keeps : Bool) (before : ℕ) (x : Standing) (batch count : ℕ) (s now : State) (answer : Result A AllocError) (old new : List Reading) → AreMade r batch count s now answer old new
    → IsSince r keeps before x s → IsSince r keeps before x now
since_further r keeps before x batch count s now answer old new made since = since_made r keeps before x s now made.made made.further.done made.further.stands made.further.accepted since
