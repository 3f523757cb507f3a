-- What an annealer is after a turn, and what the turn returned.
use Rattle.std.proofs.Common.{◌≡◌, ℕ, ◌+◌, ◌-◌, ◌<◌, ◌≤◌, min, List, [], map, Bool, Result, Ok, Err, refl, sym, ap, ◌∙◌, arith}
use Rattle.std.specs.List.{range_with_len}
use Rattle.std.specs.declared.alloc.AllocError.{AllocError}
use Rattle.fab_commit.specs.Serial.{Run, Standing, from, moves_left}
use Rattle.fab_commit.specs.declared.run.pipeline.Pipeline.{Pipeline}
use Rattle.fab_commit.specs.declared.run.state.Given.{Given}
use Rattle.fab_commit.specs.declared.run.turn.Turn.{Turn}
use Rattle.fab_commit.specs.Run.Commits.{AnnealOf, heat_of, run_for, standing_of, turn_of}
use Rattle.fab_commit.specs.Run.Owners.{verdict_of}
use Rattle.fab_commit.specs.Run.Pipelines.{HasTurn, HasTurned, IsAfter, TurnsOn, world_in}
use Rattle.fab_commit.specs.Run.Since.{accepted_since}
use Rattle.fab_commit.specs.Run.Turned.{IsTurned}
use Rattle.fab_commit.specs.Model.TurnEvents.{LastTurn, next_turn, turn_events, verdict_on}
use Rattle.fab_commit.specs.Model.World.{ways}
use Rattle.fab_commit.proofs.RunLemmas.Annealing.{ahead_on, has_ended, moves_made, no_swaps, none_ahead, none_left, redone_on, some_moves, stands_on, stays, world_cut, world_on}
use Rattle.fab_commit.proofs.RunLemmas.ByTurns.{by_turns_on}
use Rattle.fab_commit.proofs.RunLemmas.Since.{accepted_later}

-- an annealer that began at standing x, as contracts see it
abbrev pub seen : {W : Type 0} → (W → ℕ → List ℕ) → Given W → Standing → Pipeline → AnnealOf W
seen moves given x p =
    record {
      design = given.design.now;
      grid = given.grid.now;
      fixed = given.fixed;
      plan = given.schedule;
      words = given.words;
      standing = standing_of p.owner.state;
      ahead = map (verdict_of p.base) p.ahead.items;
      swaps = p.owner.swaps.items;
      accepted = accepted_since (run_for moves given) x p.owner.state.done;
      redone = p.owner.redone;
    }

-- some turn led to what is kept after a turn, done or cut short
pub turn_left : {A : Type 0} (r : Run) (batch : ℕ) (s now : Pipeline) (t : LastTurn) (answer : Result A AllocError) → IsAfter r t s
    → TurnsOn r batch s now answer → HasTurn r now
turn_left r batch s now t (Ok a) b on = (_, (on.ok t b).behind)
turn_left r batch s now t (Err e) b on = (_, (on.err t b).behind)

-- a turn that made its moves
pub turn_done : {W : Type 0} (moves : W → ℕ → List ℕ) (given : Given W) (x : Standing) (batch : ℕ) (s now : Pipeline) (t : LastTurn) (answer : Turn) → IsAfter (run_for moves given) t s
    → x.done ≤ s.owner.state.done → standing_of s.owner.state ≡ from (run_for moves given) x (s.owner.state.done - x.done)
    → HasTurned (run_for moves given) t s (next_turn (run_for moves given) batch t).made (next_turn (run_for moves given) batch t).ahead now
    → answer ≡ turn_of (heat_of now.owner.state.ended now.owner.state.stage.t) → IsTurned moves batch (seen moves given x s) (seen moves given x now) (Ok answer)
turn_done moves given x batch s now t answer b after here h told =
    let r = run_for moves given in
    let y = standing_of s.owner.state in
    let next = next_turn r batch t in
    let made = moves_made r t s now next.made next.ahead b h in
    let same : min batch (moves_left r y) ≡ next.made = ap (λ z. min batch (moves_left r z)) b.at_turn.led.here in
    let stands = stands_on r t s now next.made next.ahead b h in
    let redone = redone_on r t s now batch next.made next.ahead b h (omega arith) in
    let world = world_on r t s now batch b h in
    let done : now.owner.state.done ≡ s.owner.state.done + min batch (moves_left r y) = omega (arith, made, same) in
    let ahead : map (verdict_of now.base) now.ahead.items ≡ map (verdict_on r y) (range_with_len now.owner.state.done (min batch (moves_left r y - min batch (moves_left r y)))) =
    ahead_on r t s now next.made next.ahead b h ∙ (λ i. map (verdict_on r y) (range_with_len now.owner.state.done (min batch (moves_left r (sym b.at_turn.led.here i) - min batch (moves_left r (sym b.at_turn.led.here i)))))) in
    record {
      same = record { design = refl; grid = refl; fixed = refl; plan = refl; words = refl };
      stands = stands;
      accepted = accepted_later r x y now.owner.state.done after (omega (arith, done)) here;
      ok = done;
      within = (omega (arith, done), omega (arith, done));
      told = told;
      finished = λ over. (
          let all = stays r s now batch (ways r (world_in s) (turn_events r batch (world_in s))) over stands done redone ahead in
          let ended = has_ended s now all.stands over in
          let left = none_left r y over in
          let before : map (verdict_of s.base) s.ahead.items ≡ [] = ap (map (verdict_of s.base)) (none_ahead r t s b over) in
          let ahead : map (verdict_of now.base) now.ahead.items ≡ map (verdict_of s.base) s.ahead.items = all.ahead ∙ sym before in
          let swaps = no_swaps r t s now next.made next.ahead h (omega (arith, same, left)) in (
            ap (λ (a : Turn). Ok a) (told ∙ ap (λ (e : Bool). turn_of (heat_of e now.owner.state.stage.t)) ended),
            before,
            (λ i. record {
              design = given.design.now;
              grid = given.grid.now;
              fixed = given.fixed;
              plan = given.schedule;
              words = given.words;
              standing = all.stands i;
              ahead = ahead i;
              swaps = swaps i;
              accepted = accepted_since r x ((all.stands i).done);
              redone = all.redone i;
            }),
          )
          );
      world = world;
      cut = tt;
      redone = redone;
      ahead = ahead;
      lost = tt;
      turns = by_turns_on r batch (seen moves given x s) (seen moves given x now) (some_moves r t s b) world done redone;
    }

-- a turn that was cut short, because memory ran out
pub turn_cut : {W : Type 0} (moves : W → ℕ → List ℕ) (given : Given W) (x : Standing) (batch : ℕ) (s now : Pipeline) (t : LastTurn) (e : AllocError) → IsAfter (run_for moves given) t s
    → x.done ≤ s.owner.state.done → standing_of s.owner.state ≡ from (run_for moves given) x (s.owner.state.done - x.done)
    → now.owner.state.done ≤ s.owner.state.done + min batch (moves_left (run_for moves given) (standing_of s.owner.state))
    → HasTurned (run_for moves given) t s (now.owner.state.done - s.owner.state.done) 0 now → 0 < moves_left (run_for moves given) (standing_of s.owner.state)
    → IsTurned moves batch (seen moves given x s) (seen moves given x now) (Err e)
turn_cut moves given x batch s now t e b after here within h some =
    let r = run_for moves given in
    let y = standing_of s.owner.state in
    let n = now.owner.state.done - s.owner.state.done in
    let made = moves_made r t s now n 0 b h in
    let same : min batch (moves_left r y) ≡ (next_turn r batch t).made = ap (λ z. min batch (moves_left r z)) b.at_turn.led.here in
    record {
      same = record { design = refl; grid = refl; fixed = refl; plan = refl; words = refl };
      stands = stands_on r t s now n 0 b h;
      accepted = accepted_later r x y now.owner.state.done after (omega (arith, made)) here;
      ok = tt;
      within = (omega (arith, made), within);
      told = tt;
      finished = λ over. (let none = none_left r y over in absurd (omega (arith, some, none)));
      world = tt;
      cut = world_cut r t s now n b h;
      redone = redone_on r t s now batch n 0 b h (omega (arith, within, same));
      ahead = tt;
      lost = ahead_on r t s now n 0 b h;
      turns = tt;
    }
