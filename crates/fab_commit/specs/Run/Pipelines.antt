-- What an annealer that judges ahead keeps, as contracts see it (our own).
use Rattle.std.specs.Prelude.{ℕ, ◌≡◌, ◌+◌, ◌-◌, ◌<◌, ◌≤◌, min, List, [], length, map, Result, OnOk, OnErr}
use Rattle.std.specs.declared.alloc.AllocError.{AllocError}
use Rattle.std.specs.List.{count_by, range_with_len}
use Rattle.fab_sched.specs.Annealing.{IsLawful}
use Rattle.fab_move.specs.declared.verdicts.Verdict.{Verdict as Answer}
use Rattle.fab_commit.specs.declared.run.alone.OnBase.{OnBase}
use Rattle.fab_commit.specs.declared.run.foreseen.Foreseen.{Foreseen}
use Rattle.fab_commit.specs.declared.run.owner.Owner.{Owner}
use Rattle.fab_commit.specs.declared.run.pipeline.Pipeline.{Pipeline}
use Rattle.fab_commit.specs.Serial.{Run, Standing, moves_left}
use Rattle.fab_commit.specs.Run.Commits.{standing_of}
use Rattle.fab_commit.specs.Run.Foreseen.{AreForeseen}
use Rattle.fab_commit.specs.Run.Further.{IsFurther}
use Rattle.fab_commit.specs.Model.History.{accepted_from}
use Rattle.fab_commit.specs.Run.Owners.{AreAnswers, IsLed, IsOwned, verdict_of}
use Rattle.fab_commit.specs.Model.World.{World}
use Rattle.fab_commit.specs.Model.TurnEvents.{LastTurn, is_redone_behind, next_turn, stands}

-- what the owner keeps after turn t, which led to its placement. The moves of `ahead` count as judged at the turn's start
pub record IsAtTurn (r : Run) (t : LastTurn) (o : Owner) (ahead : OnBase) : Type 0 where
  pub plan : IsLawful r.plan
  pub owned : IsOwned r o
  pub many : ahead.moves ≡ t.ahead
  pub swaps : o.swaps.items ≡ accepted_from r t.start t.made
  pub led : IsLed r t.start t.made o ahead.base t.ahead

-- the moves from k on were judged on the placement of x: these are the judgements, as verdicts and as they were foreseen
pub record AreJudged (r : Run) (x : Standing) (k : ℕ) (answers : List Answer) (foreseen : List Foreseen) : Type 0 where
  pub answers_are : AreAnswers r x k answers
  pub foreseen_are : AreForeseen r x k foreseen
  pub long : length foreseen ≡ length answers

-- what is kept after turn t, where the moves after the turn were judged on the placement at its start
pub record IsAfter (r : Run) (t : LastTurn) (s : Pipeline) : Type 0 where
  pub at_turn : IsAtTurn r t s.owner (record { base = s.base; moves = length s.ahead.items })
  pub judged : AreJudged r t.start s.owner.state.done s.ahead.items s.foreseen.items

-- after turn t came a turn that made `made` moves and judged `ahead` moves ahead
pub record HasTurned (r : Run) (t : LastTurn) (s : Pipeline) (made ahead : ℕ) (now : Pipeline) : Type 0 where
  pub behind : IsAfter r (record { start = stands r t; made = made; ahead = ahead }) now
  pub further : IsFurther r s.owner.state made now.owner.state
  pub redone : now.owner.redone ≡ s.owner.redone + count_by (is_redone_behind r t) (range_with_len (stands r t).done made)

-- a turn of at most `batch` moves, whatever turn led to it. It made its moves and judged the next batch; or it was cut short because memory
-- ran out, and nothing is judged ahead. Memory runs out only if moves were left
pub record TurnsOn {A : Type 0} (r : Run) (batch : ℕ) (s now : Pipeline) (answer : Result A AllocError) : Type 0 where
  pub within : (s.owner.state.done ≤ now.owner.state.done) × (now.owner.state.done ≤ s.owner.state.done + min batch (moves_left r (standing_of s.owner.state)))
  pub ok : OnOk answer ((t : LastTurn) → IsAfter r t s → HasTurned r t s (next_turn r batch t).made (next_turn r batch t).ahead now)
  pub err : OnErr answer ((t : LastTurn) → IsAfter r t s → HasTurned r t s (now.owner.state.done - s.owner.state.done) 0 now)
  pub some : OnErr answer (0 < moves_left r (standing_of s.owner.state))

-- some turn led here
abbrev pub HasTurn : Run → Pipeline → Type 0
HasTurn r s = (t : LastTurn) × IsAfter r t s

-- what is kept between turns, as a world: both placements are at the same standing, and nothing is claimed
abbrev pub world_in : Pipeline → World
world_in s =
    record {
      live = standing_of s.owner.state;
      older = standing_of s.owner.state;
      claims = [];
      verdicts = map (verdict_of s.base) s.ahead.items;
      accepted = s.owner.swaps.items;
    }
