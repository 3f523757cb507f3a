-- What a turn returns, and the annealer after it (our own).
use Rattle.std.specs.Prelude.{ℕ, ◌≡◌, ◌+◌, ◌-◌, ◌≤◌, ◌++◌, List, [], map, min, take, None, Result, Ok, IfOk, OnOk, OnErr}
use Rattle.std.specs.List.{count_by, range_with_len}
use Rattle.std.specs.declared.alloc.AllocError.{AllocError}
use Rattle.fab_commit.specs.Serial.{accepted_among, from, moves_left}
use Rattle.fab_commit.specs.Run.Commits.{AnnealOf, IsSameRun, run_of, turn_of, world_of}
use Rattle.fab_commit.specs.Run.ByTurns.{LeadsByTurns}
use Rattle.fab_commit.specs.declared.run.turn.Turn.{Turn}
use Rattle.fab_commit.specs.declared.run.turn.Turn.TheVariants.{Finished}
use Rattle.fab_commit.specs.Model.TurnEvents.{turn, turn_events, turn_making, verdict_on}
use Rattle.fab_commit.specs.Model.World.{is_redone_way, ways}

-- a turn of at most `batch` moves led an annealer from `a` to `b`, and returned `answer`
pub record IsTurned {W : Type 0} (moves : W → ℕ → List ℕ) (batch : ℕ) (a b : AnnealOf W) (answer : Result Turn AllocError) : Type 0 where
  -- What the run is given stays the same.
  pub same : IsSameRun a b
  -- The moves of the turn are made as if one at a time.
  pub stands : b.standing ≡ from (run_of moves a) a.standing (b.standing.done - a.standing.done)
  pub accepted : b.accepted ≡ a.accepted ++ accepted_among (run_of moves a) a.standing (b.standing.done - a.standing.done)
  pub ok : OnOk answer (b.standing.done ≡ a.standing.done + min batch (moves_left (run_of moves a) a.standing))
  pub within : (a.standing.done ≤ b.standing.done) × (b.standing.done ≤ a.standing.done + min batch (moves_left (run_of moves a) a.standing))
  pub told : IfOk answer (λ t. t ≡ turn_of b.standing.heat)
  -- If no move is left, there is no error. Nothing changes, except that this turn is now the last one, and it accepted no swap. Nothing was
  -- judged ahead.
  pub finished : a.standing.heat ≡ None → (answer ≡ Ok Finished) × (a.ahead ≡ []) × (b ≡ record a { swaps = [] })
  -- It is a turn of a world; if memory ran out, a turn that judges nothing ahead.
  pub world : OnOk answer (world_of b ≡ turn (run_of moves a) batch (world_of a))
  pub cut : OnErr answer (world_of b ≡ turn_making (run_of moves a) (b.standing.done - a.standing.done) 0 (world_of a))
  -- The count of redone moves grows by those of the moves made that these events redo.
  pub redone : b.redone ≡ a.redone + count_by is_redone_way (take (b.standing.done - a.standing.done) (ways (run_of moves a) (world_of a) (turn_events (run_of moves a) batch (world_of a))))
  -- The verdicts after it are for the next moves of the stage, a batch of them or all that are left, on the placement at the turn's
  -- start; if memory ran out, there are none.
  pub ahead : OnOk answer (b.ahead ≡ map (verdict_on (run_of moves a) a.standing) (range_with_len b.standing.done (min batch (moves_left (run_of moves a) a.standing - min batch (moves_left (run_of moves a) a.standing)))))
  pub lost : OnErr answer (b.ahead ≡ [])
  -- If turns of this batch led to `a` from some standing, this is one more of them.
  pub turns : OnOk answer (LeadsByTurns (run_of moves a) batch a b)
