-- Moves of a stage that an owner makes by turns, with a crew or without, as contracts see them (our own). The count of redone moves is that
-- of the turns of the batch in both cases.
use Rattle.std.specs.Prelude.{ℕ, ◌≡◌, true, false, zero, suc, ◌+◌, ◌-◌, ◌<◌, ◌≤◌, nat_lt, Bool, List, [], ◌∷◌, ◌++◌, length, replicate, Result, MatchResult, OnOk, OnErr}
use Rattle.std.specs.List.{count_by, list_any, range_with_len}
use Rattle.std.specs.declared.alloc.AllocError.{AllocError}
use Rattle.fab_dial.specs.declared.readings.Reading.{Reading}
use Rattle.fab_commit.specs.declared.run.alone.OnBase.{OnBase}
use Rattle.fab_commit.specs.declared.run.owner.Owner.{Owner}
use Rattle.fab_commit.specs.declared.run.state.State.{State}
use Rattle.fab_commit.specs.Serial.{Run, Standing, accepted_among, from, judged_here, moves_left}
use Rattle.fab_commit.specs.Run.ByTurns.{IsByTurns, LeadsByTurns}
use Rattle.fab_commit.specs.Run.Further.{IsFurther}
use Rattle.fab_commit.specs.Run.Commits.{AnnealOf, IsSameRun, run_of, standing_of, world_of}
use Rattle.fab_commit.specs.declared.run.pipeline.Pipeline.{Pipeline}
use Rattle.fab_commit.specs.Run.Pipelines.{HasTurn, IsAtTurn}
use Rattle.fab_commit.specs.Run.Readings.{HasShown, readings}
use Rattle.fab_move.specs.StampTables.{kept_stamp}
use Rattle.fab_commit.specs.Model.TurnEvents.{LastTurn, cut_turn, is_redone_behind, next_turn, no_turn, stands, turn, turn_events, turn_making, world_behind}
use Rattle.fab_commit.specs.Model.Turns.{last_turn, redone, redone_in_run, redone_next, turns}
use Rattle.fab_commit.specs.Model.World.{World, is_redone_way, ways}

-- move `base` or a later one touched the footprint of the next move, judged on the live placement
abbrev pub is_touched_here : Run → Owner → ℕ → Bool
is_touched_here r o base =
    list_any (λ m. nat_lt base (kept_stamp r.problem.grid o.stamps m)) (judged_here r (standing_of o.state) o.state.done).footprint

-- after turn t came a turn that made `made` moves, after which `ahead` moves count as judged ahead
pub record HasGone (r : Run) (t : LastTurn) (o : Owner) (made ahead : ℕ) (now : Owner) (due : OnBase) : Type 0 where
  pub at_turn : IsAtTurn r (record { start = stands r t; made = made; ahead = ahead }) now due
  pub further : IsFurther r o.state made now.state
  pub redone : now.redone ≡ o.redone + count_by (is_redone_behind r t) (range_with_len (stands r t).done made)

-- whatever turn came before, there came a turn of at most `batch` moves, and the answer is which moves after it count as judged ahead; or
-- memory ran out, and the turn made no move
abbrev pub TurnsOnce : Run → ℕ → Owner → OnBase → Result OnBase AllocError → Owner → Type 0
TurnsOnce r batch o ahead answer now =
    MatchResult answer
    (λ due. (t : LastTurn) → IsAtTurn r t o ahead → HasGone r t o (next_turn r batch t).made (next_turn r batch t).ahead now due)
    (λ _. (t : LastTurn) → IsAtTurn r t o ahead → HasGone r t o 0 0 now (record { base = o.state.done; moves = 0 }))

-- after turn t came `turns` turns of this batch, which made `made` moves
pub record HaveGone (r : Run) (batch : ℕ) (t : LastTurn) (o : Owner) (turns made : ℕ) (now : Owner) (due : OnBase) : Type 0 where
  pub at_turn : IsAtTurn r (last_turn r t (replicate turns batch)) now due
  pub further : IsFurther r o.state made now.state
  pub redone : now.redone ≡ o.redone + redone r t (replicate turns batch)

-- after turn t came `turns` turns of this batch, which made `made` moves, and then one that made none, because memory ran out
pub record HaveStopped (r : Run) (batch : ℕ) (t : LastTurn) (o : Owner) (turns made : ℕ) (now : Owner) (due : OnBase) : Type 0 where
  pub at_turn : IsAtTurn r (cut_turn r 0 (last_turn r t (replicate turns batch))) now due
  pub further : IsFurther r o.state made now.state
  pub redone : now.redone ≡ o.redone + redone r t (replicate turns batch)

-- turns of this batch, and then a shorter one, if it has any moves
abbrev pub with_shorter : ℕ → ℕ → ℕ → List ℕ
with_shorter turns batch zero = replicate turns batch
with_shorter turns batch (suc short) = replicate turns batch ++ suc short ∷ []

-- a turn after which nothing is judged ahead
abbrev pub unjudged : LastTurn → LastTurn
unjudged t = record { start = t.start; made = t.made; ahead = 0 }

-- after turn t, turns of this batch and then a shorter one made `made` moves. If these are all moves that the stage had left, only the end
-- of the stage makes a turn shorter (`short` is 0), and nothing is left to judge ahead
pub record HaveEnded (r : Run) (batch : ℕ) (t : LastTurn) (o : Owner) (made : ℕ) (now : Owner) (due : OnBase) : Type 0 where
  pub turns : ℕ
  pub short : ℕ
  pub few : short ≤ batch
  pub at_turn : IsAtTurn r (unjudged (last_turn r t (with_shorter turns batch short))) now due
  pub whole : made ≡ moves_left r (standing_of o.state) → (short ≡ 0) × ((last_turn r t (replicate turns batch)).ahead ≡ 0)
  pub further : IsFurther r o.state made now.state
  pub last : now.state.done ≡ (stands r (last_turn r t (replicate turns batch))).done + (next_turn r short (last_turn r t (replicate turns batch))).made
  pub redone : now.redone ≡ o.redone + (redone r t (replicate turns batch) + redone_next r short (last_turn r t (replicate turns batch)))

-- turns of this batch that were shown up to x are now shown up to y
abbrev pub LeadsTo : Run → ℕ → Standing → Standing → List Reading → List Reading → Type 0
LeadsTo r batch x y old new = (z : Standing) (before : List Reading) → HasShown r batch z before x old → HasShown r batch z before y new

-- the same, where the last turn may be shorter
abbrev pub EndsAt : Run → ℕ → Standing → Standing → List Reading → List Reading → Type 0
EndsAt r batch x y old new = (z : Standing) (before : List Reading) → HasShown r batch z before x old → new ≡ before ++ readings r z batch (y.done - z.done)

-- a run is some moves of its stage further, at most `count`, which were made in turns of this batch; the last turn may be shorter. Or memory
-- ran out after some turns
pub record AreMade {A : Type 0} (r : Run) (batch count : ℕ) (s now : State) (answer : Result A AllocError) (old new : List Reading) : Type 0 where
  pub made : ℕ
  pub few : made ≤ count
  pub further : IsFurther r s made now
  pub ok : OnOk answer (made ≡ count)
  pub shown : OnOk answer (count ≡ moves_left r (standing_of s) → LeadsTo r batch (standing_of s) (standing_of now) old new)
  pub ends : OnOk answer (EndsAt r batch (standing_of s) (standing_of now) old new)
  pub cut : OnErr answer (LeadsTo r batch (standing_of s) (standing_of now) old new)

-- an owner made `count` moves in turns of this batch whose redone moves are counted, or memory ran out after some turns. In both cases
-- nothing counts as judged ahead
pub record AreCounted {A : Type 0} (r : Run) (batch count : ℕ) (o : Owner) (ahead : OnBase) (now : Owner) (base : ℕ) (answer : Result A AllocError) : Type 0 where
  pub ended : OnOk answer ((t : LastTurn) → IsAtTurn r t o ahead → HaveEnded r batch t o count now (record { base = base; moves = 0 }))
  pub stopped : OnErr answer ((t : LastTurn) → IsAtTurn r t o ahead → (turns : ℕ) × (made : ℕ) × (made ≤ count) × HaveStopped r batch t o turns made now (record { base = base; moves = 0 }))

-- an owner made a turn of `made` moves whose redone moves are not counted, and nothing of what was before it is judged ahead or kept
pub record HasForgotten (r : Run) (o : Owner) (made : ℕ) (now : Owner) (due : OnBase) : Type 0 where
  pub at_turn : IsAtTurn r (no_turn (standing_of now.state)) now due
  pub further : IsFurther r o.state made now.state
  pub redone : now.redone ≡ o.redone

-- moves of the running stage may be made: `count` of them are left, and the batch is lawful
pub record MayFinish (r : Run) (batch count : ℕ) (s : Pipeline) : Type 0 where
  pub behind : HasTurn r s
  pub some : (count ≤ moves_left r (standing_of s.owner.state)) × (0 < moves_left r (standing_of s.owner.state))
  pub batch_is : (1 ≤ batch) × (batch ≤ 4096)

-- they were made in turns of this batch, or memory ran out after some turns; nothing is judged ahead any more. Where redone moves are not
-- counted, their count stays the same
pub record HasFinished {A : Type 0} (counted : Bool) (r : Run) (batch count : ℕ) (s now : Pipeline) (answer : Result A AllocError) (old new : List Reading) : Type 0 where
  pub left : HasTurn r now
  pub none : now.ahead.items ≡ []
  pub made : AreMade r batch count s.owner.state now.owner.state answer old new
  pub told : counted ≡ true → AreCounted r batch count s.owner (record { base = s.base; moves = length s.ahead.items }) now.owner now.base answer
  pub same : counted ≡ false → now.owner.redone ≡ s.owner.redone

-- how many moves the turns of these batches redo in a world
abbrev pub redone_in : Run → World → List ℕ → ℕ
redone_in r w [] = 0
redone_in r w (batch ∷ batches) = count_by is_redone_way (ways r w (turn_events r batch w)) + redone_in r (turn r batch w) batches

-- an annealer made `count` moves of its stage, alone or beside a crew, in turns of this batch, and showed each turn; the last turn may be
-- shorter. Or memory ran out after some turns
pub record IsMade {W A : Type 0} (moves : W → ℕ → List ℕ) (batch count : ℕ) (a b : AnnealOf W) (answer : Result A AllocError) (old new : List Reading) : Type 0 where
  -- What the run is given stays the same.
  pub same : IsSameRun a b
  -- The moves are made as if one at a time.
  pub stands : b.standing ≡ from (run_of moves a) a.standing (b.standing.done - a.standing.done)
  pub accepted : b.accepted ≡ a.accepted ++ accepted_among (run_of moves a) a.standing (b.standing.done - a.standing.done)
  pub ok : OnOk answer (b.standing.done ≡ a.standing.done + count)
  pub within : (a.standing.done ≤ b.standing.done) × (b.standing.done ≤ a.standing.done + count)
  -- Nothing is judged ahead, and the swaps that are kept are those of a last turn.
  pub ahead : b.ahead ≡ []
  pub behind : (t : LastTurn) × (world_of b ≡ world_behind (run_of moves a) t)
  -- Each turn is shown.
  pub shown : OnOk answer (count ≡ moves_left (run_of moves a) a.standing → LeadsTo (run_of moves a) batch a.standing b.standing old new)
  pub ends : OnOk answer (EndsAt (run_of moves a) batch a.standing b.standing old new)
  pub shown_cut : OnErr answer (LeadsTo (run_of moves a) batch a.standing b.standing old new)

-- the moves are also those of turns of a world, and the count of redone moves is that of these turns
pub record IsMadeByTurns {W A : Type 0} (moves : W → ℕ → List ℕ) (batch count : ℕ) (a b : AnnealOf W) (answer : Result A AllocError) (old new : List Reading) : Type 0 where
  pub made : IsMade moves batch count a b answer old new
  -- They are turns of a world, whatever was judged ahead in it; if memory ran out, all are whole, and a turn comes after them that makes no
  -- move.
  pub turns_made : ℕ
  pub short : ℕ
  pub few : short ≤ batch
  pub whole : OnErr answer (short ≡ 0)
  pub world : OnOk answer (world_of b ≡ (let w = turns (run_of moves a) (world_of a) (with_shorter turns_made batch short) in record w { verdicts = [] }))
  pub cut : OnErr answer (world_of b ≡ turn_making (run_of moves a) 0 0 (turns (run_of moves a) (world_of a) (replicate turns_made batch)))
  -- The count of redone moves grows by those that these turns redo.
  pub redone : b.redone ≡ a.redone + redone_in (run_of moves a) (world_of a) (replicate turns_made batch ++ short ∷ [])
  -- If turns of this batch led to `a` from some standing, the turns to the end of the stage are more of them. The moves redone since that
  -- standing are those of one batch, even if the last turn is shorter.
  pub by_turns : OnOk answer (count ≡ moves_left (run_of moves a) a.standing → LeadsByTurns (run_of moves a) batch a b)
  pub counted : OnOk answer ((x : Standing) → IsByTurns (run_of moves a) x batch a → b.redone ≡ redone_in_run (run_of moves a) x batch (b.standing.done - x.done))
