-- How many moves turns redo: what is true of one turn, and of several in a row (our own).
use Rattle.std.specs.Prelude.{ℕ, ◌≡◌, ◌-◌, ◌<◌, ◌≤◌, List, [], ◌∷◌, ◌++◌, replicate, take, refl}
use Rattle.std.specs.List.{count_by, range_with_len}
use Rattle.fab_commit.specs.declared.model.events.Way.{Way}
use Rattle.fab_commit.specs.declared.model.events.Way.TheVariants.{Taken, Redone, Late}
use Rattle.fab_commit.specs.Serial.{Run, Standing}
use Rattle.fab_commit.specs.Model.World.{World, is_redone_way, world, ways}
use Rattle.fab_commit.specs.Model.TurnEvents.{LastTurn, IsOfAStage, is_redone_behind, next_turn, no_turn, stands, turn, turn_events, world_behind}
use Rattle.fab_commit.specs.Model.Turns.{last_turn, redone, redone_in_run, redone_next}

-- the ways of the moves that turns of these batches commit, in order
abbrev pub ways_of_turns : Run → World → List ℕ → List Way
ways_of_turns r w [] = []
ways_of_turns r w (batch ∷ batches) = ways r w (turn_events r batch w) ++ ways_of_turns r (turn r batch w) batches

-- moves made one at a time and their bases determine how many of the first m moves of a turn are redone
abbrev pub WaysOfABeginning : Type 0
WaysOfABeginning =
    (r : Run) (t : LastTurn) (batch m : ℕ) → 0 < r.plan.moves → IsOfAStage r t → m ≤ (next_turn r batch t).made
    → count_by is_redone_way (take m (ways r (world_behind r t) (turn_events r batch (world_behind r t))))
    ≡ count_by (is_redone_behind r t) (range_with_len (stands r t).done m)

-- the same for all moves of a turn
abbrev pub WaysOfATurn : Type 0
WaysOfATurn =
    (r : Run) (t : LastTurn) (batch : ℕ) → 0 < r.plan.moves → IsOfAStage r t
    → count_by is_redone_way (ways r (world_behind r t) (turn_events r batch (world_behind r t))) ≡ redone_next r batch t

-- the same for all moves of turns of any batches
abbrev pub WaysOfRuns : Type 0
WaysOfRuns =
    (r : Run) (x : Standing) (batches : List ℕ) → 0 < r.plan.moves
    → count_by is_redone_way (ways_of_turns r (world x) batches) ≡ redone r (no_turn x) batches

-- with one batch, a move's base follows from its number; the bases determine how many moves are redone
abbrev pub RedoneInRuns : Type 0
RedoneInRuns =
    (r : Run) (x : Standing) (batch n : ℕ) → 0 < r.plan.moves →
    let t = last_turn r (no_turn x) (replicate n batch) in
    redone r (no_turn x) (replicate n batch) ≡ redone_in_run r x batch ((stands r t).done - x.done)

-- one of three ways
pub one_is_redone : count_by is_redone_way (Taken ∷ Redone ∷ Late ∷ []) ≡ 1
one_is_redone = refl
