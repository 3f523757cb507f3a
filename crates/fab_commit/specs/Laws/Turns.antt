-- Laws of turns (our own).
use Rattle.std.specs.Prelude.{ℕ, ◌≡◌, ◌+◌, ◌-◌, ◌<◌, ◌≤◌, Bool, if◌then◌else◌, List, [], ◌∷◌, ◌++◌, map}
use Rattle.std.specs.List.{range_with_len}
use Rattle.fab_commit.specs.declared.model.events.Way.{Way}
use Rattle.fab_commit.specs.declared.model.events.Way.TheVariants.{Taken, Redone}
use Rattle.fab_commit.specs.declared.model.events.Event.TheVariants.{Refresh}
use Rattle.fab_commit.specs.Serial.{Run, Standing, judged_here, from, moves_left}
use Rattle.fab_commit.specs.Model.World.{world, run_through, ways}
use Rattle.fab_commit.specs.Model.History.{accepted_from, is_redone}
use Rattle.fab_commit.specs.Model.Stamps.{is_stamped}
use Rattle.fab_commit.specs.Model.TurnEvents.{LastTurn, IsOfAStage, commit_each, cut_turn, is_redone_behind, judge_each, next_turn, no_turn, stands, turn, turn_events, turn_making, world_behind}
use Rattle.fab_commit.specs.Model.Turns.{last_turn, turns}

-- events lead from a world where nothing is claimed or judged to the world after a turn. So each law of the world's events applies to the
-- world after a turn
abbrev pub TurnsAreReached : Type 0
TurnsAreReached =
    (r : Run) (t : LastTurn) → 0 < r.plan.moves → IsOfAStage r t
    → world_behind r t ≡ run_through r (world t.start) (judge_each t.start.done (t.made + t.ahead) ++ (commit_each t.made ++ Refresh ∷ []))

-- the events of a turn lead from the world after one turn to the world after the next, whatever its batch
abbrev pub TurnsLeadOn : Type 0
TurnsLeadOn =
    (r : Run) (t : LastTurn) (batch : ℕ) → 0 < r.plan.moves → IsOfAStage r t
    → (turn r batch (world_behind r t) ≡ world_behind r (next_turn r batch t)) × IsOfAStage r (next_turn r batch t)

-- a turn that is cut short does the same, and leaves nothing judged ahead: another turn can go on after it
abbrev pub CutTurnsLeadOn : Type 0
CutTurnsLeadOn =
    (r : Run) (t : LastTurn) (made : ℕ) → 0 < r.plan.moves → IsOfAStage r t → made ≤ moves_left r (stands r t)
    → (turn_making r made 0 (world_behind r t) ≡ world_behind r (cut_turn r made t)) × IsOfAStage r (cut_turn r made t)

-- turns of any batches lead to the standing of moves made one at a time, and only the verdicts of the last turn are left
abbrev pub EveryBatchIsSerial : Type 0
EveryBatchIsSerial =
    (r : Run) (x : Standing) (batches : List ℕ) → 0 < r.plan.moves →
    let now = turns r (world x) batches in
    (now.live ≡ from r x (now.live.done - x.done)) × (now ≡ world_behind r (last_turn r (no_turn x) batches))

-- how a move got its answer, by whether it is redone
abbrev pub way_if : Bool → Way
way_if redone = if redone then Redone else Taken

-- no move of a turn is late; moves made one at a time and their bases determine which moves are redone
abbrev pub WaysOfTurns : Type 0
WaysOfTurns =
    (r : Run) (t : LastTurn) (batch : ℕ) → 0 < r.plan.moves → IsOfAStage r t
    → ways r (world_behind r t) (turn_events r batch (world_behind r t))
    ≡ map (λ k. way_if (is_redone_behind r t k)) (range_with_len (stands r t).done (next_turn r batch t).made)

-- a move is redone exactly if the stamp of a mark of its footprint is above its base
abbrev pub RedoneByStamps : Type 0
RedoneByStamps =
    (r : Run) (x : Standing) (base k : ℕ)
    → is_redone r x base k ≡ is_stamped r.problem.design (accepted_from r x (k - x.done)) base (judged_here r (from r x (base - x.done)) k).footprint
