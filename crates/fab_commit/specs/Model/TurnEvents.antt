-- Turns (our own): a turn commits a batch of the running stage in order of number, while the next batch of the stage is
-- judged on the placement at the turn's start.
use Rattle.std.specs.Prelude.{ℕ, ◌≡◌, ◌≤◌, zero, suc, ◌+◌, ◌-◌, min, Bool, if◌then◌else◌, nat_le, nat_lt, List, [], ◌∷◌, ◌++◌, map, length, refl}
use Rattle.std.specs.List.{filter, range_with_len}
use Rattle.fab_commit.specs.declared.model.events.Event.{Event}
use Rattle.fab_commit.specs.declared.model.events.Event.TheVariants.{Claim, Judge, Lose, Commit, Refresh}
use Rattle.fab_commit.specs.declared.run.swaps.Accepted.{Accepted}
use Rattle.fab_commit.specs.declared.model.judged.JudgedMove.{JudgedMove}
use Rattle.fab_commit.specs.Serial.{Run, Standing, judged_here, moves_left, from}
use Rattle.fab_commit.specs.Model.World.{World, run_through}
use Rattle.fab_commit.specs.Model.History.{accepted_from, is_redone}

-- n moves from k on are claimed and judged, each by the worker of its own number
abbrev pub judge_each : ℕ → ℕ → List Event
judge_each k zero = []
judge_each k (suc n) = Claim k ∷ Judge k ∷ judge_each (k + 1) n

-- the verdicts of n moves from k on are lost, the last one first
abbrev pub lose_each : ℕ → ℕ → List Event
lose_each k zero = []
lose_each k (suc n) = Lose (k + n) ∷ lose_each k n

abbrev pub commit_each : ℕ → List Event
commit_each zero = []
commit_each (suc n) = Commit ∷ commit_each n

-- a turn of `made` moves from k on, with `judged` moves judged before it, that judges the `ahead` moves after its own
abbrev pub events_from : ℕ → ℕ → ℕ → ℕ → List Event
events_from k judged made ahead =
    lose_each (k + made) (judged - made)
    ++ (judge_each (k + min judged made) (made - judged)
    ++ (judge_each (k + made) ahead
    ++ (commit_each made
    ++ Refresh ∷ [])))

-- the events of a turn that makes a batch of moves, or all that are left in the stage, and judges another batch, or all left then
abbrev pub turn_events : Run → ℕ → World → List Event
turn_events r batch w =
    let left = moves_left r w.live in
    let made = min batch left in
    events_from w.live.done (length w.verdicts) made (min batch (left - made))

-- swaps accepted before move n are forgotten
abbrev pub forget : ℕ → World → World
forget n w = record w { accepted = filter (λ (a : Accepted). nat_le n a.number) w.accepted }

-- the events of a turn happen, and the swaps accepted before it are forgotten
abbrev pub turn : Run → ℕ → World → World
turn r batch w = forget w.live.done (run_through r w (turn_events r batch w))

-- a turn of `made` moves that judges the `ahead` moves after them, whatever batch was asked for
abbrev pub turn_making : Run → ℕ → ℕ → World → World
turn_making r made ahead w =
    forget w.live.done (run_through r w (events_from w.live.done (length w.verdicts) made ahead))

-- what the last turn was: where it began, how many moves it made, and how many moves after them it judged
pub record LastTurn : Type 0 where
  pub start : Standing
  pub made : ℕ
  pub ahead : ℕ

-- before the first turn
abbrev pub no_turn : Standing → LastTurn
no_turn x = record { start = x; made = 0; ahead = 0 }

-- where the turn led
abbrev pub stands : Run → LastTurn → Standing
stands r t = from r t.start t.made

-- all its moves, and those that it judged ahead, are of one stage
abbrev pub IsOfAStage : Run → LastTurn → Type 0
IsOfAStage r t = t.made + t.ahead ≤ moves_left r t.start

-- the verdict for move k on a placement, by the worker of that number
abbrev pub verdict_on : Run → Standing → ℕ → JudgedMove
verdict_on r x k = record { worker = k; number = k; base = x.done; judged = judged_here r x k }

-- the world after a turn: the live and the older placement are both the one that moves made one at a time lead to; there is no claim;
-- each move that was judged ahead has its verdict on the placement at the turn's start; and there are the swaps that the turn accepted
abbrev pub world_behind : Run → LastTurn → World
world_behind r t =
    record {
      live = stands r t;
      older = stands r t;
      claims = [];
      verdicts = map (verdict_on r t.start) (range_with_len (stands r t).done t.ahead);
      accepted = accepted_from r t.start t.made;
    }

-- the turn of a batch after this one
abbrev pub next_turn : Run → ℕ → LastTurn → LastTurn
next_turn r batch t =
    let left = moves_left r (stands r t) in
    let made = min batch left in
    record { start = stands r t; made = made; ahead = min batch (left - made) }

-- a turn after this one that was cut short after `made` moves
abbrev pub cut_turn : Run → ℕ → LastTurn → LastTurn
cut_turn r made t = record { start = stands r t; made = made; ahead = 0 }

-- the placement that a move of the next turn is first judged on, as the number of moves made there: this turn's start if the move was
-- judged ahead, otherwise where this turn led
abbrev pub base_behind : Run → LastTurn → ℕ → ℕ
base_behind r t k = if nat_lt k ((stands r t).done + t.ahead) then t.start.done else (stands r t).done

-- move k of the next turn is redone
abbrev pub is_redone_behind : Run → LastTurn → ℕ → Bool
is_redone_behind r t k = is_redone r t.start (base_behind r t k) k

-- two moves from number 4 on, nothing judged before, and then one more of the stage
pub a_first_turn : events_from 4 0 2 1 ≡ Claim 4 ∷ Judge 4 ∷ Claim 5 ∷ Judge 5 ∷ Claim 6 ∷ Judge 6 ∷ Commit ∷ Commit ∷ Refresh ∷ []
a_first_turn = refl

-- moves 4, 5 and 6 were judged, but the batch is one move: 5 and 6 are lost, and 5, the next batch, is judged anew
pub a_smaller_batch : events_from 4 3 1 1 ≡ Lose 6 ∷ Lose 5 ∷ Claim 5 ∷ Judge 5 ∷ Commit ∷ Refresh ∷ []
a_smaller_batch = refl

-- move 4 was judged, the batch is two moves, and then none is left in the stage
pub a_larger_batch : events_from 4 1 2 0 ≡ Claim 5 ∷ Judge 5 ∷ Commit ∷ Commit ∷ Refresh ∷ []
a_larger_batch = refl
