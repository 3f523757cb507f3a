-- What annealing shows on a dial (our own): how far a run has come, once for each turn that succeeds and made moves.
use Rattle.std.specs.Prelude.{ℕ, ◌≡◌, zero, suc, ◌+◌, ◌<◌, ◌≤◌, ◌==◌, Bool, List, [], ◌∷◌, ◌++◌, map, Result, OnOk, OnErr, refl}
use Rattle.std.specs.List.{filter, range_with_len}
use Rattle.std.specs.declared.alloc.AllocError.{AllocError}
use Rattle.fab_cost.specs.Cost.{cost_of}
use Rattle.fab_dial.specs.declared.readings.Reading.{Reading}
use Rattle.fab_commit.specs.declared.run.turn.Turn.{Turn}
use Rattle.fab_commit.specs.Serial.{Run, Standing, from}
use Rattle.fab_commit.specs.Run.Commits.{AnnealOf, run_of}
use Rattle.fab_commit.specs.Model.Turns.{cut_of}

-- how far a run has come: its moves, how many of them were accepted, and the cost, computed from the positions alone
abbrev pub reading_at : Run → Standing → Reading
reading_at r x = record { moves = x.done; accepted = x.total; cost = cost_of r.problem.design r.problem.grid x.sites }

-- what a turn from `a` to `b` shows: where it led, if it made moves; nothing if memory ran out or no move was left
pub record IsShown {W : Type 0} (moves : W → ℕ → List ℕ) (a b : AnnealOf W) (answer : Result Turn AllocError) (old new : List Reading) : Type 0 where
  pub one : OnOk answer (a.standing.done < b.standing.done → new ≡ old ++ reading_at (run_of moves a) b.standing ∷ [])
  pub none : OnOk answer (b.standing.done ≤ a.standing.done → new ≡ old)
  pub short : OnErr answer (new ≡ old)

-- whether a cut lies n moves after `start`: there a turn of this batch begins
abbrev pub begins : ℕ → ℕ → ℕ → ℕ → Bool
begins moves start batch n = cut_of moves start batch (start + n) == start + n

-- after how many of n moves something is shown: where each turn but the first begins, and where the last one ends
abbrev pub shown_after : ℕ → ℕ → ℕ → ℕ → List ℕ
shown_after moves start batch zero = []
shown_after moves start batch (suc n) = filter (begins moves start batch) (range_with_len 1 n) ++ suc n ∷ []

-- what is shown of the next n moves of a run by turns of one batch, the oldest first
abbrev pub readings : Run → Standing → ℕ → ℕ → List Reading
readings r x batch n = map (λ k. reading_at r (from r x k)) (shown_after r.plan.moves x.done batch n)

-- a cut lies n moves after `start`
abbrev pub IsCutAfter : ℕ → ℕ → ℕ → ℕ → Type 0
IsCutAfter moves start batch n = cut_of moves start batch (start + n) ≡ start + n

-- turns of this batch led from x to y, where the next one would begin; what is shown now is what was shown before, and then
-- their readings
pub record HasShown (r : Run) (batch : ℕ) (x : Standing) (before : List Reading) (y : Standing) (now : List Reading) : Type 0 where
  pub count : ℕ
  pub done : y.done ≡ x.done + count
  pub stands : y ≡ from r x count
  pub end : IsCutAfter r.plan.moves x.done batch count
  pub shown : now ≡ before ++ readings r x batch count

-- ten moves a stage, and a batch of four: the second stage begins after the tenth move
pub shown_from_the_start : shown_after 10 0 4 15 ≡ 4 ∷ 8 ∷ 10 ∷ 14 ∷ 15 ∷ []
shown_from_the_start = refl

-- the last turn ends where the next would begin
pub shown_at_an_end : shown_after 10 0 4 14 ≡ 4 ∷ 8 ∷ 10 ∷ 14 ∷ []
shown_at_an_end = refl

-- a run that goes on within a stage counts from there
pub shown_from_within : shown_after 10 3 4 9 ≡ 4 ∷ 7 ∷ 9 ∷ []
shown_from_within = refl

-- a batch that is larger than a stage
pub shown_of_whole_stages : shown_after 3 2 7 4 ≡ 1 ∷ 4 ∷ []
shown_of_whole_stages = refl

-- five stages of three moves, a batch of three
pub shown_of_five_stages : shown_after 3 0 3 15 ≡ 3 ∷ 6 ∷ 9 ∷ 12 ∷ 15 ∷ []
shown_of_five_stages = refl

-- no move, no reading
pub nothing_shown : shown_after 10 3 4 0 ≡ []
nothing_shown = refl
