-- Runs that keep the numbers of the moves that they accept, and runs that only count them (our own).
use Rattle.std.specs.Prelude.{ℕ, ◌≡◌, Bool, if◌then◌else◌, List, Some, None, length}
use Rattle.fab_commit.specs.Run.Noted.{noted}
use Rattle.fab_run.specs.Ends.{Answer}
use Rattle.fab_run.specs.declared.run_answer.Ended.{Ended}
use Rattle.fab_run.specs.declared.inputs.CountedOutcome.{CountedOutcome}

-- the answer of a run that only counts, with these numbers of accepted moves
abbrev pub answer_by_count : CountedOutcome → List ℕ → Answer
answer_by_count o numbers = record { ending = o.ending; placement = o.placement; accepted = numbers; costs = o.costs.items }

-- there are numbers of accepted moves, one for each move that this run counts; with them, the answer is of this kind
abbrev pub Counts : CountedOutcome → (Answer → Type 0) → Type 0
Counts o Is = (numbers : List ℕ) × (o.accepted ≡ length numbers) × Is (answer_by_count o numbers)

-- what a piece answers, with these numbers of accepted moves
abbrev pub answer_with : Ended → List ℕ → Answer
answer_with o numbers = record { ending = o.ending; placement = o.placement; accepted = numbers; costs = o.costs.items }

-- these are the numbers of the accepted moves: they are counted, and they are there if they are kept
pub record TellsMoves (keeps : Bool) (numbers : List ℕ) (o : Ended) : Type 0 where
  pub count : o.accepted ≡ length numbers
  pub kept : noted o.numbers ≡ (if keeps then Some numbers else None)

-- with the numbers of its accepted moves, the answer is of this kind
abbrev pub Answers : Bool → Ended → (Answer → Type 0) → Type 0
Answers keeps o Is = (numbers : List ℕ) × TellsMoves keeps numbers o × Is (answer_with o numbers)
