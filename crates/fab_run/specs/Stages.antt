-- How the stages of a piece of a run are made and reported (our own).
use Rattle.std.specs.Prelude.{ℕ, ◌≡◌, ◌+◌, ◌-◌, ◌++◌, Bool, true, List, [], Option, take, Result, OnOk, OnErr}
use Rattle.std.specs.declared.alloc.AllocError.{AllocError}
use Rattle.std.specs.Io.KnownBytes.{Appends}
use Rattle.fab_file.specs.Written.{IsCut}
use Rattle.fab_dial.specs.declared.readings.Reading.{Reading}
use Rattle.fab_commit.specs.Serial.{Run, Standing, accepted_among, from, moves_left}
use Rattle.fab_commit.specs.Run.ByTurns.{IsByTurns, LeadsByTurns}
use Rattle.fab_commit.specs.Run.Commits.{AnnealOf, IsSameRun, run_of}
use Rattle.fab_commit.specs.Model.Turns.{redone_in_run}
use Rattle.fab_run.specs.declared.fault.RunFault.{RunFault}
use Rattle.fab_run.specs.declared.fault.RunFault.TheVariants.{Report}
use Rattle.fab_run.specs.Ends.{IsPiece, IsWithin}
use Rattle.fab_run.specs.Piece.{stage_costs, stage_lines}
use Rattle.fab_run.specs.Shown.{EndsShown, LeadsShown, LeadsShownWithin}

-- no move is accepted or redone yet, and nothing is judged ahead
pub record IsNew {W : Type 0} (a : AnnealOf W) : Type 0 where
  pub ahead : a.ahead ≡ []
  pub swaps : a.swaps ≡ []
  pub accepted : a.accepted ≡ []
  pub redone : a.redone ≡ 0

-- if turns of this batch led from a standing to a, then the batch determines how many moves were redone between that standing and b, even
-- if the last turn is shorter
pub record AreCountedOn {W : Type 0} (r : Run) (batch : ℕ) (a b : AnnealOf W) : Type 0 where
  pub on : (x : Standing) → IsByTurns r x batch a → b.redone ≡ redone_in_run r x batch (b.standing.done - x.done)

-- an annealer made the moves of a piece, in turns of this batch. The costs at the ends of the stages were appended, and the line of each
-- stage was written. `again` says whether redone moves are counted
pub record AreMade {W : Type 0} (moves : W → ℕ → List ℕ) (again : Bool) (stop : Option ℕ) (batch : ℕ) (a b : AnnealOf W) (costs0 costs1 : List ℕ) (old new : Option (List ℕ)) : Type 0 where
  pub count : ℕ
  pub done : b.standing.done ≡ a.standing.done + count
  pub piece : IsPiece (run_of moves a) a.standing stop count
  pub stands : b.standing ≡ from (run_of moves a) a.standing count
  pub accepted : b.accepted ≡ a.accepted ++ accepted_among (run_of moves a) a.standing count
  pub costs : costs1 ≡ costs0 ++ stage_costs (run_of moves a) a.standing count
  pub told : Appends old new (stage_lines (run_of moves a) a.standing count)
  pub counted : again ≡ true → AreCountedOn (run_of moves a) batch a b

-- a beginning of the lines of some moves up to the stop was written; if the writer of the report failed, not all of them were
pub record AreCut (r : Run) (x : Standing) (stop : Option ℕ) (old new : Option (List ℕ)) (e : RunFault) : Type 0 where
  pub begun : (n : ℕ) × (k : ℕ) × IsWithin r x stop n × Appends old new (take k (stage_lines r x n))
  pub short : e ≡ Report → (n : ℕ) × IsWithin r x stop n × IsCut (stage_lines r x n) old new

-- `count` moves of its stage led an annealer from a to b, in turns of this batch, of which the last may be shorter, and each turn was shown.
-- Or memory ran out after some turns. `again` says whether redone moves are counted
pub record LeadsOn {W A : Type 0} (moves : W → ℕ → List ℕ) (again : Bool) (batch count : ℕ) (a b : AnnealOf W) (answer : Result A AllocError) (old new : List Reading) : Type 0 where
  pub same : IsSameRun a b
  pub done : OnOk answer (b.standing.done ≡ a.standing.done + count)
  pub stands : OnOk answer (b.standing ≡ from (run_of moves a) a.standing count)
  pub accepted : OnOk answer (b.accepted ≡ a.accepted ++ accepted_among (run_of moves a) a.standing count)
  pub counted : OnOk answer (again ≡ true → AreCountedOn (run_of moves a) batch a b)
  pub ends : OnOk answer (EndsShown (run_of moves a) batch a.standing b.standing old new)
  -- If the stage ends with them, they are whole turns.
  pub turns : OnOk answer (again ≡ true → count ≡ moves_left (run_of moves a) a.standing → LeadsByTurns (run_of moves a) batch a b)
  pub shown : OnOk answer (count ≡ moves_left (run_of moves a) a.standing → LeadsShown (run_of moves a) batch a.standing b.standing old new)
  pub shown_cut : OnErr answer (LeadsShownWithin (run_of moves a) batch a.standing count old new)
