-- The texts and the requested numbers alone determine what is placed (our own): batch and workers play no part.
use Rattle.std.specs.Prelude.{ℕ, ◌≡◌, List, [], Option, Some}
use Rattle.fab_dial.specs.declared.readings.Reading.{Reading}
use Rattle.fab_run.specs.declared.inputs.Ending.{Ending}
use Rattle.fab_run.specs.declared.inputs.Ending.TheVariants.{Finished, Stopped}
use Rattle.fab_run.specs.declared.inputs.Options.{Options}
use Rattle.fab_run.specs.Ends.{Answer, AreRedone, Piece}
use Rattle.fab_run.specs.Placed.{AskFor, AskToGoOn, IsPlaced}
use Rattle.fab_run.specs.PointMeaning.{IsSamePoint}
use Rattle.fab_run.specs.Setting.{Texts}
use Rattle.fab_run.specs.Shown.{HaveShown}

-- a call of a run: what it answers, and the bytes of its report and its place text
pub record Call : Type 0 where
  pub answer : Answer
  pub report : List ℕ
  pub place : List ℕ

-- the requested piece has this call, if its outputs were empty before
abbrev pub IsCalled : (Piece → Type 0) → Texts → Call → Type 0
IsCalled Asked t c = IsPlaced Asked t c.answer (Some []) (Some c.report) (Some []) (Some c.place)

-- both are finished, or both stopped at one point
abbrev pub EndAlike : Ending → Ending → Type 0
EndAlike Finished Finished = Unit {0}
EndAlike (Stopped p) (Stopped q) = IsSamePoint p q
EndAlike _ _ = ⊥

-- two calls answered the same and wrote the same
pub record AreTheSame (a b : Call) : Type 0 where
  pub ending : EndAlike a.answer.ending b.answer.ending
  pub placement : a.answer.placement ≡ b.answer.placement
  pub accepted : a.answer.accepted ≡ b.answer.accepted
  pub costs : a.answer.costs ≡ b.answer.costs
  pub report : a.report ≡ b.report
  pub place : a.place ≡ b.place

-- the two ask for the same, whatever their batches and numbers of workers
pub record AsksTheSame (o p : Options) : Type 0 where
  pub seed : o.seed ≡ p.seed
  pub size : o.size ≡ p.size
  pub init_t : o.init_t ≡ p.init_t
  pub exit_t : o.exit_t ≡ p.exit_t
  pub cooling : o.cooling ≡ p.cooling
  pub moves : o.moves ≡ p.moves
  pub stop : o.stop ≡ p.stop

-- runs of the same texts that ask for the same answer the same
abbrev pub AnswersAreTold : Type 0
AnswersAreTold = (t : Texts) (o p : Options) (a b : Call) → AsksTheSame o p → IsCalled (AskFor t o) t a → IsCalled (AskFor t p) t b → AreTheSame a b

-- so do runs that go on from one checkpoint text to one stop
abbrev pub ResumedAreTold : Type 0
ResumedAreTold =
    (t : Texts) (point : List ℕ) (batch workers other_batch other_workers : ℕ) (stop : Option ℕ) (a b : Call) → IsCalled (AskToGoOn t point batch workers stop) t a → IsCalled (AskToGoOn t point other_batch other_workers stop) t b
    → AreTheSame a b

-- runs that ask for the same with the same batch redo the same number of moves, whatever their numbers of workers
abbrev pub RedoneIsTold : Type 0
RedoneIsTold = (t : Texts) (o p : Options) (a b : Piece) (m n : ℕ) → AsksTheSame o p → o.batch ≡ p.batch → AskFor t o a → AskFor t p b → AreRedone a o.batch m → AreRedone b p.batch n → m ≡ n

-- so do runs that go on from one checkpoint text to one stop
abbrev pub ResumedRedoneIsTold : Type 0
ResumedRedoneIsTold =
    (t : Texts) (point : List ℕ) (batch workers other_workers : ℕ) (stop : Option ℕ) (a b : Piece) (m n : ℕ) → AskToGoOn t point batch workers stop a → AskToGoOn t point batch other_workers stop b → AreRedone a batch m → AreRedone b batch n
    → m ≡ n

-- and they show the same readings
abbrev pub ShownIsTold : Type 0
ShownIsTold =
    (t : Texts) (o p : Options) (old a b : List Reading) → AsksTheSame o p → o.batch ≡ p.batch → HaveShown (AskFor t o) o.batch old a → HaveShown (AskFor t p) p.batch old b → a ≡ b
