-- The standings that runs lead through, and what watchers of a dial read of them (our own).
use Rattle.std.specs.Prelude.{ℕ, ◌≡◌, ◌⊎◌, List, [], ◌∷◌, Option, All}
use Rattle.fab_dial.specs.declared.readings.Reading.{Reading}
use Rattle.fab_dial.specs.Shown.{StartsWith}
use Rattle.fab_sched.specs.Annealing.{IsLawful}
use Rattle.fab_commit.specs.Laws.Moves.{AreWords}
use Rattle.fab_commit.specs.Serial.{IsStanding, from}
use Rattle.fab_commit.specs.Run.Readings.{reading_at}
use Rattle.fab_run.specs.declared.inputs.Options.{Options}
use Rattle.fab_run.specs.Ends.{Piece}
use Rattle.fab_run.specs.Placed.{AskFor, AskToGoOn}
use Rattle.fab_run.specs.Setting.{Texts}
use Rattle.fab_run.specs.Shown.{AreMadeAll}
use Rattle.fab_run.specs.Watched.{OnlyShowed, Source}

-- the schedule of a run is within its limits, its random words are below 2^32, and it begins at a standing that fits it
pub record IsLawfulSource (s : Source) : Type 0 where
  pub plan : IsLawful s.run.plan
  pub words : AreWords s.run.problem.words
  pub standing : IsStanding s.run s.start

-- where the standings of a piece come from
abbrev pub source_of : Piece → Source
source_of p = record { run = p.run; start = p.start }

-- moves lead only to standings that fit the run
abbrev pub MovesKeepStandings : Type 0
MovesKeepStandings = (s : Source) (n : ℕ) → IsLawfulSource s → IsStanding s.run (from s.run s.start n)

-- texts and numbers that pass the checks of a run ask for a lawful piece
abbrev pub RunsBeginLawfully : Type 0
RunsBeginLawfully = (t : Texts) (o : Options) (p : Piece) → AskFor t o p → IsLawfulSource (source_of p)

-- so do those that pass the checks of a resumed run
abbrev pub ResumedBeginLawfully : Type 0
ResumedBeginLawfully =
    (t : Texts) (point : List ℕ) (batch workers : ℕ) (stop : Option ℕ) (p : Piece) → AskToGoOn t point batch workers stop p → IsLawfulSource (source_of p)

-- the reading is that of the standing after n moves of this source, which are all made; the standing fits the run
pub record IsOfStanding (s : Source) (q : Reading) : Type 0 where
  pub count : ℕ
  pub made : AreMadeAll s.run s.start count
  pub fits : IsStanding s.run (from s.run s.start count)
  pub reading : q ≡ reading_at s.run (from s.run s.start count)

-- the reading is that of a standing of one of these sources
abbrev pub IsOfOneStanding : List Source → Reading → Type 0
IsOfOneStanding [] q = ⊥
IsOfOneStanding (s ∷ sources) q = IsOfStanding s q ⊎ IsOfOneStanding sources q

-- a watcher of a dial on which only lawful sources showed read the dial's first reading, and readings of standings that fit their runs
abbrev pub WatchersReadLawful : {W : Type 0} → (W → ℕ → List ℕ) → Type 0
WatchersReadLawful moves =
    (first : Reading) (sources : List Source) (shown seen : List Reading)
    → All IsLawfulSource sources → OnlyShowed moves sources (first ∷ []) shown → StartsWith shown seen
    → All (λ q. (q ≡ first) ⊎ IsOfOneStanding sources q) seen
