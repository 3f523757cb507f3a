-- What the watchers of a dial read, where only turns and pieces of runs showed readings (our own).
use Rattle.std.specs.Prelude.{ℕ, ◌≡◌, ◌<◌, ◌⊎◌, List, [], ◌∷◌, ◌++◌, map, All, Result, refl}
use Rattle.std.specs.declared.alloc.AllocError.{AllocError}
use Rattle.fab_dial.specs.declared.readings.Reading.{Reading}
use Rattle.fab_dial.specs.Shown.{StartsWith}
use Rattle.fab_commit.specs.declared.run.turn.Turn.{Turn}
use Rattle.fab_commit.specs.Serial.{Run, Standing, from}
use Rattle.fab_commit.specs.Run.Commits.{AnnealOf, run_of}
use Rattle.fab_commit.specs.Run.Readings.{IsShown, reading_at}
use Rattle.fab_commit.specs.Run.Turned.{IsTurned}
use Rattle.fab_run.specs.Ends.{Piece}
use Rattle.fab_run.specs.Shown.{AreMadeAll, AreShown, AreShownInPart}

-- each number is above the one before it, and the first above `low`
abbrev pub AreRising : ℕ → List ℕ → Type 0
AreRising low [] = Unit {0}
AreRising low (n ∷ ns) = (low < n) × AreRising n ns

-- these are the readings after some of the next moves of the run from x, in the order of these moves, which are all made
pub record AreOf (r : Run) (x : Standing) (list : List Reading) : Type 0 where
  pub moves : List ℕ  -- how many moves lead from x to each
  pub rising : AreRising 0 moves
  pub made : All (AreMadeAll r x) moves
  pub each : list ≡ map (λ n. reading_at r (from r x n)) moves

-- turns of one annealer led from `a` to `b`, each with its batch and its answer, and showed what is new
abbrev pub HaveTurned : {W : Type 0} → (W → ℕ → List ℕ) → List (ℕ × Result Turn AllocError) → AnnealOf W → AnnealOf W → List Reading → List Reading → Type 0
HaveTurned moves [] a b old new = (b ≡ a) × (new ≡ old)
HaveTurned {W} moves (turn ∷ turns) a b old new =
    (c : AnnealOf W) × (mid : List Reading) × IsTurned moves turn.0 a c turn.1 × IsShown moves a c turn.1 old mid × HaveTurned moves turns c b mid new

-- turns of an annealer show readings of its run from where they began, in their order
abbrev pub TurnsShowStandings : {W : Type 0} → (W → ℕ → List ℕ) → Type 0
TurnsShowStandings {W} moves =
    (turns : List (ℕ × Result Turn AllocError)) (a b : AnnealOf W) (old new : List Reading) → HaveTurned moves turns a b old new → (list : List Reading) × (new ≡ old ++ list) × AreOf (run_of moves a) a.standing list

-- so does a piece, answered or not
abbrev pub PiecesShowStandings : Type 0
PiecesShowStandings =
    (p : Piece) (batch : ℕ) (old new : List Reading) → AreShown p batch old new ⊎ AreShownInPart p batch old new → (list : List Reading) × (new ≡ old ++ list) × AreOf p.run p.start list

-- one that shows on a dial: a run, and where it begins
pub record Source : Type 0 where
  pub run : Run
  pub start : Standing

-- turns of an annealer showed this, from where it was
pub record ShowedByTurns {W : Type 0} (moves : W → ℕ → List ℕ) (s : Source) (old new : List Reading) : Type 0 where
  pub turns : List (ℕ × Result Turn AllocError)
  pub before : AnnealOf W
  pub after : AnnealOf W
  pub run : run_of moves before ≡ s.run
  pub start : before.standing ≡ s.start
  pub turned : HaveTurned moves turns before after old new

-- a piece of a run showed this, answered or not
pub record ShowedByPiece (s : Source) (old new : List Reading) : Type 0 where
  pub piece : Piece
  pub batch : ℕ
  pub run : piece.run ≡ s.run
  pub start : piece.start ≡ s.start
  pub shown : AreShown piece batch old new ⊎ AreShownInPart piece batch old new

-- the source showed this: by turns, by a piece, or nothing, as a run that is refused
abbrev pub Showed : {W : Type 0} → (W → ℕ → List ℕ) → Source → List Reading → List Reading → Type 0
Showed moves s old new = ShowedByTurns moves s old new ⊎ (ShowedByPiece s old new ⊎ (new ≡ old))

-- only these sources showed, one after another
abbrev pub OnlyShowed : {W : Type 0} → (W → ℕ → List ℕ) → List Source → List Reading → List Reading → Type 0
OnlyShowed moves [] old new = new ≡ old
OnlyShowed moves (s ∷ sources) old new = (mid : List Reading) × Showed moves s old mid × OnlyShowed moves sources mid new

-- the reading is that after n moves of this source, which are all made
pub record IsAfter (s : Source) (q : Reading) : Type 0 where
  pub count : ℕ
  pub made : AreMadeAll s.run s.start count
  pub reading : q ≡ reading_at s.run (from s.run s.start count)

-- the reading is one after moves of one of these sources
abbrev pub IsAfterOne : List Source → Reading → Type 0
IsAfterOne [] q = ⊥
IsAfterOne (s ∷ sources) q = IsAfter s q ⊎ IsAfterOne sources q

-- a watcher of a dial on which only these sources showed read the dial's first reading, and readings of them
abbrev pub WatchersReadStandings : {W : Type 0} → (W → ℕ → List ℕ) → Type 0
WatchersReadStandings moves =
    (first : Reading) (sources : List Source) (shown seen : List Reading) → OnlyShowed moves sources (first ∷ []) shown → StartsWith shown seen → All (λ q. (q ≡ first) ⊎ IsAfterOne sources q) seen

-- where one source alone showed, the watcher read them in the order of their moves
abbrev pub WatchersReadInOrder : {W : Type 0} → (W → ℕ → List ℕ) → Type 0
WatchersReadInOrder moves =
    (first : Reading) (s : Source) (shown seen : List Reading) → Showed moves s (first ∷ []) shown → StartsWith shown seen
    → (seen ≡ []) ⊎ ((rest : List Reading) × (seen ≡ first ∷ rest) × AreOf s.run s.start rest)

-- where no turn is made, nothing is shown
no_turn : {W : Type 0} (moves : W → ℕ → List ℕ) (a : AnnealOf W) (old : List Reading) → HaveTurned moves [] a a old old
no_turn moves a old = (refl, refl)

-- where no source shows, the list stays as it was
nobody : {W : Type 0} (moves : W → ℕ → List ℕ) (old : List Reading) → OnlyShowed moves [] old old
nobody moves old = refl
