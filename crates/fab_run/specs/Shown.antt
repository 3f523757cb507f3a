-- What a piece of a run shows on a dial: how far it has come, once for each turn that succeeds and made moves (our own).
use Rattle.std.specs.Prelude.{ℕ, ◌≡◌, ◌+◌, ◌-◌, ◌≤◌, ◌⊎◌, List, ◌++◌, Option}
use Rattle.fab_dial.specs.declared.readings.Reading.{Reading}
use Rattle.fab_commit.specs.Serial.{Run, Standing, from}
use Rattle.fab_commit.specs.Run.Readings.{HasShown, IsCutAfter, readings}
use Rattle.fab_run.specs.Ends.{IsPiece, IsWithin, Piece}

-- n moves are made from here: the run does not end before the last of them
abbrev pub AreMadeAll : Run → Standing → ℕ → Type 0
AreMadeAll r x n = (from r x n).done ≡ x.done + n

-- the piece showed its readings: one at the start of each turn but the first, and one at the end of the piece if it made moves
pub record AreShown (p : Piece) (batch : ℕ) (old new : List Reading) : Type 0 where
  pub moves : ℕ
  pub piece : IsPiece p.run p.start p.stop moves
  pub made : AreMadeAll p.run p.start moves
  pub shown : new ≡ old ++ readings p.run p.start batch moves

-- it showed a beginning of them: those up to a cut, or all
pub record AreShownInPart (p : Piece) (batch : ℕ) (old new : List Reading) : Type 0 where
  pub moves : ℕ
  pub within : IsWithin p.run p.start p.stop moves
  pub made : AreMadeAll p.run p.start moves
  pub end : IsCutAfter p.run.plan.moves p.start.done batch moves ⊎ IsPiece p.run p.start p.stop moves
  pub shown : new ≡ old ++ readings p.run p.start batch moves

-- the requested piece showed its readings
abbrev pub HaveShown : (Piece → Type 0) → ℕ → List Reading → List Reading → Type 0
HaveShown Asked batch old new = (p : Piece) × Asked p × AreShown p batch old new

-- the requested piece showed a beginning of them
abbrev pub HaveShownInPart : (Piece → Type 0) → ℕ → List Reading → List Reading → Type 0
HaveShownInPart Asked batch old new = (p : Piece) × Asked p × AreShownInPart p batch old new

-- turns of this batch that were shown up to a are now shown up to b
pub record LeadsShown (r : Run) (batch : ℕ) (a b : Standing) (old new : List Reading) : Type 0 where
  pub on : (x : Standing) (before : List Reading) → HasShown r batch x before a old → HasShown r batch x before b new

-- turns that were shown up to a are now shown up to a standing that at most this many moves lead to
pub record LeadsShownWithin (r : Run) (batch : ℕ) (a : Standing) (most : ℕ) (old new : List Reading) : Type 0 where
  pub there : Standing
  pub near : there.done ≤ a.done + most
  pub leads : LeadsShown r batch a there old new

-- turns that were shown up to a are now shown up to b, where the last turn may be shorter
pub record EndsShown (r : Run) (batch : ℕ) (a b : Standing) (old new : List Reading) : Type 0 where
  pub on : (x : Standing) (before : List Reading) → HasShown r batch x before a old → new ≡ before ++ readings r x batch (b.done - x.done)

-- readings from x up to a cut were shown, and not past the stop
pub record AreShownBegun (r : Run) (x : Standing) (stop : Option ℕ) (batch : ℕ) (old new : List Reading) : Type 0 where
  pub moves : ℕ
  pub within : IsWithin r x stop moves
  pub made : AreMadeAll r x moves
  pub end : IsCutAfter r.plan.moves x.done batch moves
  pub shown : new ≡ old ++ readings r x batch moves
