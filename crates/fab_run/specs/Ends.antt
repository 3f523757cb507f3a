-- A piece of a run (our own): from where it begins to a stop, or to the end of the run. The moves are made one at a time.
use Rattle.std.specs.Prelude.{ℕ, ◌≡◌, ◌+◌, ◌≤◌, ◌⊎◌, true, List, ◌++◌, Option, Some, None, is_some, take}
use Rattle.std.specs.Io.KnownBytes.{Appends}
use Rattle.fab_site.specs.Placement.{IsLegal, PlacementOf, fixed_at}
use Rattle.fab_file.specs.Written.{IsCut}
use Rattle.fab_commit.specs.declared.run.point.Point.{Point}
use Rattle.fab_commit.specs.Run.Commits.{AnnealOf, run_of}
use Rattle.fab_commit.specs.Run.Points.{IsPoint, standing_at}
use Rattle.fab_commit.specs.Serial.{Run, Standing, accepted_among, from}
use Rattle.fab_commit.specs.Model.Turns.{redone_in_run}
use Rattle.fab_run.specs.declared.inputs.Ending.{Ending}
use Rattle.fab_run.specs.declared.inputs.Ending.TheVariants.{Finished, Stopped}
use Rattle.fab_run.specs.declared.inputs.Outcome.{Outcome}
use Rattle.fab_run.specs.Piece.{IsOver, end_line, run_costs, stage_lines}

-- a requested piece
pub record Piece : Type 0 where
  pub run : Run
  pub start : Standing  -- where it begins
  pub head : List ℕ  -- what its report shows before the first move
  pub stop : Option ℕ  -- after how many moves of the run it stops

-- after n moves the piece is at its stop, and moves are left
pub record StopsAfter (r : Run) (x : Standing) (stop : Option ℕ) (n : ℕ) : Type 0 where
  pub here : stop ≡ Some (x.done + n)
  pub going : is_some (from r x n).heat ≡ true

-- after n moves no move is left, and the piece met no stop: a stop before its beginning is ignored, and so is one after which no move is
-- left
pub record EndsAfter (r : Run) (x : Standing) (stop : Option ℕ) (n : ℕ) : Type 0 where
  pub over : IsOver r x n
  pub passed : (m : ℕ) → stop ≡ Some (x.done + m) → IsOver r x m

-- a piece from here with this stop, if it has one, has n moves
abbrev pub IsPiece : Run → Standing → Option ℕ → ℕ → Type 0
IsPiece r x stop n = StopsAfter r x stop n ⊎ EndsAfter r x stop n

-- the standing of the piece after n moves
abbrev pub piece_end : Piece → ℕ → Standing
piece_end p n = from p.run p.start n

-- its report after n moves: the lines of the stages that ended, and the last line if no move is left
unfoldable pub piece_report : Piece → ℕ → List ℕ
piece_report p n = p.head ++ (stage_lines p.run p.start n ++ end_line p.run (piece_end p n))

-- the point is that of a run at this standing: a later piece goes on from it
pub record IsPointAt (r : Run) (x : Standing) (q : Point) : Type 0 where
  pub stands : standing_at q ≡ x
  pub schedule : q.schedule ≡ r.plan
  pub fixed : (b : ℕ) → fixed_at q.fixed b ≡ fixed_at r.problem.fixed b
  pub lawful : IsPoint r.problem.design r.problem.grid q

-- a point of a run with the annealer's design, array and fixed blocks, if there is one: its memory can take each point of this run
abbrev pub IsRoomFor : {W : Type 0} → AnnealOf W → Option Point → Type 0
IsRoomFor a None = Unit {0}
IsRoomFor a (Some q) = IsPoint a.design a.grid q × ((b : ℕ) → fixed_at q.fixed b ≡ fixed_at a.fixed b)

-- how a piece that ends at a standing ends: finished if no move is left, else with the point there
abbrev pub EndsAs : Run → Standing → Ending → Type 0
EndsAs r x Finished = x.heat ≡ None
EndsAs r x (Stopped q) = IsPointAt r x q

-- what a run answers, except the number of redone moves
pub record Answer : Type 0 where
  pub ending : Ending
  pub placement : PlacementOf
  pub accepted : List ℕ
  pub costs : List ℕ

-- what a run that keeps numbers answers
abbrev pub answer_of : Outcome → Answer
answer_of o = record { ending = o.ending; placement = o.placement; accepted = o.accepted.items; costs = o.costs.items }

-- the piece has n moves, and answers this
pub record IsAnnealed (p : Piece) (n : ℕ) (a : Answer) : Type 0 where
  pub piece : IsPiece p.run p.start p.stop n
  pub ending : EndsAs p.run (piece_end p n) a.ending
  pub array : a.placement.grid ≡ p.run.problem.grid
  pub stands : a.placement.sites ≡ (piece_end p n).sites
  pub legal : IsLegal p.run.problem.design p.run.problem.grid p.run.problem.fixed a.placement.sites
  pub numbers : a.accepted ≡ accepted_among p.run p.start n
  pub values : a.costs ≡ run_costs p.run p.start n

-- the piece answers this, and what was written is its report
pub record IsToldPiece (p : Piece) (a : Answer) (old new : Option (List ℕ)) : Type 0 where
  pub moves : ℕ
  pub annealed : IsAnnealed p moves a
  pub report : Appends old new (piece_report p moves)

-- this many moves of the piece are redone, in turns of this batch
pub record AreRedone (p : Piece) (batch redone : ℕ) : Type 0 where
  pub moves : ℕ
  pub piece : IsPiece p.run p.start p.stop moves
  pub made : (piece_end p moves).done ≡ p.start.done + moves
  pub count : redone ≡ redone_in_run p.run p.start batch moves

-- what was written is a beginning of a text
abbrev pub IsBegun : Option (List ℕ) → Option (List ℕ) → List ℕ → Type 0
IsBegun old new text = (k : ℕ) × Appends old new (take k text)

-- n moves from here do not go past the stop, if moves are left there
abbrev pub IsWithin : Run → Standing → Option ℕ → ℕ → Type 0
IsWithin r x stop n = (m : ℕ) → stop ≡ Some (x.done + m) → is_some (from r x m).heat ≡ true → n ≤ m

-- what was written is a beginning of the report of some moves of the piece
abbrev pub IsReportOf : Piece → Option (List ℕ) → Option (List ℕ) → Type 0
IsReportOf p old new = (n : ℕ) × IsWithin p.run p.start p.stop n × IsBegun old new (piece_report p n)

-- what was written is a beginning of it, but not all of it
abbrev pub IsReportCutOf : Piece → Option (List ℕ) → Option (List ℕ) → Type 0
IsReportCutOf p old new = (n : ℕ) × IsWithin p.run p.start p.stop n × IsCut (piece_report p n) old new

-- the piece that an annealer is to make
abbrev pub piece_of : {W : Type 0} → (W → ℕ → List ℕ) → AnnealOf W → List ℕ → Option ℕ → Piece
piece_of moves a head stop = record { run = run_of moves a; start = a.standing; head = head; stop = stop }
