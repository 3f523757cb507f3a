-- The first fault of a checkpoint text (its order is our own): that of the first line that is faulty or missing. The numbers of a line with
-- the form of its field may still be out of range.
use Rattle.std.specs.Prelude.{ℕ, ◌≡◌, ◌+◌, ◌*◌, ◌<◌, ◌≤◌, ◌⊎◌, ◌==◌, not, Bool, true, false, max, List, [], ◌∷◌, length, take, drop, codes, Option, Some, None, option_map}
use Rattle.fab_text.specs.Lines.{TextLine}
use Rattle.fab_text.specs.FirstFault.{or_else, unless, fault_of_all}
use Rattle.fab_arch.specs.Grid.{GridShape, shape}
use Rattle.fab_net.specs.Netlist.{Netlist, is_logic_at}
use Rattle.fab_sched.specs.declared.schedules.Cooling.{Cooling}
use Rattle.fab_sched.specs.Annealing.{IsLawful, MayStand, Plan, plan_of}
use Rattle.fab_file.specs.declared.fault.PlaceFault.{PlaceFault}
use Rattle.fab_file.specs.declared.fault.PlaceFault.TheVariants.{UnknownBlock, Repeated, NotAPad, BadLine}
use Rattle.fab_file.specs.Place.{block_in}
use Rattle.fab_file.specs.PlaceFaults.{block_fault, is_repeated}
use Rattle.fab_commit.specs.declared.run.point.Point.{Point}
use Rattle.fab_run.specs.declared.point_fault.PointFault.{PointFault}
use Rattle.fab_run.specs.declared.point_fault.PointFault.TheVariants.{BadVersion, BadField, OutOfRange, Block, NoMemory}
use Rattle.fab_run.specs.declared.point_fault.PointField.{PointField}
use Rattle.fab_run.specs.declared.point_fault.PointField.TheVariants.{Array, Schedule, Stage, Temperature, Range, Total, Fixed, Places}
use Rattle.fab_run.specs.declared.point_words.Version.{Version}
use Rattle.fab_run.specs.declared.point_words.Version.TheVariants.{One, Two}
use Rattle.fab_run.specs.PointFields.{version_in, number_in, array_in, schedule_in, stage_in, is_fixed_line, is_end}
use Rattle.fab_run.specs.PointMeaning.{IsArrayFor, IsSamePoint, StandsForPoint}

-- the fault is in the first line or after it
abbrev pub VersionFault : PointFault → (Version → List TextLine → Type 0) → List TextLine → Option Version → Type 0
VersionFault e Behind ls None = e ≡ BadVersion
VersionFault e Behind ls (Some v) = Behind v ls

-- the fault is in the line with this number if the line does not say what is due, else after it
abbrev pub LineFault : {A : Type 0} → PointFault → (A → List TextLine → Type 0) → ℕ → List TextLine → Option A → Type 0
LineFault e Behind n ls None = e ≡ BadField n
LineFault e Behind n ls (Some a) = Behind a ls

-- the fault is in the next line, which must be a field, or after it
abbrev pub DueFault : {A : Type 0} → PointFault → (TextLine → Option A) → (A → List TextLine → Type 0) → List TextLine → Type 0
DueFault e read Behind [] = e ≡ BadField 0
DueFault e read Behind (l ∷ ls) = LineFault e Behind l.number ls (read l)

-- the same, for a field that has a range
abbrev pub FieldFault : {A : Type 0} → PointFault → (TextLine → Option A) → (A → Type 0) → PointField → (A → List TextLine → Type 0) → List TextLine → Type 0
FieldFault e read IsIn field Behind ls =
    DueFault e read (λ a behind. ((¬ IsIn a) × (e ≡ OutOfRange field)) ⊎ (IsIn a × Behind a behind)) ls

-- the fault is in the next n lines, which are due, or after them
abbrev pub ListFault : PointFault → (List TextLine → TextLine → Option PointFault) → ℕ → (List TextLine → Type 0) → List TextLine → Type 0
ListFault e of_line n Behind ls =
    (fault_of_all of_line (λ there. unless (length there == n) (BadField 0)) (take n ls) ≡ Some e)
    ⊎ ((fault_of_all of_line (λ there. unless (length there == n) (BadField 0)) (take n ls) ≡ None) × Behind (drop n ls))

-- the fault is in the line of the temperature or after it; in the first version there is no such line
abbrev pub HeatFault : PointFault → Version → Plan → ℕ → (ℕ → List TextLine → Type 0) → List TextLine → Type 0
HeatFault e One p x Behind ls = (t : ℕ) × MayStand p x t × Behind t ls
HeatFault e Two p x Behind ls = FieldFault e (number_in (codes "temperature")) (MayStand p x) Temperature Behind ls

-- another line follows the last one
abbrev pub MoreFault : PointFault → List TextLine → Type 0
MoreFault e [] = ⊥
MoreFault e (l ∷ ls) = e ≡ BadField l.number

-- the fault after the last field's line: text goes on after the end, or the line is not the end
abbrev pub LastFault : PointFault → ℕ → List TextLine → Bool → Type 0
LastFault e n ls true = MoreFault e ls
LastFault e n ls false = e ≡ BadField n

-- the fault of what should be the line `end`
abbrev pub EndFault : PointFault → List TextLine → Type 0
EndFault e [] = e ≡ BadField 0
EndFault e (l ∷ ls) = LastFault e l.number ls (is_end l)

-- the first fault of a line `NAME fixed` with this number, by whether it has that form, which block it names, if any, and which blocks are
-- already fixed; the first version fixes only pads
abbrev pub name_fault : Version → Netlist → (ℕ → Bool) → ℕ → Bool → Option ℕ → Option PlaceFault
name_fault v d is_fixed n false named = Some (BadLine n)
name_fault v d is_fixed n true None = Some (UnknownBlock n)
name_fault One d is_fixed n true (Some b) = or_else (unless (not (is_fixed b)) (Repeated n)) (unless (not (is_logic_at d b)) (NotAPad n))
name_fault Two d is_fixed n true (Some b) = unless (not (is_fixed b)) (Repeated n)

-- the first fault of the line of a fixed block, given the lines before it
abbrev pub fixed_fault : Version → Netlist → List TextLine → TextLine → Option PointFault
fixed_fault v d before l = option_map (λ e. Block e) (name_fault v d (is_repeated d before) l.number (is_fixed_line l) (block_in d l))

-- the first fault of the line of a block's site, given the lines before it
abbrev pub seat_fault : Netlist → GridShape → List TextLine → TextLine → Option PointFault
seat_fault d g before l = option_map (λ e. Block e) (block_fault d g before l)

-- the array of three numbers
abbrev pub grid_of : ℕ × ℕ × ℕ → GridShape
grid_of a = shape a.0 a.1 a.2

-- the plan of four values
abbrev pub schedule_of : ℕ × ℕ × Cooling × ℕ → Plan
schedule_of s = plan_of s.0 s.1 s.2 s.3

-- the schedule has such a stage, with a move that is not made yet
abbrev pub IsStageOf : Plan → ℕ × ℕ × ℕ → Type 0
IsStageOf p x = ((t : ℕ) × MayStand p x.0 t) × (x.1 < p.moves) × (x.2 ≤ x.1)

-- a range in thousandths from 1 to the array's longer side
abbrev pub IsRangeOn : GridShape → ℕ → Type 0
IsRangeOn g range = (1000 ≤ range) × (range ≤ 1000 * max g.nx g.ny)

-- accepted moves in all: at least those of the stage, at most all that are made
abbrev pub IsTotal : Plan → ℕ × ℕ × ℕ → ℕ → Type 0
IsTotal p x total = (x.2 ≤ total) × (total ≤ x.0 * p.moves + x.1)

-- the fault is in the lines of the fixed blocks or after them
abbrev pub NamesFault : PointFault → Version → Netlist → (List TextLine → Type 0) → List TextLine → Type 0
NamesFault e v d Behind =
    FieldFault e (number_in (codes "fixed")) (λ n. n ≤ length d.kinds) Fixed (λ n. ListFault e (fixed_fault v d) n Behind)

-- the fault is in the lines of the sites or after them
abbrev pub SeatsFault : PointFault → Netlist → GridShape → (List TextLine → Type 0) → List TextLine → Type 0
SeatsFault e d g Behind =
    FieldFault e (number_in (codes "places")) (λ m. m ≡ length d.kinds) Places (λ m. ListFault e (seat_fault d g) m Behind)

-- the fault is in the lines of the stage or after them
abbrev pub StageFault : PointFault → Version → GridShape → Plan → (List TextLine → Type 0) → List TextLine → Type 0
StageFault e v g p Behind =
    FieldFault e stage_in (IsStageOf p) Stage (λ x.
    HeatFault e v p x.0 (λ t.
    FieldFault e (number_in (codes "range")) (IsRangeOn g) Range (λ range.
    FieldFault e (number_in (codes "total")) (IsTotal p x) Total (λ total. Behind))))

-- the fault is in the lines of the seed, the array and the schedule, or after them
abbrev pub HeadFault : PointFault → ℕ → Netlist → Version → (GridShape → Plan → List TextLine → Type 0) → List TextLine → Type 0
HeadFault e io_rat d v Behind =
    DueFault e (number_in (codes "seed")) (λ seed.
    FieldFault e array_in (λ a. IsArrayFor io_rat d (grid_of a)) Array (λ a.
    FieldFault e (schedule_in v) (λ s. IsLawful (schedule_of s)) Schedule (λ s. Behind (grid_of a) (schedule_of s))))

-- the fault is after the first line
abbrev pub FaultBehind : PointFault → ℕ → Netlist → Version → List TextLine → Type 0
FaultBehind e io_rat d v =
    HeadFault e io_rat d v (λ g p.
    StageFault e v g p (
    NamesFault e v d (
    SeatsFault e d g (
    EndFault e))))

-- the first fault of a text
abbrev pub IsFirstFault : ℕ → Netlist → List TextLine → PointFault → Type 0
IsFirstFault io_rat d [] e = e ≡ BadVersion
IsFirstFault io_rat d (l ∷ ls) e = VersionFault e (FaultBehind e io_rat d) ls (version_in l)

-- a fault that was answered is the first one, or a lack of memory, which may come for any text
abbrev pub IsPointFault : ℕ → Netlist → List TextLine → PointFault → Type 0
IsPointFault io_rat d ls NoMemory = Unit {0}
IsPointFault io_rat d ls e = IsFirstFault io_rat d ls e

-- a text stands for one point or has one first fault, and never both
pub record PointMeansOrFaults (io_rat : ℕ) (d : Netlist) (ls : List TextLine) : Type 0 where
  pub one : ((seed : ℕ) × (g : GridShape) × (p : Point) × StandsForPoint io_rat d ls seed g p) ⊎ ((e : PointFault) × IsFirstFault io_rat d ls e)
  pub never_both : (seed : ℕ) (g : GridShape) (p : Point) (e : PointFault) → StandsForPoint io_rat d ls seed g p → IsFirstFault io_rat d ls e → ⊥
  pub one_point : (seed other : ℕ) (g h : GridShape) (p q : Point) → StandsForPoint io_rat d ls seed g p → StandsForPoint io_rat d ls other h q → (seed ≡ other) × (g ≡ h) × IsSamePoint p q
  pub one_fault : (e f : PointFault) → IsFirstFault io_rat d ls e → IsFirstFault io_rat d ls f → e ≡ f
