-- What the parts of a reader of checkpoint texts have read (our own).
use Rattle.std.specs.Prelude.{ℕ, ◌≡◌, ◌⊎◌, ◌==◌, Bool, true, false, ◌≤◌, List, [], ◌∷◌, length, map, take, drop, codes, Option, Some, None, slice_index_or}
use Rattle.std.specs.List.{AllByRecursion, list_any}
use Rattle.fab_text.specs.Lines.{TextLine}
use Rattle.fab_text.specs.FirstFault.{unless, fault_of_all}
use Rattle.fab_arch.specs.Grid.{GridShape}
use Rattle.fab_net.specs.Names.{AllDistinct}
use Rattle.fab_net.specs.Netlist.{Netlist}
use Rattle.fab_site.specs.Placement.{IsLegal, PlacementOf}
use Rattle.fab_sched.specs.declared.schedules.Stage.{Stage}
use Rattle.fab_sched.specs.Annealing.{IsLawful, MayStand, Plan}
use Rattle.fab_file.specs.Place.{Places, names_block, word_at}
use Rattle.fab_file.specs.PlaceFaults.{is_repeated}
use Rattle.fab_run.specs.declared.point_fault.PointFault.{PointFault}
use Rattle.fab_run.specs.declared.point_fault.PointFault.TheVariants.{BadField, OutOfRange}
use Rattle.fab_run.specs.declared.point_fault.PointField.{PointField}
use Rattle.fab_run.specs.declared.point_words.Version.{Version}
use Rattle.fab_run.specs.declared.point_words.Version.TheVariants.{One, Two}
use Rattle.fab_run.specs.PointFields.{number_in, array_in, schedule_in, stage_in, is_end}
use Rattle.fab_run.specs.PointMeaning.{IsArrayFor}
use Rattle.fab_run.specs.PointFaults.{IsRangeOn, IsStageOf, IsTotal, fixed_fault, grid_of, schedule_of, seat_fault}

-- a line says this, which is in range
pub record Says {A : Type 0} (read : TextLine → Option A) (IsIn : A → Type 0) (line : TextLine) (a : A) : Type 0 where
  pub says : read line ≡ Some a
  pub within : IsIn a

-- a line does not say what is due, and this is its fault
pub record IsFaultOfLine {A : Type 0} (e : PointFault) (read : TextLine → Option A) (line : TextLine) : Type 0 where
  pub silent : read line ≡ None
  pub fault : e ≡ BadField line.number

-- what a line says is out of range, and this is its fault
pub record IsOutOfRange {A : Type 0} (e : PointFault) (read : TextLine → Option A) (IsIn : A → Type 0) (field : PointField) (line : TextLine) : Type 0 where
  pub value : A
  pub says : read line ≡ Some value
  pub beyond : ¬ IsIn value
  pub fault : e ≡ OutOfRange field

-- the fault of a line whose field has a range
abbrev pub IsFaultOfField : {A : Type 0} → PointFault → (TextLine → Option A) → (A → Type 0) → PointField → TextLine → Type 0
IsFaultOfField e read IsIn field line = IsFaultOfLine e read line ⊎ IsOutOfRange e read IsIn field line

-- the next line says this, which is in range
pub record IsRead {A : Type 0} (read : TextLine → Option A) (IsIn : A → Type 0) (ls : List TextLine) (a : A) (behind : List TextLine) : Type 0 where
  pub line : TextLine
  pub text : ls ≡ line ∷ behind
  pub says : read line ≡ Some a
  pub within : IsIn a

-- any number is lawful
abbrev pub IsAny : ℕ → Type 0
IsAny n = Unit {0}

-- the seed, the array and the schedule
pub record HeadRead (v : Version) (io_rat : ℕ) (d : Netlist) (ls : List TextLine) (seed : ℕ) (g : GridShape) (p : Plan) (behind : List TextLine) : Type 0 where
  pub after_seed : List TextLine
  pub after_array : List TextLine
  pub seed_read : IsRead (number_in (codes "seed")) IsAny ls seed after_seed
  pub array_read : IsRead array_in (λ a. IsArrayFor io_rat d (grid_of a)) after_seed (g.nx, g.ny, g.io_rat) after_array
  pub schedule_read : IsRead (schedule_in v) (λ s. IsLawful (schedule_of s)) after_array (p.init, p.exit, p.cooling, p.moves) behind

-- the temperature of a stage: on a line, or given only by the schedule
abbrev pub HeatRead : Version → Plan → ℕ → List TextLine → ℕ → List TextLine → Type 0
HeatRead One p x ls t behind = (behind ≡ ls) × MayStand p x t
HeatRead Two p x ls t behind = IsRead (number_in (codes "temperature")) (MayStand p x) ls t behind

-- the running stage, and the moves accepted in all
pub record StageRead (v : Version) (g : GridShape) (p : Plan) (ls : List TextLine) (s : Stage) (total : ℕ) (behind : List TextLine) : Type 0 where
  pub after_stage : List TextLine
  pub after_heat : List TextLine
  pub after_range : List TextLine
  pub stage_read : IsRead stage_in (IsStageOf p) ls (s.index, s.done, s.accepted) after_stage
  pub heat_read : HeatRead v p s.index after_stage s.t after_heat
  pub range_read : IsRead (number_in (codes "range")) (IsRangeOn g) after_heat s.range after_range
  pub total_read : IsRead (number_in (codes "total")) (IsTotal p (s.index, s.done, s.accepted)) after_range total behind
  pub frozen : s.frozen ≡ (s.t == 0)

-- the names of `many` fixed blocks: for each block, whether it is fixed
pub record AreNamed (v : Version) (d : Netlist) (many : ℕ) (ls : List TextLine) (named : List Bool) (behind : List TextLine) : Type 0 where
  pub clean : fault_of_all (fixed_fault v d) (λ there. unless (length there == many) (BadField 0)) (take many ls) ≡ None
  pub rest : behind ≡ drop many ls
  pub long : length named ≡ length d.kinds
  pub named_are : (b : ℕ) → slice_index_or named b false ≡ is_repeated d (take many ls) b

-- a list of named blocks was read from these lines, and the lines after them are left
pub record NamesRead (v : Version) (d : Netlist) (ls : List TextLine) (named : List Bool) (behind : List TextLine) : Type 0 where
  pub many : ℕ
  pub after : List TextLine
  pub count_read : IsRead (number_in (codes "fixed")) (λ n. n ≤ length d.kinds) ls many after
  pub names : AreNamed v d many after named behind

-- the sites of all blocks
pub record AreSeated (d : Netlist) (g : GridShape) (ls : List TextLine) (placement : PlacementOf) (behind : List TextLine) : Type 0 where
  pub clean : fault_of_all (seat_fault d g) (λ there. unless (length there == length d.kinds) (BadField 0)) (take (length d.kinds) ls) ≡ None
  pub rest : behind ≡ drop (length d.kinds) ls
  pub array : placement.grid ≡ g
  pub each : AllByRecursion (Places d placement.sites) (take (length d.kinds) ls)
  pub distinct : AllDistinct (map (λ l. word_at l 0) (take (length d.kinds) ls))
  pub complete : AllByRecursion (λ name. list_any (names_block name) (take (length d.kinds) ls) ≡ true) d.names
  pub legal : IsLegal d g [] placement.sites

-- the sites of all blocks were read from these lines, and the lines after them are left
pub record SeatsRead (d : Netlist) (g : GridShape) (ls : List TextLine) (placement : PlacementOf) (behind : List TextLine) : Type 0 where
  pub after : List TextLine
  pub count_read : IsRead (number_in (codes "places")) (λ m. m ≡ length d.kinds) ls (length d.kinds) after
  pub seats : AreSeated d g after placement behind

-- the last line, and no line after it
pub record EndRead (ls : List TextLine) : Type 0 where
  pub line : TextLine
  pub text : ls ≡ line ∷ []
  pub end : is_end line ≡ true
