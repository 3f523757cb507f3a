-- Which check of a run fails first (our own), in the order architecture, netlist, size, location text, labels, schedule,
-- batch, workers.
use Rattle.std.specs.Prelude.{ℕ, ◌≡◌, false, true, List, Option, Some, None, length}
use Rattle.fab_text.specs.Lines.{lines}
use Rattle.fab_text.specs.Failures.{grown}
use Rattle.fab_arch.specs.declared.array.Site.{Site}
use Rattle.fab_arch.specs.declared.fault.GridFault.{GridFault}
use Rattle.fab_arch.specs.declared.fault.GridFault.TheVariants.{SizeOutOfRange}
use Rattle.fab_arch.specs.Grid.{GridShape, NoSquareHolds, shape}
use Rattle.fab_net.specs.Netlist.{Netlist, logic_count, pad_count}
use Rattle.fab_file.specs.declared.fault.PlaceFault.{PlaceFault}
use Rattle.fab_file.specs.declared.fault.PlaceFault.TheVariants.{BadLabel, Write}
use Rattle.fab_file.specs.Pinned.{pins_fault}
use Rattle.fab_file.specs.Written.{are_labels}
use Rattle.fab_sched.specs.Annealing.{IsLawful, Plan, fault_of}
use Rattle.fab_run.specs.declared.inputs.Options.{Options}
use Rattle.fab_run.specs.declared.point_fault.PointFault.TheVariants.{Write as PointWrite}
use Rattle.fab_run.specs.declared.fault.RunFault.{RunFault}
use Rattle.fab_run.specs.declared.fault.RunFault.TheVariants.{Arch, Net, Pads, Place, Point, Size, Schedule, BatchOutOfRange, WorkersOutOfRange, Report, NoMemory}
use Rattle.fab_run.specs.Check.{IsDesignFault, IsSizeFault, MeanDesign}
use Rattle.fab_run.specs.Setting.{HasArray, HasPins, IsAskedPlan, IsSetting, Setting, Texts, Within}

-- the fault of the requested array: of its given size, or that no square up to side 1,000 holds the design
abbrev pub IsArrayFault : Option (ℕ × ℕ) → Netlist → ℕ → GridFault → Type 0
IsArrayFault None d io_rat e = (e ≡ SizeOutOfRange) × NoSquareHolds 1001 (logic_count d) (pad_count d) io_rat
IsArrayFault (Some size) d io_rat e = IsSizeFault d (shape size.0 size.1 io_rat) e

-- the first fault of the location text, if there is one
abbrev pub IsPadsFault : Option (List ℕ) → Netlist → GridShape → PlaceFault → Type 0
IsPadsFault None d g e = ⊥
IsPadsFault (Some text) d g e = pins_fault d g (lines text) ≡ Some e

-- the fault of a location text, or a lack of memory to read it
abbrev pub IsLocationFault : Option (List ℕ) → Netlist → GridShape → RunFault → Type 0
IsLocationFault text d g (Pads e) = IsPadsFault text d g e
IsLocationFault text d g NoMemory = Unit {0}
IsLocationFault text d g e = ⊥

-- the requested schedule is lawful
abbrev pub HasLawfulPlan : Options → ℕ → Type 0
HasLawfulPlan o blocks = (p : Plan) × IsAskedPlan o blocks p × IsLawful p

-- the first fault of batch and workers
abbrev pub IsThreadFault : ℕ → ℕ → RunFault → Type 0
IsThreadFault batch workers BatchOutOfRange = ¬ Within 4096 batch
IsThreadFault batch workers WorkersOutOfRange = Within 4096 batch × (¬ Within 64 workers)
IsThreadFault batch workers e = ⊥

-- the first fault after the texts, of labels, schedule, batch and workers, for a design with this many blocks
abbrev pub IsOptionFault : Texts → Options → ℕ → RunFault → Type 0
IsOptionFault t o blocks (Place BadLabel) = are_labels t.net_label t.arch_label ≡ false
IsOptionFault t o blocks (Schedule e) = (are_labels t.net_label t.arch_label ≡ true) × ((p : Plan) × IsAskedPlan o blocks p × (fault_of p ≡ Some e))
IsOptionFault t o blocks BatchOutOfRange = (are_labels t.net_label t.arch_label ≡ true) × HasLawfulPlan o blocks × IsThreadFault o.batch o.workers BatchOutOfRange
IsOptionFault t o blocks WorkersOutOfRange = (are_labels t.net_label t.arch_label ≡ true) × HasLawfulPlan o blocks × IsThreadFault o.batch o.workers WorkersOutOfRange
IsOptionFault t o blocks e = ⊥

-- the texts pass their checks, and this is the first fault after them
abbrev pub IsFaultBehind : Texts → Options → RunFault → Type 0
IsFaultBehind t o e =
    (d : Netlist) × (g : GridShape) × (fixed : List (Option Site)) × (begun : List (Option Site)) × HasPins t o d g fixed begun × IsOptionFault t o (length d.kinds) e

-- the first check that fails. A failure to write the report or the place text is returned only if no check fails. Memory may run out for
-- any inputs
abbrev pub IsRunFault : Texts → Options → RunFault → Type 0
IsRunFault t o (Arch e) = IsDesignFault t.arch t.net (Arch e)
IsRunFault t o (Net e) = IsDesignFault t.arch t.net (Net e)
IsRunFault t o (Size e) = (io_rat : ℕ) × (d : Netlist) × MeanDesign t.arch t.net io_rat d × IsArrayFault o.size d io_rat e
IsRunFault t o (Pads e) = (d : Netlist) × (g : GridShape) × HasArray t o d g × IsPadsFault t.pads d g e
IsRunFault t o (Place Write) = (s : Setting) × IsSetting t o s
IsRunFault t o (Place e) = IsFaultBehind t o (Place e)
IsRunFault t o (Schedule e) = IsFaultBehind t o (Schedule e)
IsRunFault t o BatchOutOfRange = IsFaultBehind t o BatchOutOfRange
IsRunFault t o WorkersOutOfRange = IsFaultBehind t o WorkersOutOfRange
IsRunFault t o Report = (s : Setting) × IsSetting t o s
IsRunFault t o (Point e) = ⊥
IsRunFault t o NoMemory = Unit {0}

-- the fault is one of the inputs, not of a writer or of memory
abbrev pub IsRefusal : RunFault → Type 0
IsRefusal (Place Write) = ⊥
IsRefusal (Point PointWrite) = ⊥
IsRefusal Report = ⊥
IsRefusal NoMemory = ⊥
IsRefusal e = Unit {0}

-- how often the writer of the place text has failed, after a run that ended with this fault
abbrev pub place_failed_with : RunFault → ℕ → ℕ
place_failed_with (Place Write) n = grown n
place_failed_with e n = n
