-- What a check of three texts answers (our own): the first check that fails, in the order architecture, netlist, header
-- of the placement text, size of the array, placement; else the cost.
use Rattle.std.specs.Prelude.{ℕ, ◌≡◌, ◌<◌, ◌⊎◌, List, Option, Some, length, take}
use Rattle.std.specs.Io.KnownBytes.{Appends}
use Rattle.fab_text.specs.Lines.{lines}
use Rattle.fab_text.specs.Failures.{grown}
use Rattle.fab_arch.specs.declared.architecture.PinKind.{PinKind}
use Rattle.fab_arch.specs.declared.array.Site.{Site}
use Rattle.fab_arch.specs.declared.fault.GridFault.{GridFault}
use Rattle.fab_arch.specs.declared.fault.GridFault.TheVariants.{TooFewLogicSites, TooFewPadSites, SizeOutOfRange}
use Rattle.fab_arch.specs.Arch.{IsArch, first_fault as first_arch_fault}
use Rattle.fab_arch.specs.Grid.{GridShape, AreLimits, HasLogicSites, HasPadSites, Holds}
use Rattle.fab_net.specs.Netlist.{Netlist, logic_count, pad_count}
use Rattle.fab_net.specs.Text.{IsNetlist}
use Rattle.fab_net.specs.Faults.{first_fault as first_net_fault}
use Rattle.fab_file.specs.declared.fault.PlaceFault.{PlaceFault}
use Rattle.fab_file.specs.declared.fault.PlaceFault.TheVariants.{Write as PlaceWrite}
use Rattle.fab_file.specs.Place.{place_size_of, StandsFor}
use Rattle.fab_file.specs.PlaceFaults.{size_fault, first_fault as first_place_fault}
use Rattle.fab_cost.specs.Cost.{cost_of}
use Rattle.fab_run.specs.declared.point_fault.PointFault.TheVariants.{Write as PointWrite}
use Rattle.fab_run.specs.declared.fault.RunFault.{RunFault}
use Rattle.fab_run.specs.declared.fault.RunFault.TheVariants.{Arch, Net, Place, Point, Size, Report, NoMemory}
use Rattle.fab_run.specs.CheckReport.{check_report}

-- the two texts mean this design, and `io_rat` pads at each position of the array
pub record MeanDesign (arch net : List ℕ) (io_rat : ℕ) (d : Netlist) : Type 0 where
  pub pins : List PinKind
  pub architecture : IsArch (lines arch) io_rat pins
  pub netlist : IsNetlist pins (lines net) d

-- the first two texts mean this design and this io_rat, and the header of the third gives the size of this array
pub record GiveArray (arch net place : List ℕ) (d : Netlist) (g : GridShape) : Type 0 where
  pub design : MeanDesign arch net g.io_rat d
  pub size : place_size_of (lines place) ≡ Some (g.nx, g.ny)

-- the size of the array is within its limits, and the design fits on it
pub record FitsOn (d : Netlist) (g : GridShape) : Type 0 where
  pub limits : AreLimits g.nx g.ny g.io_rat
  pub holds : Holds g (logic_count d) (pad_count d)

-- three texts mean a design, an array that holds it, and a placement of it
pub record AreChecked (arch net place : List ℕ) (d : Netlist) (g : GridShape) (sites : List Site) : Type 0 where
  pub array : GiveArray arch net place d g
  pub fits : FitsOn d g
  pub stands : StandsFor d g (lines place) sites

-- the first fault of a size
abbrev pub IsSizeFault : Netlist → GridShape → GridFault → Type 0
IsSizeFault d g SizeOutOfRange = ¬ AreLimits g.nx g.ny g.io_rat
IsSizeFault d g TooFewLogicSites = AreLimits g.nx g.ny g.io_rat × (¬ HasLogicSites g (logic_count d))
IsSizeFault d g TooFewPadSites = AreLimits g.nx g.ny g.io_rat × HasLogicSites g (logic_count d) × (¬ HasPadSites g (pad_count d))

-- a fault of the placement text, when the other two mean this design: in its header, or after it if the array that the header gives holds
-- the design
abbrev pub IsPlaceFault : List ℕ → Netlist → ℕ → PlaceFault → Type 0
IsPlaceFault place d io_rat e =
    (size_fault (place_size_of (lines place)) ≡ Some e)
    ⊎ ((g : GridShape) × (g.io_rat ≡ io_rat) × (place_size_of (lines place) ≡ Some (g.nx, g.ny)) × FitsOn d g × (first_place_fault d g (lines place) ≡ Some e))

-- the first fault of an architecture text, or of the netlist that follows it, or a lack of memory
abbrev pub IsDesignFault : List ℕ → List ℕ → RunFault → Type 0
IsDesignFault arch net (Arch e) = first_arch_fault (lines arch) ≡ Some e
IsDesignFault arch net (Net e) = (io_rat : ℕ) × (pins : List PinKind) × IsArch (lines arch) io_rat pins × (first_net_fault pins (lines net) ≡ Some e)
IsDesignFault arch net NoMemory = Unit {0}
IsDesignFault arch net e = ⊥

-- the first check that fails. The fault of a report that cannot be written is returned only if the texts pass. Memory may run out for any
-- texts
abbrev pub FaultOf : List ℕ → List ℕ → List ℕ → RunFault → Type 0
FaultOf arch net place (Arch e) = IsDesignFault arch net (Arch e)
FaultOf arch net place (Net e) = IsDesignFault arch net (Net e)
FaultOf arch net place (Place e) = (io_rat : ℕ) × (d : Netlist) × MeanDesign arch net io_rat d × IsPlaceFault place d io_rat e
FaultOf arch net place (Size e) = (d : Netlist) × (g : GridShape) × GiveArray arch net place d g × IsSizeFault d g e
FaultOf arch net place Report = (d : Netlist) × (g : GridShape) × (sites : List Site) × AreChecked arch net place d g sites
FaultOf arch net place NoMemory = Unit {0}
FaultOf arch net place e = ⊥

-- the texts pass every check, and this is the cost and the report
pub record IsReport (arch net place : List ℕ) (cost : ℕ) (report : List ℕ) : Type 0 where
  pub design : Netlist
  pub grid : GridShape
  pub sites : List Site
  pub checked : AreChecked arch net place design grid sites
  pub value : cost ≡ cost_of design grid sites
  pub text : report ≡ check_report (length design.kinds) grid cost

-- what was written is the report
abbrev pub IsReported : List ℕ → List ℕ → List ℕ → ℕ → Option (List ℕ) → Option (List ℕ) → Type 0
IsReported arch net place cost old new = (report : List ℕ) × IsReport arch net place cost report × Appends old new report

-- what was written is a beginning of the report, but not all of it
abbrev pub IsCut : List ℕ → List ℕ → List ℕ → Option (List ℕ) → Option (List ℕ) → Type 0
IsCut arch net place old new = (cost : ℕ) × (report : List ℕ) × IsReport arch net place cost report × (n : ℕ) × (n < length report) × Appends old new (take n report)

-- the fault is not that of a writer
abbrev pub IsTextFault : RunFault → Type 0
IsTextFault (Place PlaceWrite) = ⊥
IsTextFault (Point PointWrite) = ⊥
IsTextFault Report = ⊥
IsTextFault e = Unit {0}

-- how often the writer of the report has failed, after a check or a run that ended with this fault: once more only if the fault is that
-- writer's
abbrev pub report_failed_with : RunFault → ℕ → ℕ
report_failed_with Report n = grown n
report_failed_with e n = n
