-- What a resumed run starts from (our own), and which of its checks fails first: in the order architecture, netlist, checkpoint text,
-- labels, batch, workers.
use Rattle.std.specs.Prelude.{ℕ, ◌≡◌, false, true, List}
use Rattle.fab_text.specs.Lines.{lines}
use Rattle.fab_arch.specs.Grid.{GridShape}
use Rattle.fab_net.specs.Netlist.{Netlist}
use Rattle.fab_file.specs.declared.fault.PlaceFault.TheVariants.{BadLabel, Write}
use Rattle.fab_file.specs.Written.{are_labels}
use Rattle.fab_commit.specs.declared.run.point.Point.{Point}
use Rattle.fab_run.specs.declared.fault.RunFault.{RunFault}
use Rattle.fab_run.specs.declared.fault.RunFault.TheVariants.{Arch, Net, Place, Point as PointRole, BatchOutOfRange, WorkersOutOfRange, Report, NoMemory}
use Rattle.fab_run.specs.Check.{IsDesignFault, MeanDesign}
use Rattle.fab_run.specs.PointFaults.{IsFirstFault}
use Rattle.fab_run.specs.PointMeaning.{StandsForPoint}
use Rattle.fab_run.specs.RunChecks.{IsThreadFault}
use Rattle.fab_run.specs.Setting.{Texts, Within}

-- a design, an array, a seed, and a point of a run of these
pub record Going : Type 0 where
  pub design : Netlist
  pub grid : GridShape
  pub seed : ℕ
  pub point : Point

-- the two texts mean the design, and the checkpoint text stands for the rest
pub record HasPoint (t : Texts) (point : List ℕ) (s : Going) : Type 0 where
  pub mean : MeanDesign t.arch t.net s.grid.io_rat s.design
  pub stands : StandsForPoint s.grid.io_rat s.design (lines point) s.seed s.grid s.point

-- every check passes, and the texts mean this
pub record IsGoing (t : Texts) (point : List ℕ) (batch workers : ℕ) (s : Going) : Type 0 where
  pub text : HasPoint t point s
  pub labels : are_labels t.net_label t.arch_label ≡ true
  pub batch_fits : Within 4096 batch
  pub workers_fit : Within 64 workers

-- the texts pass their checks
abbrev pub HasSomePoint : Texts → List ℕ → Type 0
HasSomePoint t point = (s : Going) × HasPoint t point s

-- texts, labels and numbers pass their checks
abbrev pub MayGoOn : Texts → List ℕ → ℕ → ℕ → Type 0
MayGoOn t point batch workers = (s : Going) × IsGoing t point batch workers s

-- the first fault of the texts, or a lack of memory to read them
abbrev pub IsGoingTextFault : Texts → List ℕ → RunFault → Type 0
IsGoingTextFault t point (Arch e) = IsDesignFault t.arch t.net (Arch e)
IsGoingTextFault t point (Net e) = IsDesignFault t.arch t.net (Net e)
IsGoingTextFault t point (PointRole e) = (io_rat : ℕ) × (d : Netlist) × MeanDesign t.arch t.net io_rat d × IsFirstFault io_rat d (lines point) e
IsGoingTextFault t point NoMemory = Unit {0}
IsGoingTextFault t point e = ⊥

-- the first check after the texts that fails
abbrev pub IsGoingNumberFault : Texts → ℕ → ℕ → RunFault → Type 0
IsGoingNumberFault t batch workers (Place BadLabel) = are_labels t.net_label t.arch_label ≡ false
IsGoingNumberFault t batch workers BatchOutOfRange = (are_labels t.net_label t.arch_label ≡ true) × IsThreadFault batch workers BatchOutOfRange
IsGoingNumberFault t batch workers WorkersOutOfRange = (are_labels t.net_label t.arch_label ≡ true) × IsThreadFault batch workers WorkersOutOfRange
IsGoingNumberFault t batch workers e = ⊥

-- the first check that fails. A failure to write the report or the place text is returned only if no check fails. Memory may run out for
-- any inputs
abbrev pub IsGoingFault : Texts → List ℕ → ℕ → ℕ → RunFault → Type 0
IsGoingFault t point batch workers (Arch e) = IsGoingTextFault t point (Arch e)
IsGoingFault t point batch workers (Net e) = IsGoingTextFault t point (Net e)
IsGoingFault t point batch workers (PointRole e) = IsGoingTextFault t point (PointRole e)
IsGoingFault t point batch workers (Place Write) = MayGoOn t point batch workers
IsGoingFault t point batch workers (Place e) = HasSomePoint t point × IsGoingNumberFault t batch workers (Place e)
IsGoingFault t point batch workers BatchOutOfRange = HasSomePoint t point × IsGoingNumberFault t batch workers BatchOutOfRange
IsGoingFault t point batch workers WorkersOutOfRange = HasSomePoint t point × IsGoingNumberFault t batch workers WorkersOutOfRange
IsGoingFault t point batch workers Report = MayGoOn t point batch workers
IsGoingFault t point batch workers NoMemory = Unit {0}
IsGoingFault t point batch workers e = ⊥
