-- What the texts and numbers of a run mean (our own): a design, an array that holds it, the blocks that have a site before
-- the first move, and a schedule.
use Rattle.std.specs.Prelude.{ℕ, ◌≡◌, ◌≤◌, ◌⊎◌, true, List, Option, Some, None, length, option_copied}
use Rattle.fab_text.specs.Lines.{lines}
use Rattle.fab_arch.specs.declared.array.Site.{Site}
use Rattle.fab_arch.specs.Grid.{GridShape, IsLeastSquare}
use Rattle.fab_net.specs.Netlist.{Netlist, logic_count, pad_count}
use Rattle.fab_site.specs.Placement.{fixed_at}
use Rattle.fab_file.specs.Pinned.{IsLocated}
use Rattle.fab_file.specs.Written.{are_labels}
use Rattle.fab_sched.specs.Annealing.{Plan, IsLawful}
use Rattle.fab_sched.specs.Roots.{AreMoves}
use Rattle.fab_run.specs.declared.inputs.Inputs.{Inputs}
use Rattle.fab_run.specs.declared.inputs.Moves.{Moves}
use Rattle.fab_run.specs.declared.inputs.Moves.TheVariants.{Given, Inner}
use Rattle.fab_run.specs.declared.inputs.Options.{Options}
use Rattle.fab_run.specs.Check.{FitsOn, MeanDesign}

-- the texts of a run, and the file names that its place text shows
pub record Texts : Type 0 where
  pub arch : List ℕ
  pub net : List ℕ
  pub pads : Option (List ℕ)
  pub net_label : List ℕ
  pub arch_label : List ℕ

-- the texts and labels of a call
abbrev pub texts_of : Inputs → Texts
texts_of i =
    record {
      arch = i.arch.now;
      net = i.net.now;
      pads = option_copied i.pads;
      net_label = i.labels.net.now;
      arch_label = i.labels.arch.now;
    }

-- the array has the given size, or is the smallest square one that holds the design
abbrev pub IsSized : Option (ℕ × ℕ) → Netlist → GridShape → Type 0
IsSized None d g = IsLeastSquare g (logic_count d) (pad_count d) g.io_rat
IsSized (Some size) d g = (g.nx ≡ size.0) × (g.ny ≡ size.1)

-- the two texts mean this design, and it is placed on this array
pub record HasArray (t : Texts) (o : Options) (d : Netlist) (g : GridShape) : Type 0 where
  pub mean : MeanDesign t.arch t.net g.io_rat d
  pub size : IsSized o.size d g
  pub fits : FitsOn d g

-- the location text stands for these sites; without one no block has a site
abbrev pub ArePinned : Option (List ℕ) → Netlist → GridShape → List (Option Site) → List (Option Site) → Type 0
ArePinned None d g fixed begun = ((b : ℕ) → fixed_at fixed b ≡ None) × ((b : ℕ) → fixed_at begun b ≡ None)
ArePinned (Some text) d g fixed begun = IsLocated d g (lines text) fixed begun

-- blocks are fixed and begun at these sites of the array
pub record HasPins (t : Texts) (o : Options) (d : Netlist) (g : GridShape) (fixed begun : List (Option Site)) : Type 0 where
  pub array : HasArray t o d g
  pub pins : ArePinned t.pads d g fixed begun

-- n moves are requested for each stage of a design with this many blocks; 0 if VPR's rule gives no allowed number, and no schedule takes 0
abbrev pub AreStageMoves : Moves → ℕ → ℕ → Type 0
AreStageMoves (Given m) blocks n = n ≡ m
AreStageMoves (Inner inner) blocks n = AreMoves inner blocks n ⊎ (((m : ℕ) → ¬ AreMoves inner blocks m) × (n ≡ 0))

-- the requested schedule, lawful or not
pub record IsAskedPlan (o : Options) (blocks : ℕ) (p : Plan) : Type 0 where
  pub init : p.init ≡ o.init_t
  pub exit : p.exit ≡ o.exit_t
  pub cooling : p.cooling ≡ o.cooling
  pub moves : AreStageMoves o.moves blocks p.moves

-- what a run is given
pub record Setting : Type 0 where
  pub design : Netlist
  pub grid : GridShape
  pub fixed : List (Option Site)
  pub begun : List (Option Site)
  pub plan : Plan

-- texts and labels pass their checks, and this is the requested schedule
pub record HasPlan (t : Texts) (o : Options) (s : Setting) : Type 0 where
  pub pins : HasPins t o s.design s.grid s.fixed s.begun
  pub labels : are_labels t.net_label t.arch_label ≡ true
  pub plan : IsAskedPlan o (length s.design.kinds) s.plan

-- the number is at least 1 and at most this
abbrev pub Within : ℕ → ℕ → Type 0
Within most n = (1 ≤ n) × (n ≤ most)

-- every check passes, and the inputs mean this
pub record IsSetting (t : Texts) (o : Options) (s : Setting) : Type 0 where
  pub asked : HasPlan t o s
  pub lawful : IsLawful s.plan
  pub batch : Within 4096 o.batch
  pub workers : Within 64 o.workers

-- a setting of a design on an array, with given sites and a plan
abbrev pub setting_of : Netlist → GridShape → List (Option Site) → List (Option Site) → Plan → Setting
setting_of d g fixed begun plan = record { design = d; grid = g; fixed = fixed; begun = begun; plan = plan }
