-- What a run leaves after its answer, and where it is put (our own).
use Rattle.std.specs.Prelude.{ℕ, true, ◌≡◌, ◌⊎◌, List, [], Option, Some, None, codes, option_copied, refl}
use Rattle.fab_run.specs.declared.inputs.Ending.{Ending}
use Rattle.fab_run.specs.declared.inputs.Ending.TheVariants.{Finished, Stopped}
use Rattle.fab_text.specs.Failures.{grown}
use Rattle.fab_text.specs.Lines.{lines}
use Rattle.fab_net.specs.Netlist.{Netlist}
use Rattle.fab_commit.specs.declared.run.point.Point.{Point as PointOf}
use Rattle.fab_run.specs.Check.{MeanDesign}
use Rattle.fab_run.specs.PointMeaning.{StandsForPoint}
use Rattle.fab_run.specs.PointText.{point_text}
use Rattle.fab_run.specs.Ends.{Answer, Piece}
use Rattle.fab_run.specs.Placed.{IsPlaced}
use Rattle.fab_run.specs.Setting.{Texts}
use Rattle.vplace.specs.declared.forecast.Forecast.{Forecast}
use Rattle.vplace.specs.declared.forecast.Forecast.TheVariants.{Finishes}
use Rattle.vplace.specs.declared.messages.OutRole.{OutRole}
use Rattle.vplace.specs.declared.messages.OutRole.TheVariants.{Place, Point}
use Rattle.vplace.specs.declared.out_names.OutNames.{OutNames}
use Rattle.vplace.specs.Files.{Held, IsShut, Puts, Shut}
use Rattle.vplace.specs.Forecasts.{may_leave}
use Rattle.vplace.specs.Said.{report_line, unwritable_line}

-- the name that a checkpoint goes to: the save name, which is given if a run can stop
abbrev pub save_or_out : List ℕ → Option (List ℕ) → List ℕ
save_or_out out (Some save) = save
save_or_out out None = out

-- the same for names that are lent
abbrev pub point_name : OutNames → List ℕ
point_name n = save_or_out n.out.now (option_copied n.save)

pub a_checkpoint_goes_to_the_save_name : save_or_out (codes "t.place") (Some (codes "t.point")) ≡ codes "t.point"
a_checkpoint_goes_to_the_save_name = refl

-- the name of the file of a role
abbrev pub name_for : List ℕ → Option (List ℕ) → OutRole → List ℕ
name_for out save Place = out
name_for out save Point = save_or_out out save

-- what is known of the files of a run before its first move: the out name, the save name if there is one, how the run ends as far as
-- that is known, and which names no bytes can be put at
pub record OutPlan : Type 0 where
  pub out : List ℕ
  pub save : Option (List ℕ)
  pub forecast : Forecast
  pub shut : Option Shut

-- the names of a call, what it may leave, and which names are shut
abbrev pub plan_for : List ℕ → Option (List ℕ) → Forecast → Option Shut → OutPlan
plan_for out save f shut = record { out = out; save = save; forecast = f; shut = shut }

-- the same for names that are lent
abbrev pub plan_of : OutNames → Forecast → Option Shut → OutPlan
plan_of n f shut = plan_for n.out.now (option_copied n.save) f shut

-- a plan for a type that no run uses
abbrev pub no_plan : OutPlan
no_plan = plan_for [] None Finishes None

-- the run may leave a file of this role, and no bytes can be put at its name
abbrev pub IsShutFor : OutPlan → OutRole → Type 0
IsShutFor p role = (may_leave p.forecast role ≡ true) × IsShut p.shut (name_for p.out p.save role)

-- a file that the run may leave by its forecast cannot be written, and that is printed
abbrev pub IsTriedInVain : (Forecast → Type 0) → List ℕ → Option (List ℕ) → Option Shut → (List ℕ → Type 0) → Type 0
IsTriedInVain IsOf out save shut Said =
    (f : Forecast) × IsOf f × (role : OutRole) × IsShutFor (plan_for out save f shut) role × Said (unwritable_line role)

-- what a run leaves: its placement if it finished, its checkpoint if it stopped
abbrev pub role_by : Ending → OutRole
role_by Finished = Place
role_by (Stopped q) = Point

-- what a run left cannot be put at its name, and that is printed
abbrev pub IsPutInVain : (Answer → List ℕ → Type 0) → List ℕ → Option (List ℕ) → Option Shut → (List ℕ → Type 0) → Type 0
IsPutInVain IsAnswer out save shut Said =
    (a : Answer) × (place : List ℕ) × IsAnswer a place × IsShut shut (name_for out save (role_by a.ending)) × Said (unwritable_line (role_by a.ending))

-- a device failed in a run, and that is printed: the report's writer; or a name that the run may need by its forecast; or the name of what
-- it left. No clause says when a name was tried
abbrev pub IsDeviceTold : (Forecast → Type 0) → (Answer → List ℕ → Type 0) → List ℕ → Option (List ℕ) → Option Shut → ℕ → ℕ → (List ℕ → Type 0) → Type 0
IsDeviceTold IsOf IsAnswer out save shut failed_old failed_new Said =
    ((failed_new ≡ grown failed_old) × Said report_line)
    ⊎ (IsTriedInVain IsOf out save shut Said ⊎ IsPutInVain IsAnswer out save shut Said)

-- the text of a point of a run with this seed, of the design that the texts mean; it stands for the point
pub record IsPointText (t : Texts) (seed : ℕ) (q : PointOf) (text : List ℕ) : Type 0 where
  pub design : Netlist
  pub mean : MeanDesign t.arch t.net q.placement.grid.io_rat design
  pub exact : text ≡ point_text seed design q.placement.grid q
  pub stands : StandsForPoint q.placement.grid.io_rat design (lines text) seed q.placement.grid q

-- if a run stopped, this is the text of its point; if it finished, there is none
abbrev pub IsCheckpoint : Texts → ℕ → Ending → Option (List ℕ) → Type 0
IsCheckpoint t seed Finished text = text ≡ None
IsCheckpoint t seed (Stopped q) None = ⊥
IsCheckpoint t seed (Stopped q) (Some text) = IsPointText t seed q text

-- the report of the requested piece was written, and this is the text of its placement if it finished, and the text of its point if it
-- stopped
abbrev pub AreLeft : (Piece → Type 0) → Texts → ℕ → Option (List ℕ) → Option (List ℕ) → List ℕ → Option (List ℕ) → Type 0
AreLeft Asked t seed old new place point =
    (a : Answer) × IsPlaced Asked t a old new (Some []) (Some place) × IsCheckpoint t seed a.ending point

-- what a run left was put at its name: the text of its placement at the out name if it finished, the text of its point at the save name if
-- it stopped
abbrev pub IsPut : Option Held → Option Held → List ℕ → Option (List ℕ) → Texts → ℕ → Ending → List ℕ → Type 0
IsPut held held_new out save t seed Finished place = Puts held held_new out place
IsPut held held_new out save t seed (Stopped q) place =
    (name : List ℕ) × (point : List ℕ) × (save ≡ Some name) × IsPointText t seed q point × Puts held held_new name point
