-- What a run that ends with a fault leaves (our own).
use Rattle.std.specs.Prelude.{ℕ, ◌≡◌, ◌≢◌, ◌⊎◌, Bool, List, Option}
use Rattle.fab_dial.specs.declared.readings.Reading.{Reading}
use Rattle.fab_file.specs.declared.fault.PlaceFault.TheVariants.{Write}
use Rattle.fab_run.specs.declared.fault.RunFault.{RunFault}
use Rattle.fab_run.specs.declared.fault.RunFault.TheVariants.{Place, Report}
use Rattle.fab_run.specs.Ends.{Piece}
use Rattle.fab_run.specs.Placed.{IsPlaceCut, IsReportBegun, IsReportCut}
use Rattle.fab_run.specs.RunChecks.{IsRefusal}
use Rattle.fab_run.specs.Setting.{Texts}
use Rattle.fab_run.specs.Shown.{HaveShownInPart}

-- what it has written
pub record IsCutShort (Asked : Piece → Type 0) (t : Texts) (may_be_unready : Bool) (report_old report_new place_old place_new : Option (List ℕ)) (e : RunFault) : Type 0 where
  -- A refused run writes nothing.
  pub silent : IsRefusal e → report_new ≡ report_old
  -- Any other leaves a beginning of the report, and not the whole report if its writer failed.
  pub begun : (report_new ≡ report_old) ⊎ IsReportBegun Asked report_old report_new
  pub report : e ≡ Report → IsReportCut Asked report_old report_new
  -- The place text is written after the whole report, and only its own writer can cut it short; if that is not ready, no move is made.
  pub unplaced : e ≢ Place Write → place_new ≡ place_old
  pub place : e ≡ Place Write → IsPlaceCut may_be_unready Asked t report_old report_new place_old place_new

-- what it has shown on a dial
pub record IsShownShort (Asked : Piece → Type 0) (batch : ℕ) (old new : List Reading) (e : RunFault) : Type 0 where
  -- A refused run shows nothing.
  pub unshown : IsRefusal e → new ≡ old
  -- Any other shows a beginning of its readings.
  pub begun : (new ≡ old) ⊎ HaveShownInPart Asked batch old new
