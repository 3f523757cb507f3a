-- A run ends only as it is forecast (our own).
use Rattle.std.specs.Prelude.{ℕ, true, ◌≡◌, List, Option}
use Rattle.fab_commit.specs.Run.Points.{done_at}
use Rattle.fab_run.specs.declared.inputs.Options.{Options}
use Rattle.fab_run.specs.Ends.{Answer}
use Rattle.fab_run.specs.Going.{Going, IsGoing}
use Rattle.fab_run.specs.Placed.{AskFor, AskToGoOn, IsPlaced}
use Rattle.fab_run.specs.Setting.{IsSetting, Setting, Texts}
use Rattle.vplace.specs.declared.forecast.Forecast.{Forecast}
use Rattle.vplace.specs.Forecasts.{IsForecast, may_leave}
use Rattle.vplace.specs.Leaving.{role_by}

-- what a run leaves is a file that its forecast allows: no checkpoint if it is forecast to finish, no placement if it is forecast to stop
abbrev pub RunsEndAsForecast : Type 0
RunsEndAsForecast =
    (t : Texts) (o : Options) (s : Setting) (f : Forecast) (a : Answer) (old new place_old place_new : Option (List ℕ))
    → IsSetting t o s → IsForecast s.plan 0 o.stop f → IsPlaced (AskFor t o) t a old new place_old place_new
    → may_leave f (role_by a.ending) ≡ true

-- the same for a run that goes on from a point, forecast from the moves that are made there
abbrev pub ResumedEndAsForecast : Type 0
ResumedEndAsForecast =
    (t : Texts) (point : List ℕ) (batch workers : ℕ) (stop : Option ℕ) (s : Going) (f : Forecast) (a : Answer) (old new place_old place_new : Option (List ℕ))
    → IsGoing t point batch workers s → IsForecast s.point.schedule (done_at s.point) stop f → IsPlaced (AskToGoOn t point batch workers stop) t a old new place_old place_new
    → may_leave f (role_by a.ending) ≡ true
