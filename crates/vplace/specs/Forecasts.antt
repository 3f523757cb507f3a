-- How a piece of a run with a stop ends, as far as its schedule determines that before the first move (our own).
use Rattle.std.specs.Prelude.{ℕ, Bool, true, false, ◌≡◌, ◌+◌, ◌*◌, ◌||◌, nat_lt, nat_le, if◌then◌else◌, Option, Some, None, refl}
use Rattle.fab_sched.specs.declared.schedules.Cooling.{Cooling}
use Rattle.fab_sched.specs.declared.schedules.Cooling.TheVariants.{Factor, Adaptive}
use Rattle.fab_sched.specs.Annealing.{IsLastIndex, Plan}
use Rattle.vplace.specs.declared.forecast.Forecast.{Forecast}
use Rattle.vplace.specs.declared.forecast.Forecast.TheVariants.{Finishes, Stops, Either}
use Rattle.vplace.specs.declared.kept.Kept.{Kept}
use Rattle.vplace.specs.declared.messages.OutRole.{OutRole}
use Rattle.vplace.specs.declared.messages.OutRole.TheVariants.{Place, Point}

-- with a stop before the last move: a factor gives the number of moves, acceptance does not
abbrev pub before_the_last : Cooling → Forecast
before_the_last (Factor f) = Stops
before_the_last Adaptive = Either

-- the forecast of a piece that begins after `done` moves of a run of at most `most` moves
abbrev pub forecast_of : Cooling → ℕ → ℕ → ℕ → Forecast
forecast_of cooling most done stop = if nat_lt stop done || nat_le most stop then Finishes else before_the_last cooling

pub stop_at_the_last_move : forecast_of (Factor 500) 15 0 15 ≡ Finishes
stop_at_the_last_move = refl

pub stop_before_the_last_move : forecast_of (Factor 500) 15 0 14 ≡ Stops
stop_before_the_last_move = refl

pub stop_before_the_beginning : forecast_of Adaptive 15 5 4 ≡ Finishes
stop_before_the_beginning = refl

pub stop_by_acceptance : forecast_of Adaptive 15 5 5 ≡ Either
stop_by_acceptance = refl

-- the forecast of a piece of a run by the schedule; a run has at most the moves of all stages that there can be
abbrev pub IsForecast : Plan → ℕ → Option ℕ → Forecast → Type 0
IsForecast p done None f = f ≡ Finishes
IsForecast p done (Some stop) f = (last : ℕ) × IsLastIndex p last × (f ≡ forecast_of p.cooling ((last + 1) * p.moves) done stop)

-- a piece of this forecast may leave a file of this role: a placement if it finishes, a checkpoint if it stops
abbrev pub may_leave : Forecast → OutRole → Bool
may_leave Finishes Point = false
may_leave Stops Place = false
may_leave f role = true

-- how a run ends, as far as what it keeps shows that. A run without a stop keeps nothing, and finishes
abbrev pub forecast_in : Option Kept → Forecast
forecast_in None = Finishes
forecast_in (Some k) = k.forecast
