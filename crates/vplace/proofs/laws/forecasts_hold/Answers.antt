use Rattle.vplace.proofs.Foreseen.{resumed_end_as_forecast, runs_end_as_forecast}
use Rattle.vplace.proofs.laws.forecasts_hold.Goals as goal

pub returns-clause-runs : goal.returns-clause-runs
returns-clause-runs c = runs_end_as_forecast

pub returns-clause-resumed : goal.returns-clause-resumed
returns-clause-resumed c = resumed_end_as_forecast
