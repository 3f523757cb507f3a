use Rattle.vplace.specs.Forecasts.{forecast_in}
use Rattle.vplace.specs.Leaving.{plan_of}
use Rattle.vplace.proofs.place_command.place_texts.Given as goal

abbrev pub ghosts-place_kept : goal.ghosts-place_kept
ghosts-place_kept g a = record { plan = plan_of a.environment.now.names (forecast_in a.kept.now) (g.F.NamedFiles.shut a.environment.now.files.now) }
