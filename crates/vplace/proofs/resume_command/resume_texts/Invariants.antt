use Rattle.vplace.specs.Forecasts.{forecast_in}
use Rattle.vplace.specs.Leaving.{plan_of}
use Rattle.vplace.proofs.resume_command.resume_texts.Given as goal

abbrev pub ghosts-resume_kept : goal.ghosts-resume_kept
ghosts-resume_kept g a = record { plan = plan_of a.environment.now.names (forecast_in a.kept.now) (g.F.NamedFiles.shut a.environment.now.files.now) }
