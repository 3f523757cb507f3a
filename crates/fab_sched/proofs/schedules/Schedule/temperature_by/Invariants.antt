use Rattle.std.proofs.Common.{◌≡◌, ◌≤◌, Some}
use Rattle.fab_sched.specs.Annealing.{heat_by}
use Rattle.fab_sched.proofs.schedules.Schedule.temperature_by.Given as goal

abbrev pub invariant-stages : goal.invariant-stages
invariant-stages l = record { now : heat_by l.self l.factor l.index ≡ Some l.t; limit : l.t ≤ l.self.init }
