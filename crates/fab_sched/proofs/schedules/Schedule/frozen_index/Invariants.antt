use Rattle.std.proofs.Common.{◌≡◌, ◌+◌, ◌≤◌, Some}
use Rattle.fab_sched.specs.Annealing.{heat_by}
use Rattle.fab_sched.proofs.schedules.Schedule.frozen_index.Given as goal

abbrev pub invariant-stages : goal.invariant-stages
invariant-stages l = record { now : heat_by l.self l.factor l.index ≡ Some l.t; limit : l.index + l.t ≤ l.self.init }

abbrev pub decreases-stages : goal.decreases-stages
decreases-stages l = l.t
