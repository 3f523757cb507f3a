use Rattle.std.proofs.Common.{◌≡◌, ℕ, ◌+◌, ◌-◌, ◌≤◌, true, Some}
use Rattle.fab_commit.specs.Run.ByTurns.{LeadsByTurns}
use Rattle.fab_commit.specs.Run.Commits.{IsSameRun, run_of}
use Rattle.fab_commit.specs.Run.Readings.{HasShown}
use Rattle.fab_run.proofs.Telling.{HasTold, warmth}
use Rattle.fab_run.proofs.stages.anneal_all.Given as goal

abbrev pub invariant-loop-stage : goal.invariant-loop-stage
invariant-loop-stage g l =
    let x = l.initial.anneal.standing in
    record {
      same : IsSameRun l.initial.anneal l.anneal;
      turns : g.K.Keeping.again ≡ true → LeadsByTurns (run_of g.V.Words.moves l.initial.anneal) l.pace.batch l.initial.anneal l.anneal;
      at : HasTold (run_of g.V.Words.moves l.initial.anneal) x l.anneal.standing l.initial.anneal.accepted l.anneal.accepted l.initial.costs.items l.costs.items (g.W.Sink.contents l.initial.report) (g.W.Sink.contents l.report) (l.anneal.standing.done - x.done);
      dial : l.shower.dial ≡ l.initial.shower.dial;
      shown : HasShown (run_of g.V.Words.moves l.initial.anneal) l.pace.batch x l.initial.shower.shown l.anneal.standing l.shower.shown;
      done : x.done ≤ l.anneal.standing.done;
      passed : (m : ℕ) → l.pace.stop ≡ Some (x.done + m) → l.anneal.standing.done - x.done ≤ m;
      sound : g.W.Sink.failed l.report ≡ g.W.Sink.failed l.initial.report;
    }

abbrev pub decreases-loop-stage : goal.decreases-loop-stage
decreases-loop-stage g l = warmth l.anneal.standing.heat
