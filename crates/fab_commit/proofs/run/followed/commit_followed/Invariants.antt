use Rattle.std.proofs.Common.{◌≡◌, ◌-◌, ◌≤◌, true}
use Rattle.fab_commit.specs.Run.Commits.{run_for}
use Rattle.fab_commit.specs.Run.Owners.{HasMadeFrom}
use Rattle.fab_commit.proofs.run.followed.commit_followed.Given as goal

abbrev pub invariant-loop-made : goal.invariant-loop-made
invariant-loop-made g l =
    record {
      low : l.made ≤ l.ahead.moves;
      same : l.followers ≡ l.initial.followers;
      has : HasMadeFrom true (run_for g.W.Words.moves l.given) l.initial.owner l.ahead.base l.made l.owner;
    }

abbrev pub decreases-loop-made : goal.decreases-loop-made
decreases-loop-made g l = l.ahead.moves - l.made
