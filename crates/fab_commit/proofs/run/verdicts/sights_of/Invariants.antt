use Rattle.std.proofs.Common.{◌≡◌, ℕ, ◌+◌, ◌<◌, length, get_or}
use Rattle.fab_commit.specs.declared.run.foreseen.Foreseen.{Foreseen}
use Rattle.fab_commit.specs.Serial.{Standing}
use Rattle.fab_commit.specs.Run.Commits.{run_for}
use Rattle.fab_commit.specs.Run.Followed.{IsTied}
use Rattle.fab_commit.specs.Run.Foreseen.{IsForeseen}
use Rattle.fab_commit.proofs.run.verdicts.sights_of.Given as goal

abbrev pub invariant-moves : goal.invariant-moves
invariant-moves g l =
    let r = run_for g.W.Words.moves l.given in
    record {
      same : l.followers ≡ l.fn.followers;
      many : length l.sights.items ≡ l.i;
      each : (x : Standing) → IsTied g.S.Pursue.run g.S.Pursue.standing g.S.Follow.after g.J.Origin.start l.fn.followers.1 r x → (j : ℕ) (d : Foreseen) → j < l.i → IsForeseen r x (l.range.first + j) (get_or l.sights.items j d);
    }
