use Rattle.std.proofs.Common.{◌≡◌, ℕ, ◌+◌, ◌<◌, length, slice_index_or}
use Rattle.fab_commit.specs.declared.run.foreseen.Foreseen.{Foreseen}
use Rattle.fab_commit.specs.Run.Commits.{run_for, standing_of}
use Rattle.fab_commit.specs.Run.Foreseen.{IsForeseen}
use Rattle.fab_commit.proofs.run.behind.BehindFollowPostForeseen.judge.Given as goal

abbrev pub invariant-places : goal.invariant-places
invariant-places g l =
    record {
      many : length l.places ≡ length l.fn.places;
      each : (k : ℕ) (d : Foreseen) → k < l.i → IsForeseen (run_for g.W.Words.moves l.given) (standing_of l.state) (l.first + k) (slice_index_or l.places k d);
    }
