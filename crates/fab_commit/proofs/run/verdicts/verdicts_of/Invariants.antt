use Rattle.std.proofs.Common.{◌≡◌, ℕ, ◌+◌, ◌<◌, length, get_or}
use Rattle.fab_move.specs.declared.verdicts.Verdict.{Verdict as Answer}
use Rattle.fab_commit.specs.Serial.{Standing}
use Rattle.fab_commit.specs.Run.Commits.{run_for}
use Rattle.fab_commit.specs.Run.Foreseen.{AreForeseen}
use Rattle.fab_commit.proofs.RunLemmas.Pipelining.{IsAnswer}
use Rattle.fab_commit.proofs.run.verdicts.verdicts_of.Given as goal

abbrev pub invariant-moves : goal.invariant-moves
invariant-moves g l =
    let r = run_for g.W.Words.moves l.given in
    record {
      many : length l.verdicts.items ≡ l.i;
      each : (x : Standing) → AreForeseen r x l.first l.sights → (j : ℕ) (d : Answer) → j < l.i → IsAnswer r x (l.first + j) (get_or l.verdicts.items j d);
    }
