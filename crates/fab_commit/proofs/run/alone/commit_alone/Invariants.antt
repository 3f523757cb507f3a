use Rattle.std.proofs.Common.{◌≡◌, ◌-◌, ◌≤◌, eqb, not, length}
use Rattle.fab_commit.specs.Run.Commits.{run_for}
use Rattle.fab_commit.specs.Run.Owners.{HasMadeFrom}
use Rattle.fab_commit.proofs.run.alone.commit_alone.Given as goal

abbrev pub invariant-loop-made : goal.invariant-loop-made
invariant-loop-made g l =
    record {
      low : l.made ≤ l.due.moves;
      long : length l.ready.words ≡ 32;
      has : HasMadeFrom (not (eqb g.row.COUNTED 0)) (run_for g.W.Words.moves l.given) l.initial.owner l.due.base l.made l.owner;
    }

abbrev pub decreases-loop-made : goal.decreases-loop-made
decreases-loop-made g l = l.due.moves - l.made

abbrev pub invariant-moves : goal.invariant-moves
invariant-moves g l = HasMadeFrom (not (eqb g.row.COUNTED 0)) (run_for g.W.Words.moves l.given) l.initial.owner l.due.base l.i l.owner
