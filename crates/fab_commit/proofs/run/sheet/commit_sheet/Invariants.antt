use Rattle.std.proofs.Common.{true}
use Rattle.fab_commit.specs.Run.Commits.{run_for}
use Rattle.fab_commit.specs.Run.Owners.{HasMadeFrom}
use Rattle.fab_commit.proofs.run.sheet.commit_sheet.Given as goal

abbrev pub invariant-loop-sight : goal.invariant-loop-sight
invariant-loop-sight g l = HasMadeFrom true (run_for g.W.Words.moves l.given) l.initial.owner l.base l.sight-index l.owner
