use Rattle.std.proofs.Common.{◌≡◌, drop}
use Rattle.fab_commit.specs.Model.World.{verdict_for}
use Rattle.fab_commit.proofs.model.claims.verdict_for.Given as goal

abbrev pub invariant-loop-verdict : goal.invariant-loop-verdict
invariant-loop-verdict l = verdict_for l.number (drop l.verdict-index l.verdicts) ≡ verdict_for l.number l.verdicts
