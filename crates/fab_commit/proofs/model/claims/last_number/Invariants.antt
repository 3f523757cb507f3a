use Rattle.std.proofs.Common.{◌≡◌, drop}
use Rattle.fab_commit.specs.Model.Worlds.{last_among}
use Rattle.fab_commit.proofs.model.claims.last_number.Given as goal

abbrev pub invariant-loop-verdict : goal.invariant-loop-verdict
invariant-loop-verdict l = last_among l.worker l.verdicts (drop l.verdict-index l.verdicts) ≡ last_among l.worker l.verdicts l.verdicts
