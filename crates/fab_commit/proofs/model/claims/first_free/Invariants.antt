use Rattle.std.proofs.Common.{◌≡◌, ◌-◌}
use Rattle.std.specs.List.{range_with_len}
use Rattle.fab_commit.specs.Model.World.{first_free}
use Rattle.fab_commit.proofs.model.claims.first_free.Given as goal

abbrev pub invariant-loop-number : goal.invariant-loop-number
invariant-loop-number l = first_free l.claims l.verdicts (range_with_len l.number (l.to - l.number)) ≡ first_free l.claims l.verdicts (range_with_len l.from (l.to - l.from))
