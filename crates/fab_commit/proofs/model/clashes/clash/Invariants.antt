use Rattle.std.proofs.Common.{◌≡◌, drop}
use Rattle.fab_commit.specs.Model.World.{clash}
use Rattle.fab_commit.proofs.model.clashes.clash.Given as goal

abbrev pub invariant-loop-entry : goal.invariant-loop-entry
invariant-loop-entry l = clash l.design (drop l.entry-index l.accepted) l.base l.marks ≡ clash l.design l.accepted l.base l.marks
