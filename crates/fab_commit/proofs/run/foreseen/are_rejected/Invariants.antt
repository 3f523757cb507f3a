use Rattle.std.proofs.Common.{◌≡◌, ℕ, ◌<◌, true, false, get_or}
use Rattle.fab_commit.specs.declared.run.foreseen.Foreseen.{Foreseen}
use Rattle.fab_commit.proofs.run.foreseen.are_rejected.Given as goal

abbrev pub invariant-loop-sight : goal.invariant-loop-sight
invariant-loop-sight l =
    record {
      rejected : l.all ≡ true → (i : ℕ) (f : Foreseen) → i < l.sight-index → (get_or l.foreseen i f).accepted ≡ false;
      every : ((i : ℕ) (f : Foreseen) → i < l.sight-index → (get_or l.foreseen i f).accepted ≡ false) → l.all ≡ true;
    }
