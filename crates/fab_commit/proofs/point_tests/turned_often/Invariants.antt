use Rattle.std.proofs.Common.{◌≡◌}
use Rattle.fab_commit.proofs.point_tests.turned_often.Given as goal

abbrev pub invariant-turns : goal.invariant-turns
invariant-turns g l =
    record {
      design : l.anneal.design ≡ l.initial.anneal.design;
      grid : l.anneal.grid ≡ l.initial.anneal.grid;
    }
