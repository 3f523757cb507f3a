use Rattle.std.proofs.Common.{◌≡◌, ℕ, ◌+◌, ◌≤◌, List, length, map, take}
use Rattle.fab_net.specs.Names.{first_names}
use Rattle.fab_net.proofs.Room.{Grown}
use Rattle.fab_net.proofs.names.NetNames.count_new.Given as goal

abbrev pub invariant-loop-i : goal.invariant-loop-i
invariant-loop-i l = record {
  few : l.count ≤ l.i;
  grown : (names : List (List ℕ)) → l.self ≡ first_names names → length l.self + l.count ≡ Grown names (map (λ w. w.now) (take l.i l.words));
}
