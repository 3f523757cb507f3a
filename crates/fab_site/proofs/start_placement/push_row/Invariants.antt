use Rattle.std.proofs.Common.{◌≡◌, ◌++◌, ◌-◌, map}
use Rattle.std.specs.List.{range_with_len}
use Rattle.fab_site.specs.Placement.{site}
use Rattle.fab_site.specs.Start.{sites_left}
use Rattle.fab_site.proofs.start_placement.push_row.Given as goal

abbrev pub invariant-loop-x : goal.invariant-loop-x
invariant-loop-x l = l.left.items ≡ l.initial.left.items ++ sites_left l.given.sites (map (λ x. site x l.y 0) (range_with_len 1 (l.x - 1)))
