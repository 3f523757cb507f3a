use Rattle.std.proofs.Common.{◌≡◌, ◌-◌, map}
use Rattle.std.specs.List.{range_with_len, flat_map}
use Rattle.fab_site.specs.Placement.{site}
use Rattle.fab_site.specs.Start.{sites_left}
use Rattle.fab_site.proofs.start_placement.logic_left.Given as goal

abbrev pub invariant-loop-y : goal.invariant-loop-y
invariant-loop-y l = l.left.items ≡ sites_left l.given.sites (flat_map (λ y. map (λ x. site x y 0) (range_with_len 1 l.grid.nx)) (range_with_len 1 (l.y - 1)))
