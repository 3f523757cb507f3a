use Rattle.std.proofs.Common.{◌≡◌, ◌++◌, map}
use Rattle.std.specs.List.{range_with_len}
use Rattle.fab_site.specs.Placement.{site}
use Rattle.fab_site.specs.Start.{sites_left}
use Rattle.fab_site.proofs.start_placement.push_position.Given as goal

abbrev pub invariant-loop-sub : goal.invariant-loop-sub
invariant-loop-sub l = l.left.items ≡ l.initial.left.items ++ sites_left l.given.sites (map (λ sub. site l.at.0 l.at.1 sub) (range_with_len 0 l.sub))
