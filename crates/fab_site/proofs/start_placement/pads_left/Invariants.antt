use Rattle.std.proofs.Common.{◌≡◌, map, take}
use Rattle.std.specs.List.{range_with_len, flat_map}
use Rattle.fab_arch.specs.Grid.{perimeter}
use Rattle.fab_site.specs.Placement.{site}
use Rattle.fab_site.specs.Start.{sites_left}
use Rattle.fab_site.proofs.start_placement.pads_left.Given as goal

abbrev pub invariant-loop-place : goal.invariant-loop-place
invariant-loop-place l = l.left.items ≡ sites_left l.given.sites (flat_map (λ at. map (λ sub. site at.0 at.1 sub) (range_with_len 0 l.grid.io_rat)) (take l.place (perimeter l.grid)))
