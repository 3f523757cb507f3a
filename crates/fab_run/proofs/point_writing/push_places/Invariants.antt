use Rattle.std.proofs.Common.{◌≡◌, ◌++◌, map}
use Rattle.std.specs.List.{flat_map, range_with_len}
use Rattle.fab_file.specs.Written.{ended}
use Rattle.fab_run.specs.PointText.{place_line}
use Rattle.fab_run.proofs.point_writing.push_places.Given as goal

abbrev pub invariant-loop-b : goal.invariant-loop-b
invariant-loop-b l = l.text.items ≡ l.initial.text.items ++ flat_map ended (map (place_line l.design l.placement.sites) (range_with_len 0 l.b))
