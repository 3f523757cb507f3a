use Rattle.std.proofs.Common.{◌≡◌, ◌++◌, map}
use Rattle.std.specs.List.{flat_map, range_with_len}
use Rattle.fab_file.specs.Written.{ended, block_line}
use Rattle.fab_file.proofs.writing.push_blocks.Given as goal

abbrev pub invariant-loop-b : goal.invariant-loop-b
invariant-loop-b l = l.text.items ≡ l.fn.text.items ++ flat_map ended (map (block_line l.design l.placement.sites) (range_with_len 0 l.b))
