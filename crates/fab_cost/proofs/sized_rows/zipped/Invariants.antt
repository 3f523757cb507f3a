use Rattle.std.proofs.Common.{◌≡◌, take}
use Rattle.fab_cost.specs.SizedRows.{column}
use Rattle.fab_cost.proofs.sized_rows.zipped.Given as goal

abbrev pub invariant-rows : goal.invariant-rows
invariant-rows l = record {
  small : column 0 l.starts.items ≡ take l.r l.small;
  middle : column 1 l.starts.items ≡ take l.r l.middle;
  wide : column 2 l.starts.items ≡ take l.r l.wide;
  large : column 3 l.starts.items ≡ take l.r l.large;
}
