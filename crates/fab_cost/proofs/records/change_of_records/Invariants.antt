use Rattle.std.proofs.Common.{◌≡◌, ◌≤◌, ◌+◌, ◌*◌, ◌^◌, take}
use Rattle.std.specs.List.{sum_by}
use Rattle.fab_cost.specs.Runs.{seen_in, weight}
use Rattle.fab_cost.proofs.records.change_of_records.Given as goal

abbrev pub invariant-run : goal.invariant-run
invariant-run g l = record {
  balance : l.gained + sum_by (weight (seen_in l.table l.moved.block l.moved.place) l.target) (take l.i l.records) ≡ 4004 * l.factors + sum_by (weight (seen_in l.table l.moved.block l.moved.place) l.base) (take l.i l.records);
  gained_few : l.gained ≤ l.i * 2 ^ 29;
  factors_few : l.factors ≤ l.i * 2 ^ 16;
}
