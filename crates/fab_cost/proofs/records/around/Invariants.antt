use Rattle.std.proofs.Common.{◌≡◌, take}
use Rattle.fab_cost.specs.Runs.{least_among, seen_in}
use Rattle.fab_cost.proofs.records.around.Given as goal

abbrev pub invariant-others : goal.invariant-others
invariant-others g l = l.all ≡ least_among (seen_in l.table l.moved.block l.moved.place) (take l.i l.net.others)
