use Rattle.std.proofs.Common.{◌≡◌, ◌+◌, ◌≤◌, drop}
use Rattle.fab_site.specs.Start.{drawing}
use Rattle.fab_site.proofs.start_placement.count_of_draws.Given as goal

abbrev pub invariant-blocks-2 : goal.invariant-blocks-2
invariant-blocks-2 l = record {
  few : l.count ≤ l.number;
  count : l.count + drawing (drop l.number l.given.sites) (drop l.number l.design.kinds) ≡ drawing l.given.sites l.design.kinds;
}
