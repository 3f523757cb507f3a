use Rattle.std.proofs.Common.{◌≡◌, drop}
use Rattle.fab_cost.specs.Swapping.{BoxesStandFor}
use Rattle.fab_commit.specs.Run.Behind.{all_swapped}
use Rattle.fab_commit.specs.Run.Owners.{Leads}
use Rattle.fab_commit.proofs.run.behind.follow_post.Given as goal

abbrev pub invariant-loop-accepted : goal.invariant-loop-accepted
invariant-loop-accepted g l =
    let there = all_swapped l.initial.state.placement.sites l.post.swaps.items in
    record {
      array : l.state.placement.grid ≡ l.given.grid.now;
      cost : BoxesStandFor l.state.cost l.given.design.now l.given.grid.now l.state.placement.sites;
      leads : Leads l.given.grid.now l.state.placement.sites (drop l.accepted-index l.post.swaps.items) there;
    }
