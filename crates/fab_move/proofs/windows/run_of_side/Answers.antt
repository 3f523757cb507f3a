use Rattle.std.proofs.Common.{◌≡◌, false, rules}
use Rattle.fab_move.specs.Propose.{within}
use Rattle.fab_move.proofs.Nearby.{side_none}
use Rattle.fab_move.proofs.windows.run_of_side.Goals as goal

pub returns-then-not-are_near : goal.returns-then-not-are_near
returns-then-not-are_near c =
    let far : within c.args.reach c.args.across c.args.side ≡ false = search rules in
    side_none c.args.reach c.args.across c.args.side c.args.along c.args.n far
