use Rattle.std.proofs.Common.{◌≡◌, ◌+◌, ◌++◌, ◌∷◌, [], arith}
use Rattle.fab_site.specs.Placement.{site}
use Rattle.fab_site.specs.Start.{sites_left}
use Rattle.fab_site.proofs.Drawing.{left_step}
use Rattle.fab_site.proofs.start_placement.push_position.Goals as goal

pub loop-sub-preserved : goal.loop-sub-preserved
loop-sub-preserved c =
    let sub = c.loop-sub.sub in
    let same : 0 + sub ≡ sub = omega arith in
    let pushed : c.push_left.new.left.items ≡ c.loop-sub.left.items ++ sites_left c.args.given.now.sites (site c.args.at.0 c.args.at.1 (0 + sub) ∷ []) = rw same c.in_ok-push_left.ensures in
    left_step c.args.given.now.sites (λ sub. site c.args.at.0 c.args.at.1 sub) 0 sub c.args.left.now.items c.loop-sub.left.items c.push_left.new.left.items c.loop-sub.invariant pushed
