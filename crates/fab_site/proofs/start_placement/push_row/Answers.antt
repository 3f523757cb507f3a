use Rattle.std.proofs.Common.{◌≡◌, ◌+◌, ◌-◌, ◌++◌, ◌∷◌, [], arith}
use Rattle.fab_site.specs.Placement.{site}
use Rattle.fab_site.specs.Start.{sites_left}
use Rattle.fab_site.proofs.Drawing.{left_step}
use Rattle.fab_site.proofs.start_placement.push_row.Goals as goal

pub loop-x-preserved : goal.loop-x-preserved
loop-x-preserved c =
    let x = c.loop-x.x in
    let same : 1 + (x - 1) ≡ x = omega (arith, c.loop-x.auto.x) in
    let next : x - 1 + 1 ≡ x + 1 - 1 = omega (arith, c.loop-x.auto.x) in
    let pushed : c.push_left.new.left.items ≡ c.loop-x.left.items ++ sites_left c.args.given.now.sites (site (1 + (x - 1)) c.args.y 0 ∷ []) = rw same c.in_ok-push_left.ensures in
    rw (← next) (left_step c.args.given.now.sites (λ x. site x c.args.y 0) 1 (x - 1) c.args.left.now.items c.loop-x.left.items c.push_left.new.left.items c.loop-x.invariant pushed)
