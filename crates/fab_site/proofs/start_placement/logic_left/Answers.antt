use Rattle.std.proofs.Common.{◌≡◌, ◌+◌, ◌-◌, ◌++◌, map, arith}
use Rattle.std.specs.List.{range_with_len}
use Rattle.fab_site.specs.Placement.{site}
use Rattle.fab_site.specs.Start.{sites_left}
use Rattle.fab_site.proofs.Drawing.{row_step, few_rows}
use Rattle.fab_site.proofs.start_placement.logic_left.Goals as goal

pub loop-y-preserved : goal.loop-y-preserved
loop-y-preserved c =
    let y = c.loop-y.y in
    let same : 1 + (y - 1) ≡ y = omega (arith, c.loop-y.auto.y) in
    let next : y - 1 + 1 ≡ y + 1 - 1 = omega (arith, c.loop-y.auto.y) in
    let pushed : c.push_row.new.left.items ≡ c.loop-y.left.items ++ sites_left c.args.given.now.sites (map (λ x. site x (1 + (y - 1)) 0) (range_with_len 1 c.args.grid.now.nx)) = rw (same, ← c.nx-nx.ensures.value) c.in_ok-push_row.ensures in
    rw (← next) (row_step c.args.given.now.sites (λ y. map (λ x. site x y 0) (range_with_len 1 c.args.grid.now.nx)) 1 (y - 1) c.loop-y.left.items c.push_row.new.left.items c.loop-y.invariant pushed)

pub returns-clause-few : goal.returns-clause-few
returns-clause-few c = few_rows c.args.grid.now c.args.given.now.sites (c.loop-y.y - 1) c.loop-y.left.items c.loop-y.invariant (omega (arith, c.loop-y.auto.y-end, c.ny-ny.ensures.limits.1)) (omega (arith, c.nx-nx.ensures.value, c.nx-nx.ensures.limits.1))
