use Rattle.std.proofs.Common.{◌<◌, length, ◌∙◌, arith}
use Rattle.std.proofs.lemmas.Grind.{get_or_default_zero}
use Rattle.fab_cost.proofs.EdgeLanes.{inner_to_more}
use Rattle.fab_cost.proofs.TakenOver.{read_at}
use Rattle.fab_cost.proofs.large_nets.with_lanes.Goals as goal

pub boxes-preserved : goal.boxes-preserved
boxes-preserved c =
    let boxes = c.args.boxes.items in
    let most = c.args.most.items in
    let i = c.boxes.i in
    let low : i < length boxes = omega arith in
    let short : i < length most = omega (arith, c.requires, low) in
    inner_to_more c.boxes.inner.items _ most boxes i c.index.result.now c.index-in-boxes.result.now c.inner_lanes_of.result c.boxes.invariant
    (c.index.ensures ∙ get_or_default_zero most i _ short) (read_at boxes i c.index-in-boxes.result.now low c.index-in-boxes.ensures) c.inner_lanes_of.ensures c.in_ok-push.ensures.items
