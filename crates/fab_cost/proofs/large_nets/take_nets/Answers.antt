use Rattle.std.proofs.Common.{ℕ, ◌<◌, length, get_or, ap, arith, length-set, ◌∙◌}
use Rattle.fab_net.specs.declared.netlist_types.NetId.{NetId}
use Rattle.fab_cost.specs.Swapping.{counted_at}
use Rattle.fab_cost.proofs.TakenOver.{taken_more}
use Rattle.fab_cost.proofs.large_nets.take_nets.Goals as goal

pub loop-net-preserved : goal.loop-net-preserved
loop-net-preserved c =
    let i : ℕ = c.loop-net.net-index in
    let none : NetId = record { 0 = 0 } in
    let net : NetId = get_or c.args.nets.now i none in
    let boxes = c.loop-net.large.boxes.items in
    let old = c.loop-net.invariant in
    let low : net.0 < length c.args.large.now.boxes.items = c.requires.within i none c.loop-net-test.true in
    let here : net.0 < length boxes = omega (arith, low, old.0) in (
      ap length c.set.ensures.boxes ∙ length-set boxes net.0 c.kept.result ∙ old.0,
      c.set.ensures.most ∙ old.1,
      λ k. ap (λ v. counted_at v k) c.set.ensures.boxes ∙ taken_more c.args.nets.now i none c.args.from.now.boxes.items c.args.large.now.boxes.items boxes c.kept.result k c.loop-net-test.true here c.kept.ensures (old.2 k),
    )
