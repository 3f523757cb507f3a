use Rattle.std.proofs.Common.{◌<◌, length, ◌∙◌, arith}
use Rattle.std.proofs.lemmas.Grind.{get_or_default_zero}
use Rattle.fab_cost.proofs.EdgeLanes.{inner_set}
use Rattle.fab_cost.proofs.large_nets.LargeBoxes.set.Goals as goal

pub invariant_of-self : goal.invariant_of-self
invariant_of-self c =
    let most = c.args.self.now.most.items in
    let n = c.args.net.0 in
    let told = c.args.self.now.alike.told in
    let low : n < length most = omega (arith, c.requires, told) in
    record { alike = inner_set c.args.self.now.inner.items most c.args.self.now.boxes.items n c.index.result.now c.inner_lanes_of.result c.args.new c.args.self.now.alike c.requires (c.index.ensures ∙ get_or_default_zero most n _ low) c.inner_lanes_of.ensures }
