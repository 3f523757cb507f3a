use Rattle.fab_cost.proofs.EdgeLanes.{inner_at}
use Rattle.fab_cost.proofs.large_nets.LargeBoxes.inner_of.Goals as goal

pub returns : goal.returns
returns c = inner_at c.args.self.now.inner.items c.args.self.now.most.items c.args.self.now.boxes.items c.args.net.0 c.index.result.now c.args.self.now.alike c.requires c.index.ensures
