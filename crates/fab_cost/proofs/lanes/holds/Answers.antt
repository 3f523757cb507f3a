use Rattle.fab_cost.proofs.EdgeLanes.{held_by}
use Rattle.fab_cost.proofs.lanes.holds.Goals as goal

pub returns : goal.returns
returns c = λ most g b s inner reach is. held_by most g b s (c.are_below.ensures _ _ _ _ _ _ _ _ inner reach is)
