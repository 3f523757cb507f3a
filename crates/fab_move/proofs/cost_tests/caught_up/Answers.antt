use Rattle.fab_cost.proofs.Sited.{other_below}
use Rattle.fab_move.proofs.cost_tests.caught_up.Goals as goal

pub take_over-requires-clause-other : goal.take_over-requires-clause-other
take_over-requires-clause-other c b e = other_below c.args.grid.now c.args.placement.now.sites c.args.swap.now b _ c.requires.lawful e c.requires.stands.whole
