use Rattle.std.proofs.Common.{arith}
use Rattle.fab_sched.proofs.Falling.{index_below}
use Rattle.fab_commit.proofs.run.state.stage_after_frozen.Goals as goal

pub overflow_add-result : goal.overflow_add-result
overflow_add-result c =
    let low = index_below c.args.schedule.now c.args.frozen.now.index c.args.frozen.now.t c.moves-moves.ensures.lawful c.requires.stage.stands in
    grind (arith, low)
