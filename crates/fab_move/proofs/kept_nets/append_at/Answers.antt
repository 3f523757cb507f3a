use Rattle.fab_move.proofs.KeptLists.{added_at}
use Rattle.fab_move.proofs.kept_nets.append_at.Goals as goal

pub loop-place-preserved : goal.loop-place-preserved
loop-place-preserved c = added_at c.args.kept.now c.loop-place.kept c.push.new.kept c.args.nets.now c.args.places.now c.loop-place.place-index 0 c.loop-place-test.true c.loop-place.invariant c.push.ensures
