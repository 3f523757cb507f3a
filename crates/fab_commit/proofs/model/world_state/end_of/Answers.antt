use Rattle.std.proofs.Common.{arith}
use Rattle.fab_commit.specs.Run.Commits.{heat_of, run_for}
use Rattle.fab_commit.proofs.ModelLemmas.Happening.{end_fits}
use Rattle.fab_commit.proofs.model.world_state.end_of.Goals as goal

pub overflow_add-result : goal.overflow_add-result
overflow_add-result g c =
    let r = run_for g.W.Words.moves c.args.given.now in
    let s = c.args.state.now in
    let fits = end_fits r s (heat_of s.ended s.stage.t) c.requires.plan c.requires.sound in
    let left = c.moves_left.ensures in
    grind (arith, fits, left)
