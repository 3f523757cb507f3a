use Rattle.fab_commit.specs.Run.Commits.{run_for}
use Rattle.fab_commit.proofs.RunLemmas.Standings.{fixed_within}
use Rattle.fab_commit.proofs.run.point.point_of.Goals as goal

pub copy_of_fixed-requires-clause-within : goal.copy_of_fixed-requires-clause-within
copy_of_fixed-requires-clause-within g c =
    let r = run_for g.W.Words.moves c.args.given.now in
    fixed_within r.problem.design r.problem.grid r.problem.fixed c.args.state.now.placement.sites c.blocks-blocks.result c.requires.sound.legal c.blocks-blocks.ensures.count
