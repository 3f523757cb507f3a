use Rattle.fab_commit.specs.Run.Commits.{run_for}
use Rattle.fab_commit.proofs.model.world_state.refresh.Goals as goal

pub returns-clause-whole : goal.returns-clause-whole
returns-clause-whole g c =
    let r = run_for g.W.Words.moves c.args.given.now in
    record {
      plan = c.requires.whole.plan;
      live = c.requires.whole.live;
      older = c.in_ok-state.ensures.sound r c.requires.whole.live;
      blocks = c.requires.whole.blocks;
      kinds = c.requires.whole.kinds;
    }
