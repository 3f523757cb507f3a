use Rattle.fab_commit.specs.Run.Commits.{run_for}
use Rattle.fab_commit.specs.Model.Worlds.{world_of}
use Rattle.fab_commit.proofs.ModelLemmas.Happening.{reached_after}
use Rattle.fab_commit.proofs.model.world_state.step.Goals as goal

pub returns-clause-reached : goal.returns-clause-reached
returns-clause-reached g c =
    let r = run_for g.W.Words.moves c.args.given.now in
    let s = c.args.state.now in
    reached_after c.one_event.result r (world_of s) (world_of c.one_event.new.state) s.ways.items c.one_event.new.state.ways.items c.args.event
    c.one_event.ensures.ok c.one_event.ensures.ways c.one_event.ensures.err c.requires.reached
