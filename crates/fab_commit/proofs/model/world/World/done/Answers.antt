use Rattle.std.proofs.Common.{◌<◌, subst, arith}
use Rattle.fab_commit.specs.Run.Commits.{run_for}
use Rattle.fab_commit.specs.Model.Worlds.{IsSerial, run_in, world_of}
use Rattle.fab_commit.proofs.ModelLemmas.Happening.{reached_serial}
use Rattle.fab_commit.proofs.model.world.World.done.Goals as goal

pub returns-clause-serial : goal.returns-clause-serial
returns-clause-serial g c =
    let a = c.self.inside in
    let r = run_for g.W.Words.moves a.given in
    let pos : 0 < r.plan.moves = (let m = c.self.invariant.0.plan.moves in omega (arith, m)) in
    subst (λ w. IsSerial (run_in g.W.Words.moves w) w.world.live w.ways) c.self.view_is
    (reached_serial r (world_of a.state) a.state.ways.items pos c.self.invariant.1)
