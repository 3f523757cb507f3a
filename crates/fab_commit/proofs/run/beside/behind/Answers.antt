use Rattle.std.proofs.Common.{subst, sym}
use Rattle.std.specs.Arc.{arc_value}
use Rattle.fab_commit.specs.declared.run.state.Given.{Given}
use Rattle.fab_commit.specs.Run.Commits.{IsSound, run_for}
use Rattle.fab_commit.proofs.run.beside.behind.Goals as goal

pub new-requires-clause-sound : goal.new-requires-clause-sound
new-requires-clause-sound g c κs within =
    subst (λ (v : Given g.row.W.Denot). IsSound (run_for g.W.Words.moves v) c.in_ok-copy.copy) (sym c.in_ok-try_clone.ensures) (c.in_ok-copy.ensures.sound (run_for g.W.Words.moves (arc_value c.args.given.now)) c.requires.sound)
