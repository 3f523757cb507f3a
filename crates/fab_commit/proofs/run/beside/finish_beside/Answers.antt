use Rattle.std.proofs.Common.{true, subst, sym}
use Rattle.fab_commit.specs.declared.run.state.Given.{Given}
use Rattle.fab_commit.specs.Run.Stages.{HasFinished, MayFinish}
use Rattle.fab_commit.specs.Run.Commits.{run_for}
use Rattle.fab_commit.proofs.run.beside.finish_beside.Goals as goal

pub without_crew-requires-clause-may : goal.without_crew-requires-clause-may
without_crew-requires-clause-may g c κs within = subst (λ (v : Given g.row.W.Denot). MayFinish (run_for g.W.Words.moves v) c.args.plan.now.batch c.args.count c.args.state.now) (sym c.deref-lent.ensures) c.requires.may

pub made_beside-requires-clause-may : goal.made_beside-requires-clause-may
made_beside-requires-clause-may g c κs within = subst (λ (v : Given g.row.W.Denot). MayFinish (run_for g.W.Words.moves v) c.args.plan.now.batch c.args.count c.args.state.now) (sym c.deref-lent.ensures) c.requires.may

pub returns-in_default-clause-finished : goal.returns-in_default-clause-finished
returns-in_default-clause-finished g c =
    subst (λ (v : Given g.row.W.Denot). HasFinished true (run_for g.W.Words.moves v) c.args.plan.now.batch c.args.count c.args.state.now c.without_crew.new.state c.without_crew.result c.args.shower.now.shown c.without_crew.new.shower.shown) c.deref-lent.ensures c.without_crew.ensures.finished

pub returns-clause-finished : goal.returns-clause-finished
returns-clause-finished g c =
    subst (λ (v : Given g.row.W.Denot). HasFinished true (run_for g.W.Words.moves v) c.args.plan.now.batch c.args.count c.args.state.now c.made_beside.new.state c.made_beside.result c.args.shower.now.shown c.made_beside.new.shower.shown) c.deref-lent.ensures c.made_beside.ensures.finished
