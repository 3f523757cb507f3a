use Rattle.fab_run.proofs.LeadsOn.{leads_on}
use Rattle.fab_run.proofs.stages.make_moves.Goals as goal

pub returns-then-count-gt0-clause-made : goal.returns-then-count-gt0-clause-made
returns-then-count-gt0-clause-made g c =
    leads_on g.V.Words.moves g.K.Keeping.again c.args.plan.now.batch c.args.count c.args.anneal.now c.make_beside.new.self c.make_beside.result c.args.shower.now.shown c.make_beside.new.shower.shown c.make_beside.ensures.made.made (λ e. c.make_beside.ensures.made)

pub returns-clause-made : goal.returns-clause-made
returns-clause-made g c =
    leads_on g.V.Words.moves g.K.Keeping.again c.args.plan.now.batch c.args.count c.args.anneal.now c.make_alone.new.self c.make_alone.result c.args.shower.now.shown c.make_alone.new.shower.shown c.make_alone.ensures.made c.make_alone.ensures.counted
