use Rattle.std.proofs.Common.{refl, sym}
use Rattle.fab_sched.specs.Annealing.{plan_of}
use Rattle.fab_sched.specs.declared.schedules.Cooling.TheVariants.{Factor, Adaptive}
use Rattle.fab_run.proofs.Asked.{fault_asked}
use Rattle.fab_run.proofs.setting.schedule_of.Goals as goal

pub returns-in-Factor-clause-fault : goal.returns-in-Factor-clause-fault
returns-in-Factor-clause-fault c =
    let o = c.args.options.now in
    fault_asked o c.args.blocks (plan_of o.init_t o.exit_t (Factor c.in-Factor.alpha) c.stage_moves-moves.result) c.new.result (record { init = refl; exit = refl; cooling = sym c.in-Factor.is; moves = c.stage_moves-moves.ensures.asked }) c.new.ensures.fault

pub returns-in-Adaptive-clause-fault : goal.returns-in-Adaptive-clause-fault
returns-in-Adaptive-clause-fault c =
    let o = c.args.options.now in
    fault_asked o c.args.blocks (plan_of o.init_t o.exit_t Adaptive c.stage_moves-moves.result) c.adaptive.result (record { init = refl; exit = refl; cooling = sym c.in-Adaptive.is; moves = c.stage_moves-moves.ensures.asked }) c.adaptive.ensures.fault
