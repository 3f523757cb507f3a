use Rattle.std.proofs.Common.{◌<◌, ◌≤◌, length, refl, sym, subst}
use Rattle.std.specs.Arc.{arc_value}
use Rattle.fab_commit.specs.declared.run.alone.OnBase.{OnBase}
use Rattle.fab_commit.specs.Run.Stages.{IsMadeByTurns}
use Rattle.fab_commit.specs.Serial.{moves_left}
use Rattle.fab_commit.specs.Run.Commits.{run_for, run_of, standing_of}
use Rattle.fab_commit.proofs.RunLemmas.InTurns.{at_turn_after}
use Rattle.fab_commit.proofs.RunLemmas.Ended.{made_by_turns}
use Rattle.fab_commit.proofs.RunLemmas.Further.{since_further}
use Rattle.fab_commit.proofs.RunLemmas.Turned.{seen}
use Rattle.fab_commit.proofs.run.annealer.Anneal.make_beside.Goals as goal

pub invariant_of-self : goal.invariant_of-self
invariant_of-self g c =
    let a = c.self.inside in
    let s = a.pipeline in
    let now = c.finish_beside.new.state in
    let made = c.finish_beside.ensures.finished in
    (made.left, since_further (run_for g.W.Words.moves (arc_value a.given)) g.K.Keeping.numbers a.before (standing_of a.began.value) c.args.plan.now.batch c.args.count s.owner.state now.owner.state c.finish_beside.result c.args.shower.now.shown c.finish_beside.new.shower.shown made.made c.self.invariant.1)

pub returns-clause-made : goal.returns-clause-made
returns-clause-made g c =
    let a = c.self.inside in
    let moves = g.W.Words.moves in
    let given = arc_value a.given in
    let s = a.pipeline in
    let now = c.finish_beside.new.state in
    let old = c.args.shower.now.shown in
    let new = c.finish_beside.new.shower.shown in
    let batch = c.args.plan.now.batch in
    let count = c.args.count in
    let answer = c.finish_beside.result in
    let b = c.self.invariant.0 in
    let since = c.self.invariant.1 in
    let x = standing_of a.began.value in
    let ahead : OnBase = record { base = s.base; moves = length s.ahead.items } in
    let made = c.finish_beside.ensures.finished in
    subst (λ m. IsMadeByTurns moves batch count m (seen moves given x now) answer old new) c.self.view_is
    (made_by_turns moves given x batch count s now b.0 ahead answer old new b.1 since.after since.here (at_turn_after (run_for moves given) b.0 s ahead b.1 refl refl) made.made (made.told refl) made.none made.left)

pub finish_beside-requires-clause-may : goal.finish_beside-requires-clause-may
finish_beside-requires-clause-may g c κs within = record { behind = c.self.invariant.0; some = subst (λ m. (c.args.count ≤ moves_left (run_of g.W.Words.moves m) m.standing) × (0 < moves_left (run_of g.W.Words.moves m) m.standing)) (sym c.self.view_is) c.requires.some; batch_is = c.requires.batch }
