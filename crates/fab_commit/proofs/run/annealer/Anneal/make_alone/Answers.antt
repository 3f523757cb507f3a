use Rattle.std.proofs.Common.{◌<◌, ◌≤◌, false, true, length, refl, sym, subst}
use Rattle.std.specs.Arc.{arc_value}
use Rattle.fab_commit.specs.declared.run.alone.OnBase.{OnBase}
use Rattle.fab_commit.specs.declared.run.state.Given.{Given}
use Rattle.fab_commit.specs.Run.Stages.{HasFinished, IsMade, IsMadeByTurns, MayFinish}
use Rattle.fab_commit.specs.Serial.{moves_left}
use Rattle.fab_commit.specs.Run.Commits.{run_for, run_of, standing_of}
use Rattle.fab_commit.proofs.RunLemmas.InTurns.{at_turn_after}
use Rattle.fab_commit.proofs.RunLemmas.Ended.{made_by_turns}
use Rattle.fab_commit.proofs.RunLemmas.Further.{made_further, since_further}
use Rattle.fab_commit.proofs.RunLemmas.Turned.{seen}
use Rattle.fab_commit.proofs.run.annealer.Anneal.make_alone.Goals as goal

pub invariant_of-self : goal.invariant_of-self
invariant_of-self g c =
    let a = c.self.inside in
    let moves = g.W.Words.moves in
    let s = a.pipeline in
    let now = c.finish_alone.new.state in
    let old = c.args.shower.now.shown in
    let new = c.finish_alone.new.shower.shown in
    let batch = c.args.plan.now.batch in
    let h = subst (λ (v : Given g.row.W.Denot). HasFinished true (run_for moves v) batch c.args.count s now c.finish_alone.result old new) c.deref-given.ensures c.finish_alone.ensures.finished in
    (h.left, since_further (run_for moves (arc_value a.given)) g.K.Keeping.numbers a.before (standing_of a.began.value) batch c.args.count s.owner.state now.owner.state c.finish_alone.result old new h.made c.self.invariant.1)

pub returns-then-tells_redone-clause-made : goal.returns-then-tells_redone-clause-made
returns-then-tells_redone-clause-made g c =
    let a = c.self.inside in
    let moves = g.W.Words.moves in
    let given = arc_value a.given in
    let s = a.pipeline in
    let now = c.finish_alone.new.state in
    let old = c.args.shower.now.shown in
    let new = c.finish_alone.new.shower.shown in
    let batch = c.args.plan.now.batch in
    let count = c.args.count in
    let answer = c.finish_alone.result in
    let since = c.self.invariant.1 in
    let x = standing_of a.began.value in
    let h = subst (λ (v : Given g.row.W.Denot). HasFinished true (run_for moves v) batch count s now answer old new) c.deref-given.ensures c.finish_alone.ensures.finished in
    subst (λ m. IsMade moves batch count m (seen moves given x now) answer old new) c.self.view_is
    (made_further moves given x batch count s now answer old new since.after since.here h.made h.none h.left)

pub returns-then-tells_redone-clause-counted : goal.returns-then-tells_redone-clause-counted
returns-then-tells_redone-clause-counted g c = λ e.
    let a = c.self.inside in
    let moves = g.W.Words.moves in
    let given = arc_value a.given in
    let s = a.pipeline in
    let now = c.finish_alone.new.state in
    let old = c.args.shower.now.shown in
    let new = c.finish_alone.new.shower.shown in
    let batch = c.args.plan.now.batch in
    let count = c.args.count in
    let answer = c.finish_alone.result in
    let b = c.self.invariant.0 in
    let since = c.self.invariant.1 in
    let x = standing_of a.began.value in
    let ahead : OnBase = record { base = s.base; moves = length s.ahead.items } in
    let h = subst (λ (v : Given g.row.W.Denot). HasFinished true (run_for moves v) batch count s now answer old new) c.deref-given.ensures c.finish_alone.ensures.finished in
    subst (λ m. IsMadeByTurns moves batch count m (seen moves given x now) answer old new) c.self.view_is
    (made_by_turns moves given x batch count s now b.0 ahead answer old new b.1 since.after since.here (at_turn_after (run_for moves given) b.0 s ahead b.1 refl refl) h.made (h.told refl) h.none h.left)

pub invariant_of-self-2 : goal.invariant_of-self-2
invariant_of-self-2 g c =
    let a = c.self.inside in
    let moves = g.W.Words.moves in
    let s = a.pipeline in
    let now = c.finish_alone-2.new.state in
    let old = c.args.shower.now.shown in
    let new = c.finish_alone-2.new.shower.shown in
    let batch = c.args.plan.now.batch in
    let h = subst (λ (v : Given g.row.W.Denot). HasFinished false (run_for moves v) batch c.args.count s now c.finish_alone-2.result old new) c.deref-given.ensures c.finish_alone-2.ensures.finished in
    (h.left, since_further (run_for moves (arc_value a.given)) g.K.Keeping.numbers a.before (standing_of a.began.value) batch c.args.count s.owner.state now.owner.state c.finish_alone-2.result old new h.made c.self.invariant.1)

pub returns-clause-made : goal.returns-clause-made
returns-clause-made g c =
    let a = c.self.inside in
    let moves = g.W.Words.moves in
    let given = arc_value a.given in
    let s = a.pipeline in
    let now = c.finish_alone-2.new.state in
    let old = c.args.shower.now.shown in
    let new = c.finish_alone-2.new.shower.shown in
    let batch = c.args.plan.now.batch in
    let count = c.args.count in
    let answer = c.finish_alone-2.result in
    let since = c.self.invariant.1 in
    let x = standing_of a.began.value in
    let h = subst (λ (v : Given g.row.W.Denot). HasFinished false (run_for moves v) batch count s now answer old new) c.deref-given.ensures c.finish_alone-2.ensures.finished in
    subst (λ m. IsMade moves batch count m (seen moves given x now) answer old new) c.self.view_is
    (made_further moves given x batch count s now answer old new since.after since.here h.made h.none h.left)

pub finish_alone-requires-clause-may : goal.finish_alone-requires-clause-may
finish_alone-requires-clause-may g c κs within =
    let a = c.self.inside in
    subst (λ (v : Given g.row.W.Denot). MayFinish (run_for g.W.Words.moves v) c.args.plan.now.batch c.args.count a.pipeline) (sym c.deref-given.ensures) (record { behind = c.self.invariant.0; some = subst (λ m. (c.args.count ≤ moves_left (run_of g.W.Words.moves m) m.standing) × (0 < moves_left (run_of g.W.Words.moves m) m.standing)) (sym c.self.view_is) c.requires.some; batch_is = c.requires.batch })

pub finish_alone-requires-2-clause-may : goal.finish_alone-requires-2-clause-may
finish_alone-requires-2-clause-may g c κs within =
    let a = c.self.inside in
    subst (λ (v : Given g.row.W.Denot). MayFinish (run_for g.W.Words.moves v) c.args.plan.now.batch c.args.count a.pipeline) (sym c.deref-given.ensures) (record { behind = c.self.invariant.0; some = subst (λ m. (c.args.count ≤ moves_left (run_of g.W.Words.moves m) m.standing) × (0 < moves_left (run_of g.W.Words.moves m) m.standing)) (sym c.self.view_is) c.requires.some; batch_is = c.requires.batch })
