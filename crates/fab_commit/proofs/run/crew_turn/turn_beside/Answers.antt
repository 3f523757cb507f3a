use Rattle.std.proofs.Common.{◌≡◌, Some, sym, ap, subst, ◌∙◌, arith}
use Rattle.std.specs.Arc.{arc_value}
use Rattle.fab_commit.specs.declared.run.state.Given.{Given}
use Rattle.fab_commit.specs.declared.run.state.State.{State}
use Rattle.fab_commit.specs.Serial.{left_at, moves_left}
use Rattle.fab_commit.specs.Run.Commits.{heat_of, run_for, standing_of}
use Rattle.fab_commit.specs.Run.Pipelines.{HasTurn, HasTurned, IsAfter, TurnsOn}
use Rattle.fab_commit.specs.Model.TurnEvents.{LastTurn, next_turn, stands}
use Rattle.fab_commit.proofs.RunLemmas.InTurns.{turned_nowhere}
use Rattle.fab_commit.proofs.run.crew_turn.turn_beside.Goals as goal

pub refused-requires-clause-behind : goal.refused-requires-clause-behind
refused-requires-clause-behind g c = subst (λ (v : Given g.row.W.Denot). HasTurn (run_for g.W.Words.moves v) c.args.state.now) (sym c.deref-lent.ensures) c.requires.behind

pub turned_by-requires-clause-behind : goal.turned_by-requires-clause-behind
turned_by-requires-clause-behind g c κs within = subst (λ (v : Given g.row.W.Denot). HasTurn (run_for g.W.Words.moves v) c.args.state.now) (sym c.deref-lent.ensures) c.requires.behind

pub turned_by-requires-clause-starts : goal.turned_by-requires-clause-starts
turned_by-requires-clause-starts g c κs within = λ k d l. ap (λ b. Some b) (c.in-Ok.ensures.first ∙ sym (c.in-Ok.ensures.others k d l))

pub returns-then-state : goal.returns-then-state
returns-then-state g c =
    let s = c.args.state.now in
    let now = c.cut_turn.new.pipeline in
    let cut = c.cut_turn.ensures in
    let batch = c.args.batch in
    let done : now.owner.state.done ≡ s.owner.state.done = ap (λ (v : State). v.done) cut.same in
    let gone = subst (λ (v : Given g.row.W.Denot). (t : LastTurn) (b : IsAfter (run_for g.W.Words.moves v) t s) → HasTurned (run_for g.W.Words.moves v) t s 0 0 now) c.deref-lent.ensures (λ t b. turned_nowhere _ t s now b cut.gone cut.none.0 cut.none.1) in
    let r = run_for g.W.Words.moves (arc_value c.args.given.now) in
    let left : moves_left r (standing_of s.owner.state) ≡ 0 = ap (λ e. left_at r.plan.moves s.owner.state.done (heat_of e s.owner.state.stage.t)) c.if-state.true in
    record {
      turned = record {
        within = (omega (arith, done), omega (arith, done));
        ok = λ (t : LastTurn) (b : IsAfter r t s).
            let same : moves_left r (standing_of s.owner.state) ≡ moves_left r (stands r t) = ap (moves_left r) b.at_turn.led.here in
            let none : 0 ≡ (next_turn r batch t).made = omega (arith, left, same) in
            let after : 0 ≡ (next_turn r batch t).ahead = omega (arith, left, same) in
            subst (λ n. HasTurned r t s (next_turn r batch t).made n now) after (subst (λ n. HasTurned r t s n 0 now) none (gone t b));
        err = tt;
        some = tt;
      };
    }

pub returns-in_default : goal.returns-in_default
returns-in_default g c = record { turned = subst (λ (v : Given g.row.W.Denot). TurnsOn (run_for g.W.Words.moves v) c.args.batch c.args.state.now c.refused.new.state c.refused.result) c.deref-lent.ensures c.refused.ensures }

pub returns : goal.returns
returns g c = record { turned = subst (λ (v : Given g.row.W.Denot). TurnsOn (run_for g.W.Words.moves v) c.args.batch c.args.state.now c.turned_by.new.state c.turned_by.result) c.deref-lent.ensures c.turned_by.ensures }
