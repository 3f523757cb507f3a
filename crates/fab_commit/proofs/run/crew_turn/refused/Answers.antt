use Rattle.std.proofs.Common.{◌≡◌, ◌-◌, ap, subst, arith}
use Rattle.std.specs.Prelude.{is_some, true}
use Rattle.fab_commit.specs.declared.run.state.State.{State}
use Rattle.fab_commit.specs.Run.Commits.{heat_of, run_for, standing_of}
use Rattle.fab_commit.specs.Run.Pipelines.{HasTurned, IsAfter}
use Rattle.fab_commit.specs.Model.TurnEvents.{LastTurn}
use Rattle.fab_commit.proofs.RunLemmas.InTurns.{turned_nowhere}
use Rattle.fab_commit.proofs.RunLemmas.Annealing.{some_left, some_moves}
use Rattle.fab_commit.proofs.run.crew_turn.refused.Goals as goal

pub returns : goal.returns
returns g c =
    let r = run_for g.W.Words.moves c.args.given.now in
    let s = c.args.state.now in
    let now = c.cut_turn.new.pipeline in
    let cut = c.cut_turn.ensures in
    let done : now.owner.state.done ≡ s.owner.state.done = ap (λ (v : State). v.done) cut.same in
    let none : 0 ≡ now.owner.state.done - s.owner.state.done = omega (arith, done) in
    let hot : is_some (heat_of s.owner.state.ended s.owner.state.stage.t) ≡ true = ap (λ e. is_some (heat_of e s.owner.state.stage.t)) c.requires.going in
    record {
      within = (omega (arith, done), omega (arith, done));
      ok = tt;
      err = λ (t : LastTurn) (b : IsAfter r t s). subst (λ n. HasTurned r t s n 0 now) none (turned_nowhere r t s now b cut.gone cut.none.0 cut.none.1);
      some = some_left r (standing_of s.owner.state) (some_moves r c.requires.behind.0 s c.requires.behind.1) hot;
    }
