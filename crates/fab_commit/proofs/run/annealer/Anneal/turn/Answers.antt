use Rattle.std.proofs.Common.{Ok, Err, subst, sym}
use Rattle.std.specs.Arc.{arc_value}
use Rattle.std.proofs.lemmas.Result.{err_from_is_err_and}
use Rattle.fab_commit.specs.Run.Commits.{run_for, standing_of}
use Rattle.fab_commit.specs.Run.Turned.{IsTurned}
use Rattle.fab_commit.proofs.RunLemmas.Since.{since_turn}
use Rattle.fab_commit.proofs.RunLemmas.Turned.{seen, turn_cut, turn_done, turn_left}
use Rattle.fab_commit.proofs.run.annealer.Anneal.turn.Goals as goal

pub invariant_of-self : goal.invariant_of-self
invariant_of-self g c =
    let a = c.self.inside in
    let r = run_for g.W.Words.moves (arc_value a.given) in
    let t = c.self.invariant.0.0 in
    let b = c.self.invariant.0.1 in
    (turn_left r c.args.batch a.pipeline c.turn_beside.new.state t c.turn_beside.result b c.turn_beside.ensures.turned, since_turn r g.K.Keeping.numbers a.before (standing_of a.began.value) c.args.batch t a.pipeline c.turn_beside.new.state c.turn_beside.result b c.turn_beside.ensures.turned c.self.invariant.1)

pub invariant_of-self-2 : goal.invariant_of-self-2
invariant_of-self-2 g c =
    let a = c.self.inside in
    let r = run_for g.W.Words.moves (arc_value a.given) in
    let t = c.self.invariant.0.0 in
    let b = c.self.invariant.0.1 in
    (turn_left r c.args.batch a.pipeline c.turn_beside.new.state t c.turn_beside.result b c.turn_beside.ensures.turned, since_turn r g.K.Keeping.numbers a.before (standing_of a.began.value) c.args.batch t a.pipeline c.turn_beside.new.state c.turn_beside.result b c.turn_beside.ensures.turned c.self.invariant.1)

pub returns-in_err-turn_beside : goal.returns-in_err-turn_beside
returns-in_err-turn_beside g c =
    let a = c.self.inside in
    let given = arc_value a.given in
    let now = c.turn_beside.new.state in
    let t = c.self.invariant.0.0 in
    let b = c.self.invariant.0.1 in
    let since = c.self.invariant.1 in
    let e = err_from_is_err_and c.from_residual.result c.from_residual.ensures.1 in
    record {
      turned = subst (λ q. IsTurned g.W.Words.moves c.args.batch c.args.self.now (seen g.W.Words.moves given (standing_of a.began.value) now) q) (sym e.1)
          (subst (λ m. IsTurned g.W.Words.moves c.args.batch m (seen g.W.Words.moves given (standing_of a.began.value) now) (Err e.0)) c.self.view_is
          (turn_cut g.W.Words.moves given (standing_of a.began.value) c.args.batch a.pipeline now t e.0 b since.after since.here c.in_err-turn_beside.ensures.turned.within.1 (c.in_err-turn_beside.ensures.turned.err t b) c.in_err-turn_beside.ensures.turned.some));
    }

pub returns : goal.returns
returns g c =
    let a = c.self.inside in
    let given = arc_value a.given in
    let now = c.turn_beside.new.state in
    let t = c.self.invariant.0.0 in
    let b = c.self.invariant.0.1 in
    let since = c.self.invariant.1 in
    record {
      turned = subst (λ m. IsTurned g.W.Words.moves c.args.batch m (seen g.W.Words.moves given (standing_of a.began.value) now) (Ok c.left.result)) c.self.view_is
          (turn_done g.W.Words.moves given (standing_of a.began.value) c.args.batch a.pipeline now t c.left.result b since.after since.here (c.in_ok-turn_beside.ensures.turned.ok t b) c.left.ensures);
    }
