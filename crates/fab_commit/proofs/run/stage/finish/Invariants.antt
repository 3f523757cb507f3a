use Rattle.std.proofs.Common.{◌≡◌, eqb, not, false, true, None, [], length}
use Rattle.fab_commit.specs.Run.Pipelines.{IsAtTurn}
use Rattle.fab_commit.specs.Run.Commits.{run_for}
use Rattle.fab_commit.specs.Run.Followed.{IsBeside}
use Rattle.fab_commit.specs.Model.TurnEvents.{LastTurn}
use Rattle.fab_commit.proofs.RunLemmas.Staging.{HasCome, HasTold}
use Rattle.fab_commit.proofs.run.stage.finish.Given as goal

abbrev pub invariant-turns : goal.invariant-turns
invariant-turns g l =
    let r = run_for g.W.Words.moves l.given in
    let counted = not (eqb g.row.COUNTED 0) in
    record {
      some : (t : LastTurn) × IsAtTurn r t l.state.owner l.course.ahead × IsBeside g.S.Pursue.run g.S.Pursue.standing g.S.Follow.after g.J.Origin.start r t l.state.owner l.course.begun l.followers;
      nobody : counted ≡ false → l.followers ≡ None;
      come : HasCome r l.plan.batch l.plan.count l.fn.state.owner.state l.rest l.state.owner.state l.fn.shower.shown l.shower.shown;
      told : counted ≡ true → HasTold r l.plan.batch l.plan.count l.fn.state.owner (record { base = l.fn.state.base; moves = length l.fn.state.ahead.items }) l.rest l.state.owner l.course.ahead;
      same : counted ≡ false → l.state.owner.redone ≡ l.fn.state.owner.redone;
      dial : l.shower.dial ≡ l.fn.shower.dial;
      base : l.state.base ≡ l.course.ahead.base;
      empty : (l.state.ahead.items ≡ []) × (l.state.foreseen.items ≡ []);
    }

abbrev pub decreases-turns : goal.decreases-turns
decreases-turns g l = l.rest
