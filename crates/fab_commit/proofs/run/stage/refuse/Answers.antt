use Rattle.std.proofs.Common.{length, sym, ap, subst, arith}
use Rattle.std.proofs.lemmas.Bool.{false≢true}
use Rattle.fab_commit.specs.Run.Commits.{run_for, standing_of}
use Rattle.fab_commit.specs.Run.Readings.{HasShown}
use Rattle.fab_commit.proofs.RunLemmas.InTurns.{stopped_at_once, turned_nowhere}
use Rattle.fab_commit.proofs.run.stage.refuse.Goals as goal

pub returns : goal.returns
returns g c =
    let r = run_for g.W.Words.moves c.args.given.now in
    let s = c.args.state.now in
    let now = c.cut_turn.new.pipeline in
    let batch = c.args.plan.now.batch in
    let cut = c.cut_turn.ensures in
    let turned = turned_nowhere r c.requires.behind.0 s now c.requires.behind.1 cut.gone cut.none.0 cut.none.1 in
    record {
      finished = record {
        left = (_, turned.behind);
        none = cut.none.0;
        made = record {
          made = 0;
          few = omega arith;
          further = turned.further;
          ok = tt;
          shown = tt;
          ends = tt;
          cut = λ z before h. subst (λ y. HasShown r batch z before y c.args._shower.now.shown) (ap standing_of (sym cut.same)) h;
        };
        told = λ e. record {
          ended = tt;
          stopped = λ t a. (0, 0, omega arith, stopped_at_once r batch t s.owner now.owner (record { base = s.base; moves = length s.ahead.items }) _ a (cut.gone t a));
        };
        same = λ e. absurd (false≢true (sym e));
      };
    }
