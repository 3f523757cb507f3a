use Rattle.std.proofs.Common.{not, ◌&&◌, ◌==◌, sym, subst}
use Rattle.std.specs.List.{All}
use Rattle.std.proofs.lemmas.List.Elements.{All-filter}
use Rattle.fab_commit.specs.declared.model.judged.JudgedMove.{JudgedMove}
use Rattle.fab_commit.specs.Run.Commits.{run_for}
use Rattle.fab_commit.specs.Model.World.{is_last}
use Rattle.fab_commit.specs.Model.Worlds.{KeepsKind}
use Rattle.fab_commit.proofs.model.world_state.lose.Goals as goal

pub returns-else-is_some-clause-whole : goal.returns-else-is_some-clause-whole
returns-else-is_some-clause-whole g c =
    let r = run_for g.W.Words.moves c.args.given.now in
    let vs = c.args.state.now.verdicts.items in
    let worker = c.args.worker in
    let kept = All-filter (λ (v : JudgedMove). not (v.worker == worker && is_last worker vs v.number)) (KeepsKind r.problem.grid) vs c.requires.whole.kinds in
    record {
      plan = c.requires.whole.plan;
      live = c.requires.whole.live;
      older = c.requires.whole.older;
      blocks = c.requires.whole.blocks;
      kinds = subst (All (KeepsKind r.problem.grid)) (sym c.drop_last_verdict.ensures) kept;
    }
