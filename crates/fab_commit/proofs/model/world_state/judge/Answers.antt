use Rattle.std.proofs.Common.{◌<◌, sym, ap, subst, ◌∙◌, arith}
use Rattle.std.specs.List.{All}
use Rattle.std.proofs.lemmas.List.Elements.{All-push}
use Rattle.fab_commit.specs.declared.model.judged.JudgedMove.{JudgedMove}
use Rattle.fab_commit.specs.Run.Commits.{run_for}
use Rattle.fab_commit.specs.Model.World.{claim_of}
use Rattle.fab_commit.specs.Model.Worlds.{KeepsKind, world_of}
use Rattle.fab_commit.proofs.RunLemmas.Folding.{not_ended}
use Rattle.fab_commit.proofs.ModelLemmas.Schedules.{claim_open}
use Rattle.fab_commit.proofs.ModelLemmas.Happening.{reached_inv}
use Rattle.fab_commit.proofs.model.world_state.judge.Goals as goal

pub judge_on-requires-clause-going : goal.judge_on-requires-clause-going
judge_on-requires-clause-going g c =
    let r = run_for g.W.Words.moves c.args.given.now in
    let s = c.args.state.now in
    let pos : 0 < r.plan.moves = (let m = c.requires.whole.plan.moves in omega (arith, m)) in
    let inv = reached_inv r (world_of s) s.ways.items pos c.requires.reached in
    not_ended s.older.ended s.older.stage.t (claim_open r (world_of s) c.args.worker c.in-Some.number inv (sym (c.in-Some.ensures ∙ ap (claim_of c.args.worker) c.deref.ensures.value)) c.if-number-state.false)

pub returns-clause-whole : goal.returns-clause-whole
returns-clause-whole g c =
    let r = run_for g.W.Words.moves c.args.given.now in
    let s = c.args.state.now in
    let v : JudgedMove = record { worker = c.args.worker; number = c.in-Some.number; base = s.older.done; judged = c.of.result } in
    let keeps : KeepsKind r.problem.grid v = (λ x e. (c.in_ok-answer.ensures.lawful x (sym (ap (λ q. q.swap) c.of.ensures) ∙ e)).kind) in
    let all = All-push (KeepsKind r.problem.grid) s.verdicts.items v c.requires.whole.kinds keeps in
    record {
      plan = c.requires.whole.plan;
      live = c.requires.whole.live;
      older = c.requires.whole.older;
      blocks = c.requires.whole.blocks;
      kinds = subst (All (KeepsKind r.problem.grid)) (sym c.in_ok-push.ensures.items) all;
    }
