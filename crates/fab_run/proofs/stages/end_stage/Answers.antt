use Rattle.std.proofs.Common.{◌≡◌, ◌+◌, ◌-◌, ◌≤◌, ◌++◌, IfOk, Ok, refl, sym, ap, subst, ◌∙◌, arith, rules}
use Rattle.std.proofs.lemmas.Result.{err_from_is_err_and}
use Rattle.fab_commit.specs.Serial.{from, moves_left}
use Rattle.fab_commit.specs.Run.Commits.{run_of}
use Rattle.fab_cost.specs.Cost.{cost_of}
use Rattle.fab_run.specs.Piece.{cost_at}
use Rattle.fab_run.specs.Stages.{LeadsOn}
use Rattle.fab_run.proofs.LeadsOn.{leads_either, leads_err}
use Rattle.fab_run.proofs.Pieces.{left_is, left_there, total_grows, told_line, told_cost}
use Rattle.fab_run.proofs.stages.end_stage.Goals as goal

pub make_moves-requires-clause-some : goal.make_moves-requires-clause-some
make_moves-requires-clause-some g c κs within =
    let r = run_of g.V.Words.moves c.args.anneal.now in
    let x = c.args.anneal.now.standing in
    let left = left_is r x c.args.running.now.stage c.args.running.now.moves c.requires.stage c.requires.moves in
    let some = left_there r x c.args.running.now.stage c.requires.stage (subst (λ m. 1 ≤ m) c.requires.moves c.requires.some) in
    (omega (arith, left), omega (arith, left, some))

pub overflow_sub-accepted : goal.overflow_sub-accepted
overflow_sub-accepted g c =
    let r = run_of g.V.Words.moves c.args.anneal.now in
    let x = c.args.anneal.now.standing in
    let there = c.in_ok-make_moves.ensures.made.stands in
    let grows : x.total ≤ c.make_moves.new.anneal.standing.total = subst (λ s. x.total ≤ s.total) (sym there) (total_grows r x (c.args.running.now.moves - c.args.running.now.stage.done)) in
    let before = c.total-before.ensures in
    let after = c.total.ensures in
    grind (arith, grows, before, after)

pub returns-clause-costs : goal.returns-clause-costs
returns-clause-costs g c =
    let r = run_of g.V.Words.moves c.args.anneal.now in
    let x = c.args.anneal.now.standing in
    let y = c.make_moves.new.anneal.standing in
    let same = c.make_moves.ensures.made.same in
    let em = c.requires.moves in
    let n : c.args.running.now.moves - c.args.running.now.stage.done ≡ moves_left r x = left_is r x c.args.running.now.stage c.args.running.now.moves c.requires.stage em in
    let there = c.in_ok-make_moves.ensures.made.stands ∙ ap (from r x) n in
    let cost : c.cost-cost.result ≡ cost_at r y = c.cost-cost.ensures ∙ (λ i. cost_of (same.design i) (same.grid i) y.sites) in
    let one : 1 ≤ r.plan.moves = subst (λ m. 1 ≤ m) em c.requires.some in
    let fact = c.in_ok-push.ensures.items ∙ ap (λ l. c.args.costs.now.items ++ l) (told_cost r x y c.args.running.now.stage c.cost-cost.result c.requires.stage one there cost) in
    search (rules, fact)

pub returns-clause-line : goal.returns-clause-line
returns-clause-line g c =
    let r = run_of g.V.Words.moves c.args.anneal.now in
    let x = c.args.anneal.now.standing in
    let y = c.make_moves.new.anneal.standing in
    let same = c.make_moves.ensures.made.same in
    let em = c.requires.moves in
    let n : c.args.running.now.moves - c.args.running.now.stage.done ≡ moves_left r x = left_is r x c.args.running.now.stage c.args.running.now.moves c.requires.stage em in
    let there = c.in_ok-make_moves.ensures.made.stands ∙ ap (from r x) n in
    let cost : c.cost-cost.result ≡ cost_at r y = c.cost-cost.ensures ∙ (λ i. cost_of (same.design i) (same.grid i) y.sites) in
    let one : 1 ≤ r.plan.moves = subst (λ m. 1 ≤ m) em c.requires.some in
    let before = c.total-before.ensures in
    let after = c.total.ensures in
    let accepted : c.args.running.now.stage.accepted + (c.total.result - c.total-before.result) ≡ c.args.running.now.stage.accepted + (y.total - x.total) = (λ i. c.args.running.now.stage.accepted + (after i - before i)) in
    subst (λ t. IfOk c.stage_line.result (λ v. v.items ≡ t))
    (told_line r x y c.args.running.now.stage c.args.running.now.moves _ c.cost-cost.result c.requires.stage one there em accepted cost) c.stage_line.ensures

pub returns-in_err-make_moves-clause-made : goal.returns-in_err-make_moves-clause-made
returns-in_err-make_moves-clause-made g c =
    let r = run_of g.V.Words.moves c.args.anneal.now in
    let x = c.args.anneal.now.standing in
    let n : c.args.running.now.moves - c.args.running.now.stage.done ≡ moves_left r x = left_is r x c.args.running.now.stage c.args.running.now.moves c.requires.stage c.requires.moves in
    let p = err_from_is_err_and c.from_residual.result c.from_residual.ensures.1 in
    rw (p.1) (leads_err g.V.Words.moves g.K.Keeping.again c.args.plan.now.batch (c.args.running.now.moves - c.args.running.now.stage.done) (moves_left r x) c.args.anneal.now c.make_moves.new.anneal _ p.0 c.args.shower.now.shown c.make_moves.new.shower.shown c.in_err-make_moves.ensures.made n)

pub returns-in_err-push-clause-made : goal.returns-in_err-push-clause-made
returns-in_err-push-clause-made g c =
    let r = run_of g.V.Words.moves c.args.anneal.now in
    let x = c.args.anneal.now.standing in
    let n : c.args.running.now.moves - c.args.running.now.stage.done ≡ moves_left r x = left_is r x c.args.running.now.stage c.args.running.now.moves c.requires.stage c.requires.moves in
    leads_either g.V.Words.moves g.K.Keeping.again c.args.plan.now.batch (moves_left r x) c.args.anneal.now c.make_moves.new.anneal tt _ c.args.shower.now.shown c.make_moves.new.shower.shown
    (subst (λ k. LeadsOn g.V.Words.moves g.K.Keeping.again c.args.plan.now.batch k c.args.anneal.now c.make_moves.new.anneal (Ok tt) c.args.shower.now.shown c.make_moves.new.shower.shown) n c.in_ok-make_moves.ensures.made) refl

pub returns-clause-made : goal.returns-clause-made
returns-clause-made g c =
    let r = run_of g.V.Words.moves c.args.anneal.now in
    let x = c.args.anneal.now.standing in
    let n : c.args.running.now.moves - c.args.running.now.stage.done ≡ moves_left r x = left_is r x c.args.running.now.stage c.args.running.now.moves c.requires.stage c.requires.moves in
    leads_either g.V.Words.moves g.K.Keeping.again c.args.plan.now.batch (moves_left r x) c.args.anneal.now c.make_moves.new.anneal tt c.stage_line.result c.args.shower.now.shown c.make_moves.new.shower.shown
    (subst (λ k. LeadsOn g.V.Words.moves g.K.Keeping.again c.args.plan.now.batch k c.args.anneal.now c.make_moves.new.anneal (Ok tt) c.args.shower.now.shown c.make_moves.new.shower.shown) n c.in_ok-make_moves.ensures.made) refl
