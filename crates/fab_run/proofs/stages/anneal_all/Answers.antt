use Rattle.std.proofs.Common.{◌≡◌, ℕ, ◌+◌, ◌-◌, ◌<◌, ◌≤◌, ◌++◌, Option, Some, None, length, refl, sym, ap, subst, ◌∙◌, arith, inl, inr, true, is_some, rules}
use Rattle.std.specs.Io.KnownBytes.{Appends}
use Rattle.std.proofs.lemmas.List.{append-nil}
use Rattle.std.proofs.lemmas.Result.{err_from_is_err_and}
use Rattle.fab_commit.proofs.RunLemmas.Folding.{from_add, goes_on}
use Rattle.fab_run.specs.Stages.{AreCountedOn}
use Rattle.fab_sched.specs.Annealing.{IsCooling, Plan}
use Rattle.fab_commit.specs.Serial.{Standing, accepted_among, from, moves_left, stage_at}
use Rattle.fab_commit.specs.Run.ByTurns.{LeadsByTurns}
use Rattle.fab_commit.specs.Run.Commits.{run_of}
use Rattle.fab_commit.proofs.RunLemmas.ByTurns.{by_turns_stay, by_turns_then}
use Rattle.fab_commit.proofs.RunLemmas.Showing.{shown_first}
use Rattle.fab_run.specs.Ends.{IsWithin}
use Rattle.fab_run.specs.Piece.{IsOver, stage_costs, stage_lines}
use Rattle.fab_run.proofs.Pieces.{left_is, left_there, no_costs, no_lines, over_later}
use Rattle.fab_run.proofs.Turning.{counted_by_turns, counted_then}
use Rattle.fab_run.proofs.Telling.{HasTold, appends_none, warmth, colder_by_stage, cut_between, cut_within, short_within, same_run, same_twice, told_nothing, told_on}
use Rattle.fab_run.specs.Shown.{EndsShown, LeadsShown, LeadsShownWithin}
use Rattle.fab_run.proofs.Showing.{begun_within, shown_all}
use Rattle.fab_run.proofs.stages.anneal_all.Goals as goal

-- where there is no stage, nothing is warm
cold : (p : Plan) (x : Standing) (h : Option ℕ) → stage_at p x h ≡ None → h ≡ None
cold p x None e = refl
cold p x (Some t) e = absurd cc

pub loop-stage-init : goal.loop-stage-init
loop-stage-init g c =
    let a = c.args.anneal.now in
    let r = run_of g.V.Words.moves a in
    let x = a.standing in
    let costs = c.args.costs.now.items in
    let old = g.W.Sink.contents c.args.report.now in
    let none : 0 ≡ x.done - x.done = omega arith in
    record {
      same = record { design = refl; grid = refl; fixed = refl; plan = refl; words = refl };
      turns = λ e. by_turns_stay r c.args.pace.now.batch a;
      at = subst (HasTold r x x a.accepted a.accepted costs costs old old) none (told_nothing r x a.accepted costs old);
      dial = refl;
      shown = shown_first r c.args.pace.now.batch x c.args.shower.now.shown;
      done = omega arith;
      passed = λ m e. omega arith;
      sound = refl;
    }

pub returns-clause-made : goal.returns-clause-made
returns-clause-made g c =
    let r = run_of g.V.Words.moves c.args.anneal.now in
    let x = c.args.anneal.now.standing in
    let inv = c.loop-stage.invariant in
    let y = c.loop-stage.anneal.standing in
    let n = y.done - x.done in
    let low = inv.done in
    let cold_here : y.heat ≡ None = cold (run_of g.V.Words.moves c.loop-stage.anneal).plan y y.heat (sym c.stage.ensures ∙ c.in_default.is) in
    let over : IsOver r x n = ap (λ (z : Standing). z.heat) (sym inv.at.stands) ∙ cold_here in
    let plan : 0 < r.plan.moves = (let m = c.requires.plan.moves.0 in omega (arith, m)) in
    record {
      count = n;
      done = omega (arith, low);
      piece = inr (record { over = over; passed = λ m e. over_later r x n m over (inv.passed m e) });
      stands = inv.at.stands;
      accepted = inv.at.numbers;
      costs = inv.at.values;
      told = inv.at.told;
      counted = λ e. counted_by_turns r c.args.pace.now.batch c.args.anneal.now c.loop-stage.anneal plan (inv.turns e);
    }

pub returns-in_err-line-clause-cut : goal.returns-in_err-line-clause-cut
returns-in_err-line-clause-cut g c =
    let r = run_of g.V.Words.moves c.args.anneal.now in
    let x = c.args.anneal.now.standing in
    let n = c.loop-stage.anneal.standing.done - x.done in
    let old = g.W.Sink.contents c.args.report.now in
    let new = g.W.Sink.contents c.loop-stage.report in
    let begun = cut_between old new (stage_lines r x n) c.loop-stage.invariant.at.told in
    let p = err_from_is_err_and c.from_residual-in_err-line.result c.from_residual-in_err-line.ensures.1 in
    rw (p.1, p.2) (record { begun = (n, length (stage_lines r x n), (λ m here going. c.loop-stage.invariant.passed m here), begun); short = (λ q. absurd cc) })

pub returns-in_err-write_whole-clause-cut : goal.returns-in_err-write_whole-clause-cut
returns-in_err-write_whole-clause-cut g c =
    let r = run_of g.V.Words.moves c.args.anneal.now in
    let x = c.args.anneal.now.standing in
    let y = c.loop-stage.anneal.standing in
    let same = same_run g.V.Words.moves c.args.anneal.now c.loop-stage.anneal c.loop-stage.invariant.same in
    let n = y.done - x.done in
    let m = moves_left r y in
    let old = g.W.Sink.contents c.args.report.now in
    let mid = g.W.Sink.contents c.loop-stage.report in
    let new = g.W.Sink.contents c.write_whole.new.out in
    let cut = c.in_err-write_whole.ensures.beginning in
    let at = c.loop-stage.invariant.at in
    let line = c.deref.ensures.value ∙ c.in_ok-line.ensures.line ∙ (λ i. stage_lines (same i) y (moves_left (same i) y)) in
    let begun = cut_within r x y n m cut.0 old mid new c.deref.result.now at.told at.stands line cut.2 in
    let less = short_within r x y n m cut.0 c.deref.result.now at.stands line cut.1 in
    let k = length (stage_lines r x n) + cut.0 in
    let p = err_from_is_err_and c.from_residual-in_err-write_whole.result c.from_residual-in_err-write_whole.ensures.1 in
    let moves_are = c.requires.moves ∙ sym (ap (λ p. p.moves) c.loop-stage.invariant.same.plan) in
    let done = c.done.ensures.value in
    let low = c.loop-stage.invariant.done in
    let none = rw c.in_default-moves_before.is at c.moves_before.ensures in
    let left = left_is (run_of g.V.Words.moves c.loop-stage.anneal) y c.in-Some.stage c.args.pace.now.moves c.in-Some.ensures moves_are in
    let same_left : moves_left (run_of g.V.Words.moves c.loop-stage.anneal) y ≡ m = (λ i. moves_left (same i) y) in
    let within : IsWithin r x c.args.pace.now.stop (n + m) =
    λ j here going. (let before = c.loop-stage.invariant.passed j here in let there : c.args.pace.now.stop ≡ Some (c.done.result + (j - n)) = here ∙ ap (λ i. Some i) (omega (arith, done, before, low)) in let far = none (j - n) there in omega (arith, before, far, left, same_left)) in
    rw (p.1, p.2) (record { begun = (n + m, k, within, begun); short = (λ q. (n + m, within, (k, less, begun))) })

pub loop-stage-smaller : goal.loop-stage-smaller
loop-stage-smaller g c =
    let a = c.loop-stage.anneal in
    let r = run_of g.V.Words.moves a in
    let one : 1 ≤ r.plan.moves = (let s = c.requires.plan.moves.0 in let p = ap (λ q. q.moves) c.loop-stage.invariant.same.plan in omega (arith, s, p)) in
    let cooling = subst (λ p. IsCooling p.cooling) (sym c.loop-stage.invariant.same.plan) c.requires.plan.cooling in
    let pos = left_there r a.standing c.in-Some.stage c.in-Some.ensures one in
    let colder = colder_by_stage r a.standing (moves_left r a.standing) cooling pos refl in
    subst (λ s. warmth s.heat < warmth a.standing.heat) (sym c.in_ok-line.ensures.made.stands) colder

pub loop-stage-preserved : goal.loop-stage-preserved
loop-stage-preserved g c =
    let r = run_of g.V.Words.moves c.args.anneal.now in
    let x = c.args.anneal.now.standing in
    let y = c.loop-stage.anneal.standing in
    let z = c.end_stage.new.anneal.standing in
    let inv = c.loop-stage.invariant in
    let lined = c.in_ok-line.ensures in
    let made = lined.made in
    let same = same_run g.V.Words.moves c.args.anneal.now c.loop-stage.anneal inv.same in
    let n = y.done - x.done in
    let m = moves_left r y in
    let stands : z ≡ from r y m = made.stands ∙ (λ i. from (same i) y (moves_left (same i) y)) in
    let accepted = made.accepted ∙ (λ i. c.loop-stage.anneal.accepted ++ accepted_among (same i) y (moves_left (same i) y)) in
    let costs = lined.costs ∙ (λ i. c.loop-stage.costs.items ++ stage_costs (same i) y (moves_left (same i) y)) in
    let line = c.deref.ensures.value ∙ lined.line ∙ (λ i. stage_lines (same i) y (moves_left (same i) y)) in
    let told = subst (λ l. Appends (g.W.Sink.contents c.loop-stage.report) (g.W.Sink.contents c.write_whole.new.out) l) line c.in_ok-write_whole.ensures.whole in
    let on = told_on r x y z c.args.anneal.now.accepted c.loop-stage.anneal.accepted c.end_stage.new.anneal.accepted c.args.costs.now.items c.loop-stage.costs.items c.end_stage.new.costs.items (g.W.Sink.contents c.args.report.now) (g.W.Sink.contents c.loop-stage.report) (g.W.Sink.contents c.write_whole.new.out) n m inv.at stands accepted costs told in
    let done : z.done ≡ y.done + m = made.done ∙ (λ i. y.done + moves_left (same i) y) in
    let low = inv.done in
    let moves_are = c.requires.moves ∙ sym (ap (λ p. p.moves) inv.same.plan) in
    let at = c.done.ensures.value in
    let none = rw c.in_default-moves_before.is at c.moves_before.ensures in
    let left = left_is (run_of g.V.Words.moves c.loop-stage.anneal) y c.in-Some.stage c.args.pace.now.moves c.in-Some.ensures moves_are in
    let same_left : moves_left (run_of g.V.Words.moves c.loop-stage.anneal) y ≡ m = (λ i. moves_left (same i) y) in
    let count : n + m ≡ z.done - x.done = omega (arith, done, low) in
    let before = c.args.shower.now.shown in
    let leads = subst (λ q. LeadsShown q c.args.pace.now.batch y z c.loop-stage.shower.shown c.end_stage.new.shower.shown) same (made.shown refl) in
    record {
      dial = lined.dial ∙ inv.dial;
      shown = leads.on x before inv.shown;
      turns = λ e. by_turns_then r c.args.pace.now.batch c.args.anneal.now c.loop-stage.anneal c.end_stage.new.anneal (inv.turns e) (subst (λ q. LeadsByTurns q c.args.pace.now.batch c.loop-stage.anneal c.end_stage.new.anneal) same (made.turns e refl));
      same = same_twice c.args.anneal.now c.loop-stage.anneal c.end_stage.new.anneal inv.same made.same;
      at = subst (λ k. HasTold r x z c.args.anneal.now.accepted c.end_stage.new.anneal.accepted c.args.costs.now.items c.end_stage.new.costs.items (g.W.Sink.contents c.args.report.now) (g.W.Sink.contents c.write_whole.new.out) k) count on;
      done = omega (arith, done, low);
      passed = λ k e. (let before = inv.passed k e in let there : c.args.pace.now.stop ≡ Some (c.done.result + (k - n)) = e ∙ ap (λ j. Some j) (omega (arith, at, before, low)) in let far = none (k - n) there in omega (arith, before, far, left, same_left, done, low));
      sound = c.in_ok-write_whole.ensures.sound ∙ inv.sound;
    }

pub returns-in_err-make_moves-clause-cut : goal.returns-in_err-make_moves-clause-cut
returns-in_err-make_moves-clause-cut g c =
    let r = run_of g.V.Words.moves c.args.anneal.now in
    let x = c.args.anneal.now.standing in
    let n = c.loop-stage.anneal.standing.done - x.done in
    let old = g.W.Sink.contents c.args.report.now in
    let new = g.W.Sink.contents c.loop-stage.report in
    let begun = cut_between old new (stage_lines r x n) c.loop-stage.invariant.at.told in
    let p = err_from_is_err_and c.from_residual.result c.from_residual.ensures.1 in
    rw (p.1, p.2) (record { begun = (n, length (stage_lines r x n), (λ m here going. c.loop-stage.invariant.passed m here), begun); short = (λ q. absurd cc) })

pub returns-in-Some-moves_before-clause-made : goal.returns-in-Some-moves_before-clause-made
returns-in-Some-moves_before-clause-made g c =
    let r = run_of g.V.Words.moves c.args.anneal.now in
    let x = c.args.anneal.now.standing in
    let y = c.loop-stage.anneal.standing in
    let z = c.make_moves.new.anneal.standing in
    let inv = c.loop-stage.invariant in
    let made = c.in_ok-make_moves.ensures.made in
    let same = same_run g.V.Words.moves c.args.anneal.now c.loop-stage.anneal inv.same in
    let n = y.done - x.done in
    let rest = c.in-Some-moves_before.rest in
    let moves_are = c.requires.moves ∙ sym (ap (λ p. p.moves) inv.same.plan) in
    let left = left_is (run_of g.V.Words.moves c.loop-stage.anneal) y c.in-Some.stage c.args.pace.now.moves c.in-Some.ensures moves_are in
    let same_left : moves_left (run_of g.V.Words.moves c.loop-stage.anneal) y ≡ moves_left r y = (λ i. moves_left (same i) y) in
    let less = c.in-Some-moves_before.ensures.1 in
    let within : rest < moves_left r y = omega (arith, less, left, same_left) in
    let stands : z ≡ from r y rest = made.stands ∙ (λ i. from (same i) y rest) in
    let accepted = made.accepted ∙ (λ i. c.loop-stage.anneal.accepted ++ accepted_among (same i) y rest) in
    let costs : c.loop-stage.costs.items ≡ c.loop-stage.costs.items ++ stage_costs r y rest = sym (append-nil c.loop-stage.costs.items) ∙ ap (λ l. c.loop-stage.costs.items ++ l) (sym (no_costs r y rest within)) in
    let told = subst (λ l. Appends (g.W.Sink.contents c.loop-stage.report) (g.W.Sink.contents c.loop-stage.report) l) (sym (no_lines r y rest within)) (appends_none (g.W.Sink.contents c.loop-stage.report)) in
    let on = told_on r x y z c.args.anneal.now.accepted c.loop-stage.anneal.accepted c.make_moves.new.anneal.accepted c.args.costs.now.items c.loop-stage.costs.items c.loop-stage.costs.items (g.W.Sink.contents c.args.report.now) (g.W.Sink.contents c.loop-stage.report) (g.W.Sink.contents c.loop-stage.report) n rest inv.at stands accepted costs told in
    let low = inv.done in
    let at = c.done.ensures.value in
    let done = made.done in
    let here : c.args.pace.now.stop ≡ Some (x.done + (n + rest)) = c.in-Some-moves_before.ensures.0 ∙ ap (λ j. Some j) (omega (arith, at, low)) in
    let going : is_some (from r x (n + rest)).heat ≡ true = ap (λ (s : Standing). is_some s.heat) (from_add r x n rest ∙ ap (λ s. from r s rest) (sym inv.at.stands)) ∙ goes_on r y rest within in
    record {
      count = n + rest;
      done = omega (arith, done, low);
      piece = inl (record { here = here; going = going });
      stands = on.stands;
      accepted = on.numbers;
      costs = on.values;
      told = on.told;
      counted = λ e. counted_then r c.args.pace.now.batch c.args.anneal.now c.loop-stage.anneal c.make_moves.new.anneal (inv.turns e) (subst (λ q. AreCountedOn q c.args.pace.now.batch c.loop-stage.anneal c.make_moves.new.anneal) same (made.counted e));
    }

pub returns-clause-shown : goal.returns-clause-shown
returns-clause-shown g c =
    let r = run_of g.V.Words.moves c.args.anneal.now in
    shown_all r c.args.pace.now.batch c.args.anneal.now.standing c.args.shower.now.shown c.loop-stage.anneal.standing c.loop-stage.shower.shown c.loop-stage.invariant.shown

pub returns-in-Some-moves_before-clause-shown : goal.returns-in-Some-moves_before-clause-shown
returns-in-Some-moves_before-clause-shown g c =
    let inv = c.loop-stage.invariant in
    let same = same_run g.V.Words.moves c.args.anneal.now c.loop-stage.anneal inv.same in
    let y = c.loop-stage.anneal.standing in
    let z = c.make_moves.new.anneal.standing in
    let ends = subst (λ q. EndsShown q c.args.pace.now.batch y z c.loop-stage.shower.shown c.make_moves.new.shower.shown) same c.in_ok-make_moves.ensures.made.ends in
    ends.on c.args.anneal.now.standing c.args.shower.now.shown inv.shown

pub returns-in_err-make_moves-clause-shown_cut : goal.returns-in_err-make_moves-clause-shown_cut
returns-in_err-make_moves-clause-shown_cut g c =
    let r = run_of g.V.Words.moves c.args.anneal.now in
    let x = c.args.anneal.now.standing in
    let y = c.loop-stage.anneal.standing in
    let inv = c.loop-stage.invariant in
    let same = same_run g.V.Words.moves c.args.anneal.now c.loop-stage.anneal inv.same in
    let rest = c.in-Some-moves_before.rest in
    let part = subst (λ q. LeadsShownWithin q c.args.pace.now.batch y rest c.loop-stage.shower.shown c.make_moves.new.shower.shown) same c.in_err-make_moves.ensures.made.shown_cut in
    let at = c.done.ensures.value in
    let low = inv.done in
    let within : IsWithin r x c.args.pace.now.stop (y.done - x.done + rest) =
    λ m here going. (
    let both : Some (c.done.result + rest) ≡ Some (x.done + m) = sym c.in-Some-moves_before.ensures.0 ∙ here in
    let one : c.done.result + rest ≡ x.done + m = (let k = both in cc) in
    omega (arith, one, at, low)
    ) in
    let fact = begun_within r c.args.pace.now.batch x c.args.shower.now.shown y c.loop-stage.shower.shown rest c.args.pace.now.stop c.make_moves.new.shower.shown inv.shown part within in
    search (rules, fact)

pub returns-in_err-line-clause-shown_cut : goal.returns-in_err-line-clause-shown_cut
returns-in_err-line-clause-shown_cut g c =
    let r = run_of g.V.Words.moves c.args.anneal.now in
    let x = c.args.anneal.now.standing in
    let y = c.loop-stage.anneal.standing in
    let inv = c.loop-stage.invariant in
    let same = same_run g.V.Words.moves c.args.anneal.now c.loop-stage.anneal inv.same in
    let m = moves_left r y in
    let n = y.done - x.done in
    let part = subst (λ q. LeadsShownWithin q c.args.pace.now.batch y (moves_left q y) c.loop-stage.shower.shown c.end_stage.new.shower.shown) same c.in_err-line.ensures.made.shown_cut in
    let moves_are = c.requires.moves ∙ sym (ap (λ p. p.moves) inv.same.plan) in
    let done = c.done.ensures.value in
    let low = inv.done in
    let none = rw c.in_default-moves_before.is at c.moves_before.ensures in
    let left = left_is (run_of g.V.Words.moves c.loop-stage.anneal) y c.in-Some.stage c.args.pace.now.moves c.in-Some.ensures moves_are in
    let same_left : moves_left (run_of g.V.Words.moves c.loop-stage.anneal) y ≡ m = (λ i. moves_left (same i) y) in
    let within : IsWithin r x c.args.pace.now.stop (n + m) =
    λ j here going. (let before = inv.passed j here in let there : c.args.pace.now.stop ≡ Some (c.done.result + (j - n)) = here ∙ ap (λ i. Some i) (omega (arith, done, before, low)) in let far = none (j - n) there in omega (arith, before, far, left, same_left)) in
    let fact = begun_within r c.args.pace.now.batch x c.args.shower.now.shown y c.loop-stage.shower.shown m c.args.pace.now.stop c.end_stage.new.shower.shown inv.shown part within in
    search (rules, fact)

pub returns-in_err-write_whole-clause-shown_cut : goal.returns-in_err-write_whole-clause-shown_cut
returns-in_err-write_whole-clause-shown_cut g c =
    let r = run_of g.V.Words.moves c.args.anneal.now in
    let x = c.args.anneal.now.standing in
    let y = c.loop-stage.anneal.standing in
    let z = c.end_stage.new.anneal.standing in
    let inv = c.loop-stage.invariant in
    let same = same_run g.V.Words.moves c.args.anneal.now c.loop-stage.anneal inv.same in
    let m = moves_left r y in
    let n = y.done - x.done in
    let leads = subst (λ q. LeadsShown q c.args.pace.now.batch y z c.loop-stage.shower.shown c.end_stage.new.shower.shown) same (c.in_ok-line.ensures.made.shown refl) in
    let made : z.done ≡ y.done + m = c.in_ok-line.ensures.made.done ∙ (λ i. y.done + moves_left (same i) y) in
    let part : LeadsShownWithin r c.args.pace.now.batch y m c.loop-stage.shower.shown c.end_stage.new.shower.shown = record { there = z; near = omega (arith, made); leads = leads } in
    let moves_are = c.requires.moves ∙ sym (ap (λ p. p.moves) inv.same.plan) in
    let done = c.done.ensures.value in
    let low = inv.done in
    let none = rw c.in_default-moves_before.is at c.moves_before.ensures in
    let left = left_is (run_of g.V.Words.moves c.loop-stage.anneal) y c.in-Some.stage c.args.pace.now.moves c.in-Some.ensures moves_are in
    let same_left : moves_left (run_of g.V.Words.moves c.loop-stage.anneal) y ≡ m = (λ i. moves_left (same i) y) in
    let within : IsWithin r x c.args.pace.now.stop (n + m) =
    λ j here going. (let before = inv.passed j here in let there : c.args.pace.now.stop ≡ Some (c.done.result + (j - n)) = here ∙ ap (λ i. Some i) (omega (arith, done, before, low)) in let far = none (j - n) there in omega (arith, before, far, left, same_left)) in
    let fact = begun_within r c.args.pace.now.batch x c.args.shower.now.shown y c.loop-stage.shower.shown m c.args.pace.now.stop c.end_stage.new.shower.shown inv.shown part within in
    search (rules, fact)

pub make_moves-requires-clause-some : goal.make_moves-requires-clause-some
make_moves-requires-clause-some g c κs within =
    let y = c.loop-stage.anneal.standing in
    let moves_are = c.requires.moves ∙ sym (ap (λ p. p.moves) c.loop-stage.invariant.same.plan) in
    let left = left_is (run_of g.V.Words.moves c.loop-stage.anneal) y c.in-Some.stage c.args.pace.now.moves c.in-Some.ensures moves_are in
    let less = c.in-Some-moves_before.ensures.1 in
    (omega (arith, less, left), omega (arith, less, left))
