use Rattle.std.proofs.Common.{◌≡◌, ◌-◌, [], length, false, refl, sym, ap, subst, ◌∙◌, arith}
use Rattle.std.proofs.lemmas.Bool.{false≢true}
use Rattle.std.proofs.lemmas.Result.{err_from_is_err_and}
use Rattle.std.specs.Prelude.{is_some, true}
use Rattle.fab_commit.specs.declared.run.alone.OnBase.{OnBase}
use Rattle.fab_commit.specs.declared.run.pipeline.Pipeline.{Pipeline}
use Rattle.fab_commit.specs.Serial.{Standing, moves_left}
use Rattle.fab_commit.specs.Run.Commits.{heat_of, run_for, standing_of}
use Rattle.fab_commit.specs.Run.Foreseen.{AreForeseen}
use Rattle.fab_commit.specs.Run.Pipelines.{AreJudged, HasTurned, IsAfter}
use Rattle.fab_commit.specs.Model.TurnEvents.{LastTurn, next_turn, stands}
use Rattle.fab_commit.proofs.ModelLemmas.Happening.{done_fits}
use Rattle.fab_commit.proofs.RunLemmas.InTurns.{at_turn_after, turned, turned_cut}
use Rattle.fab_commit.proofs.RunLemmas.Annealing.{some_left, some_moves}
use Rattle.fab_commit.proofs.RunLemmas.Followed.{IsPostOf, may_follow}
use Rattle.fab_commit.proofs.run.crew_turn.make_turn.Goals as goal

pub turn_of-turned-requires-clause-at_turn : goal.turn_of-turned-requires-clause-at_turn
turn_of-turned-requires-clause-at_turn g c κs within =
    let r = run_for g.W.Words.moves c.args.given.now in
    let s = c.args.state.now in
    let long = c.len.ensures in
    let kept = s.ahead.ok.0 in
    let all : c.len.result ≡ length s.ahead.items = omega (arith, long, kept) in
    let ahead : OnBase = record { base = s.base; moves = c.len.result } in
    let t = c.requires.behind.0 in
    let b = c.requires.behind.1 in
    (t, at_turn_after r t s ahead b refl all, ((λ _. c.requires.tied), (λ e. absurd (false≢true e)), (λ e. absurd (false≢true e))), subst (AreForeseen r t.start s.owner.state.done) (sym c.deref.ensures.value) b.judged.foreseen_are)

pub turn_of-turned-requires-clause-few : goal.turn_of-turned-requires-clause-few
turn_of-turned-requires-clause-few g c κs within =
    let long = c.len.ensures in
    let kept = c.args.state.now.ahead.ok.0 in
    let same = c.requires.behind.1.judged.long in
    let seen = ap (λ l. length l) c.deref.ensures.value in
    omega (arith, long, kept, same, seen)

pub judged_ahead-requires-clause-may : goal.judged_ahead-requires-clause-may
judged_ahead-requires-clause-may g c =
    let r = run_for g.W.Words.moves c.args.given.now in
    let s = c.args.state.now.owner.state in
    let x = standing_of s in
    let p = c.post_of-last in
    let is : IsPostOf s [] p.result = record { swaps_are = p.ensures.swaps ∙ c.new.ensures.items; stage = p.ensures.stage; rest = p.ensures.rest; cost = p.ensures.cost } in
    (x, may_follow r x s [] p.result c.requires.behind.1.at_turn.owned.sound refl is, c.in-Ok.ensures.tied)

pub judged_ahead-requires-clause-limits : goal.judged_ahead-requires-clause-limits
judged_ahead-requires-clause-limits g c =
    let r = run_for g.W.Words.moves c.args.given.now in
    let s = c.args.state.now in
    let long = c.len.ensures in
    let kept = s.ahead.ok.0 in
    let all : c.len.result ≡ length s.ahead.items = omega (arith, long, kept) in
    let ahead : OnBase = record { base = s.base; moves = c.len.result } in
    let t = c.requires.behind.0 in
    let b = c.requires.behind.1 in
    let gone = c.in-Ok.ensures.counted refl t (at_turn_after r t s ahead b refl all) in
    let now = c.turn_of-turned.new.owner.state in
    let few = done_fits r now now.ended b.at_turn.plan gone.at_turn.owned.sound refl in
    let many = gone.at_turn.many in
    let batch = c.requires.batch.1 in
    (grind (arith, few), omega (arith, many, batch))

pub returns-in-Err : goal.returns-in-Err
returns-in-Err g c =
    let r = run_for g.W.Words.moves c.args.given.now in
    let s = c.args.state.now in
    let long = c.len.ensures in
    let kept = s.ahead.ok.0 in
    let all : c.len.result ≡ length s.ahead.items = omega (arith, long, kept) in
    let ahead : OnBase = record { base = s.base; moves = c.len.result } in
    let now : Pipeline = record { owner = c.turn_of-turned.new.owner; ahead = c.clear.new.self; foreseen = c.clear-2.new.self; base = s.owner.state.done; ready = c.turn_of-turned.new.ready } in
    let t0 = c.requires.behind.0 in
    let b0 = c.requires.behind.1 in
    let done = (c.in-Err.ensures.counted refl t0 (at_turn_after r t0 s ahead b0 refl all)).further.done in
    let none : 0 ≡ now.owner.state.done - s.owner.state.done = omega (arith, done) in
    let hot : is_some (heat_of s.owner.state.ended s.owner.state.stage.t) ≡ true = ap (λ e. is_some (heat_of e s.owner.state.stage.t)) c.requires.going in
    record {
      within = (omega (arith, done), omega (arith, done));
      ok = tt;
      err = λ (t : LastTurn) (b : IsAfter r t s).
          let gone = c.in-Err.ensures.counted refl t (at_turn_after r t s ahead b refl all) in
          subst (λ n. HasTurned r t s n 0 now) none (turned_cut r t s now _ 0 0 gone refl c.clear.ensures.items c.clear-2.ensures.items);
      some = some_left r (standing_of s.owner.state) (some_moves r t0 s b0) hot;
    }

pub returns-in_err-judged : goal.returns-in_err-judged
returns-in_err-judged g c =
    let r = run_for g.W.Words.moves c.args.given.now in
    let s = c.args.state.now in
    let long = c.len.ensures in
    let kept = s.ahead.ok.0 in
    let all : c.len.result ≡ length s.ahead.items = omega (arith, long, kept) in
    let ahead : OnBase = record { base = s.base; moves = c.len.result } in
    let now : Pipeline = record { owner = c.turn_of-turned.new.owner; ahead = c.clear.new.self; foreseen = c.clear-2.new.self; base = s.owner.state.done; ready = c.turn_of-turned.new.ready } in
    let t0 = c.requires.behind.0 in
    let b0 = c.requires.behind.1 in
    let first = c.in-Ok.ensures.counted refl t0 (at_turn_after r t0 s ahead b0 refl all) in
    let done = first.further.done in
    let there : moves_left r (standing_of s.owner.state) ≡ moves_left r (stands r t0) = ap (moves_left r) b0.at_turn.led.here in
    let hot : is_some (heat_of s.owner.state.ended s.owner.state.stage.t) ≡ true = ap (λ e. is_some (heat_of e s.owner.state.stage.t)) c.requires.going in
    let p = err_from_is_err_and c.from_residual.result c.from_residual.ensures.1 in
    rw (p.1) (record {
      within = (omega (arith, done), omega (arith, done, there));
      ok = tt;
      err = λ (t : LastTurn) (b : IsAfter r t s).
          let gone = c.in-Ok.ensures.counted refl t (at_turn_after r t s ahead b refl all) in
          let made = gone.further.done in
          let n : (next_turn r c.args.plan.now.batch t).made ≡ now.owner.state.done - s.owner.state.done = omega (arith, made) in
          let base = gone.at_turn.led.base_is ∙ sym (ap (λ (x : Standing). x.done) b.at_turn.led.here) in
          subst (λ n. HasTurned r t s n 0 now) n (turned_cut r t s now c.in-Ok.ahead (next_turn r c.args.plan.now.batch t).made (next_turn r c.args.plan.now.batch t).ahead gone base c.clear.ensures.items c.clear-2.ensures.items);
      some = some_left r (standing_of s.owner.state) (some_moves r t0 s b0) hot;
    })

pub returns : goal.returns
returns g c =
    let r = run_for g.W.Words.moves c.args.given.now in
    let s = c.args.state.now in
    let long = c.len.ensures in
    let kept = s.ahead.ok.0 in
    let all : c.len.result ≡ length s.ahead.items = omega (arith, long, kept) in
    let ahead : OnBase = record { base = s.base; moves = c.len.result } in
    let now : Pipeline = record { owner = c.turn_of-turned.new.owner; ahead = c.in_ok-judged.judged.answers; foreseen = c.in_ok-judged.judged.foreseen; base = s.owner.state.done; ready = c.turn_of-turned.new.ready } in
    let t0 = c.requires.behind.0 in
    let b0 = c.requires.behind.1 in
    let first = c.in-Ok.ensures.counted refl t0 (at_turn_after r t0 s ahead b0 refl all) in
    let done = first.further.done in
    let there : moves_left r (standing_of s.owner.state) ≡ moves_left r (stands r t0) = ap (moves_left r) b0.at_turn.led.here in
    let judged = c.in_ok-judged.ensures.judged (standing_of s.owner.state) c.in-Ok.ensures.tied in
    record {
      within = (omega (arith, done), omega (arith, done, there));
      ok = λ (t : LastTurn) (b : IsAfter r t s).
          let gone = c.in-Ok.ensures.counted refl t (at_turn_after r t s ahead b refl all) in
          let base = gone.at_turn.led.base_is ∙ sym (ap (λ (x : Standing). x.done) b.at_turn.led.here) in
          turned r t s now c.in-Ok.ahead (next_turn r c.args.plan.now.batch t).made (next_turn r c.args.plan.now.batch t).ahead gone base (sym c.in_ok-judged.ensures.many)
          (subst (λ x. AreJudged r x now.owner.state.done now.ahead.items now.foreseen.items) b.at_turn.led.here judged);
      err = tt;
      some = tt;
    }
