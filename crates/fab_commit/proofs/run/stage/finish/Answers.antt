use Rattle.std.proofs.Common.{◌≡◌, ◌+◌, ◌-◌, min, false, length, replicate, refl, sym, ap, subst, ◌∙◌, arith}
use Rattle.std.proofs.lemmas.Bool.{false≢true}
use Rattle.std.proofs.lemmas.Result.{err_from_is_err_and}
use Rattle.fab_commit.specs.declared.run.alone.OnBase.{OnBase}
use Rattle.fab_commit.specs.Serial.{moves_left}
use Rattle.fab_commit.specs.Run.Stages.{HaveEnded, HaveStopped, LeadsTo, unjudged}
use Rattle.fab_commit.specs.Run.Commits.{run_for, standing_of}
use Rattle.fab_commit.specs.Run.Further.{IsFurther}
use Rattle.fab_commit.specs.Model.Turns.{last_turn}
use Rattle.fab_commit.proofs.RunLemmas.InTurns.{at_turn_after, after_at_turn, have_stopped}
use Rattle.fab_commit.proofs.RunLemmas.Going.{further_more}
use Rattle.fab_commit.proofs.RunLemmas.Parts.{nothing_ahead}
use Rattle.fab_commit.proofs.RunLemmas.Staging.{HasTold, come_first, come_left, come_on, come_size, told_first, told_on}
use Rattle.fab_commit.proofs.run.stage.finish.Goals as goal

pub turns-init : goal.turns-init
turns-init g c =
    let r = run_for g.W.Words.moves c.args.given.now in
    let s = c.args.state.now in
    let o = s.owner in
    let batch = c.args.plan.now.batch in
    let count = c.args.plan.now.count in
    let long = c.len.ensures in
    let kept = s.ahead.ok.0 in
    let all : c.len.result ≡ length s.ahead.items = omega (arith, long, kept) in
    let ahead : OnBase = record { base = s.base; moves = c.len.result } in
    let t = c.requires.may.behind.0 in
    let b = c.requires.may.behind.1 in
    record {
      some = (t, at_turn_after r t s ahead b refl all, ((λ _. c.requires.beside), (λ e. absurd (false≢true e)), (λ e. absurd (false≢true e))));
      nobody = c.requires.nobody;
      come = come_first r batch count o.state c.args.shower.now.shown b.at_turn.owned.sound;
      told = λ e. subst (λ n. HasTold r batch count o (record { base = s.base; moves = n }) count o ahead) all (told_first r batch count o ahead c.requires.may.some.1);
      same = λ e. refl;
      dial = refl;
      base = refl;
      empty = (c.clear.ensures.items, c.clear-2.ensures.items);
    }

pub one_turn-requires-clause-nobody : goal.one_turn-requires-clause-nobody
one_turn-requires-clause-nobody g c κs within = c.turns.invariant.nobody

pub overflow_sub-rest-in-turns : goal.overflow_sub-rest-in-turns
overflow_sub-rest-in-turns g c =
    let r = run_for g.W.Words.moves c.args.given.now in
    let batch = c.args.plan.now.batch in
    let count = c.args.plan.now.count in
    let inv = c.turns.invariant in
    let left = c.moves_left-left.ensures in
    let next = c.next_batch-batch.ensures in
    let more = c.turns-test.true in
    let all = c.requires.may.some.0 in
    let made = c.in_ok-one_turn.ensures.further.done in
    let size = come_size r batch c.next_batch-batch.result count c.turns.rest c.args.state.now.owner.state c.turns.state.owner.state c.args.shower.now.shown c.turns.shower.shown inv.come more all next.whole (λ l. next.last (omega (arith, l, left))) (λ s l. next.shorter s (omega (arith, l, left))) in
    omega (arith, made, size)

pub turns-smaller : goal.turns-smaller
turns-smaller g c =
    let r = run_for g.W.Words.moves c.args.given.now in
    let batch = c.args.plan.now.batch in
    let count = c.args.plan.now.count in
    let inv = c.turns.invariant in
    let left = c.moves_left-left.ensures in
    let next = c.next_batch-batch.ensures in
    let more = c.turns-test.true in
    let all = c.requires.may.some.0 in
    let one = c.requires.may.batch_is.0 in
    let made = c.in_ok-one_turn.ensures.further.done in
    let size = come_size r batch c.next_batch-batch.result count c.turns.rest c.args.state.now.owner.state c.turns.state.owner.state c.args.shower.now.shown c.turns.shower.shown inv.come more all next.whole (λ l. next.last (omega (arith, l, left))) (λ s l. next.shorter s (omega (arith, l, left))) in
    omega (arith, made, size, one, more)

pub turns-preserved : goal.turns-preserved
turns-preserved g c =
    let r = run_for g.W.Words.moves c.args.given.now in
    let s = c.args.state.now in
    let o = s.owner in
    let mid = c.turns.state.owner in
    let now = c.one_turn.new.state.owner in
    let batch = c.args.plan.now.batch in
    let count = c.args.plan.now.count in
    let rest = c.turns.rest in
    let m = now.state.done - mid.state.done in
    let inv = c.turns.invariant in
    let left = c.moves_left-left.ensures in
    let next = c.next_batch-batch.ensures in
    let more = c.turns-test.true in
    let all = c.requires.may.some.0 in
    let one = c.requires.may.batch_is.0 in
    let turn = c.in_ok-one_turn.ensures in
    let made = turn.further.done in
    let size = come_size r batch c.next_batch-batch.result count c.turns.rest o.state c.turns.state.owner.state c.args.shower.now.shown c.turns.shower.shown inv.come more all next.whole (λ l. next.last (omega (arith, l, left))) (λ s l. next.shorter s (omega (arith, l, left))) in
    let m_is : min c.next_batch-batch.result (moves_left r (standing_of mid.state)) ≡ m = omega (arith, made) in
    let few : m ≡ min batch rest = omega (arith, made, size) in
    let come = come_on r batch count rest m o.state mid.state now.state c.args.shower.now.shown c.turns.shower.shown c.one_turn.new.shower.shown inv.come more one all few (subst (λ k. IsFurther r mid.state k now.state) m_is turn.further) turn.shown in
    record {
      some = turn.led;
      nobody = turn.nobody;
      come = come;
      told = λ e.
          told_on r batch c.next_batch-batch.result count rest m o mid now (record { base = s.base; moves = length s.ahead.items }) c.turns.course.ahead c.one_turn.new.course.ahead inv.come.low (inv.told e) more (omega (arith, few))
          (come_left r batch count rest o.state mid.state c.args.shower.now.shown c.turns.shower.shown inv.come more all)
          next.whole (λ l. next.last (omega (arith, l, left))) (λ s l. next.shorter s (omega (arith, l, left))) (turn.counted e) inv.some.0 inv.some.1 (omega (arith, made));
      same = λ e. turn.same e ∙ inv.same e;
      dial = turn.dial ∙ inv.dial;
      base = turn.base;
      empty = (ap (λ v. v.items) turn.empty.0 ∙ inv.empty.0, ap (λ v. v.items) turn.empty.1 ∙ inv.empty.1);
    }

pub returns-in_err-one_turn-clause-finished : goal.returns-in_err-one_turn-clause-finished
returns-in_err-one_turn-clause-finished g c =
    let r = run_for g.W.Words.moves c.args.given.now in
    let batch = c.args.plan.now.batch in
    let s = c.args.state.now in
    let x = standing_of s.owner.state in
    let mid = c.turns.state.owner in
    let now = c.one_turn.new.state in
    let due = c.one_turn.new.course.ahead in
    let made = c.args.plan.now.count - c.turns.rest in
    let inv = c.turns.invariant in
    let none : made + 0 ≡ made = omega arith in
    let f = c.in_err-one_turn.ensures in
    let ahead = ap (λ v. v.items) f.empty.0 ∙ inv.empty.0 in
    let foreseen = ap (λ v. v.items) f.empty.1 ∙ inv.empty.1 in
    let p = err_from_is_err_and c.from_residual.result c.from_residual.ensures.1 in
    rw (p.1) (record {
      left = (unjudged f.led.0, after_at_turn r (unjudged f.led.0) now (record { base = due.base; moves = 0 }) (nothing_ahead r f.led.0 now.owner due f.led.1) refl ahead foreseen f.base);
      none = ahead;
      made = record {
        made = made;
        few = omega arith;
        further = subst (λ k. IsFurther r s.owner.state k now.owner.state) none (further_more r s.owner.state mid.state now.owner.state made 0 inv.come.further f.further);
        ok = tt;
        shown = tt;
        ends = tt;
        cut =
            subst (λ y. LeadsTo r batch x y c.args.shower.now.shown c.one_turn.new.shower.shown) (sym f.further.stands)
            (subst (λ l. LeadsTo r batch x (standing_of mid.state) c.args.shower.now.shown l) (sym f.kept) (inv.come.going c.turns-test.true));
      };
      told = λ e. record {
        ended = tt;
        stopped = λ t a.
            let h = (inv.told e).gone c.turns-test.true t a in
            let on = f.counted e (last_turn r t (replicate h.0 batch)) h.1.at_turn in
            let stopped = have_stopped r batch t s.owner mid now.owner c.turns.course.ahead due h.0 made h.1 on in
            (h.0, made, omega arith, subst (λ k. HaveStopped r batch t s.owner h.0 made now.owner (record { base = k; moves = 0 })) (sym f.base) (subst (λ k. HaveStopped r batch t s.owner h.0 made now.owner (record { base = due.base; moves = k })) f.none stopped));
      };
      same = λ e. f.same e ∙ inv.same e;
    })

pub returns-in_err-one_turn-clause-dial : goal.returns-in_err-one_turn-clause-dial
returns-in_err-one_turn-clause-dial g c = c.in_err-one_turn.ensures.dial ∙ c.turns.invariant.dial

pub returns-clause-finished : goal.returns-clause-finished
returns-clause-finished g c =
    let r = run_for g.W.Words.moves c.args.given.now in
    let batch = c.args.plan.now.batch in
    let count = c.args.plan.now.count in
    let s = c.args.state.now in
    let now = c.turns.state in
    let due = c.turns.course.ahead in
    let inv = c.turns.invariant in
    let end = c.turns-test.false in
    let all : count - c.turns.rest ≡ count = omega (arith, end) in
    record {
      left = (unjudged inv.some.0, after_at_turn r (unjudged inv.some.0) now (record { base = due.base; moves = 0 }) (nothing_ahead r inv.some.0 now.owner due inv.some.1) refl inv.empty.0 inv.empty.1 inv.base);
      none = inv.empty.0;
      made = record {
        made = count;
        few = omega arith;
        further = subst (λ k. IsFurther r s.owner.state k now.owner.state) all inv.come.further;
        ok = refl;
        shown = inv.come.whole;
        ends = inv.come.ends;
        cut = tt;
      };
      told = λ e. record {
        ended = λ t a. subst (λ k. HaveEnded r batch t s.owner count now.owner (record { base = k; moves = 0 })) (sym inv.base) ((inv.told e).ended (omega (arith, end)) t a);
        stopped = tt;
      };
      same = inv.same;
    }

pub returns-clause-dial : goal.returns-clause-dial
returns-clause-dial g c = c.turns.invariant.dial
