use Rattle.std.proofs.Common.{◌≡◌, ◌+◌, ◌-◌, Bool, cond, false, true, not, min, take, refl, sym, ap, subst, ◌∙◌, arith}
use Rattle.std.proofs.lemmas.Bool.{false≢true}
use Rattle.std.proofs.lemmas.List.{length-take}
use Rattle.std.proofs.lemmas.Result.{err_from_is_err_and}
use Rattle.std.specs.Prelude.{IfSome}
use Rattle.std.specs.List.{count_by, range_with_len}
use Rattle.fab_commit.specs.Serial.{Standing, moves_left}
use Rattle.fab_commit.specs.Run.Commits.{run_for, standing_of}
use Rattle.fab_commit.specs.Run.Followed.{IsTied, IsYetToFollow}
use Rattle.fab_commit.specs.Run.Foreseen.{AreForeseen}
use Rattle.fab_commit.specs.Run.Owners.{HasMade}
use Rattle.fab_commit.specs.Model.TurnEvents.{is_redone_behind, next_turn, stands}
use Rattle.fab_commit.proofs.RunLemmas.InTurns.{both_counted, found, gone, gone_nowhere, led_nowhere, open_ahead, open_here}
use Rattle.fab_commit.proofs.RunLemmas.Followed.{if_some, yet_to_follow}
use Rattle.fab_commit.proofs.RunLemmas.Making.{is_on}
use Rattle.fab_commit.proofs.RunLemmas.Moves.{may_open}
use Rattle.fab_commit.proofs.RunLemmas.Noting.{has_less}
use Rattle.fab_commit.proofs.RunLemmas.Owning.{made_more}
use Rattle.fab_commit.proofs.RunLemmas.Pipelining.{foreseen_take}
use Rattle.fab_commit.proofs.run.followed.turn_of.Goals as goal

-- what is not off is on
not_on : (b : Bool) → not b ≡ true → b ≡ false
not_on true e = absurd (false≢true e)
not_on false e = refl

pub returns-in_err-reserve-clause-counted : goal.returns-in_err-reserve-clause-counted
returns-in_err-reserve-clause-counted g c e =
    let r = run_for g.W.Words.moves c.args.given.now in
    let s = c.args.owner.now in
    let o = c.reserve.new.owner in
    let p = err_from_is_err_and c.from_residual.result c.from_residual.ensures.1 in
    rw (p.1) (λ t at.
    let f = found r t s o c.taken_swaps-swaps.new.swaps c.args.course.ahead at c.taken_swaps-swaps.ensures.left (c.in_err-reserve.ensures.same r) c.in_err-reserve.ensures.stamps c.in_err-reserve.ensures.redone in
    gone_nowhere r t s o c.args.course.ahead _ at f.ready f.owned refl refl)

pub ask-requires-clause-plan : goal.ask-requires-clause-plan
ask-requires-clause-plan g c = c.requires.at_turn.1.plan

pub ask-requires-clause-sound : goal.ask-requires-clause-sound
ask-requires-clause-sound g c =
    let r = run_for g.W.Words.moves c.args.given.now in
    (found r c.requires.at_turn.0 c.args.owner.now c.reserve.new.owner c.taken_swaps-swaps.new.swaps c.args.course.ahead c.requires.at_turn.1 c.taken_swaps-swaps.ensures.left (c.in_ok-reserve.ensures.same r) c.in_ok-reserve.ensures.stamps c.in_ok-reserve.ensures.redone).owned.sound

pub ask-requires-clause-limits : goal.ask-requires-clause-limits
ask-requires-clause-limits g c =
    let batch = c.requires.batch.1 in
    let moves = c.shape_of-shape.ensures.moves in
    let judged = c.shape_of-shape.ensures.judged in
    (omega (arith, moves, judged), omega (arith, moves, batch))

pub ask-requires-clause-yet : goal.ask-requires-clause-yet
ask-requires-clause-yet g c =
    let r = run_for g.W.Words.moves c.args.given.now in
    let s = c.args.owner.now in
    let o = c.reserve.new.owner in
    let t = c.requires.at_turn.0 in
    let begun = c.args.course.begun in
    let taken = c.taken_swaps-swaps.ensures in
    let f = found r t s o c.taken_swaps-swaps.new.swaps c.args.course.ahead c.requires.at_turn.1 taken.left (c.in_ok-reserve.ensures.same r) c.in_ok-reserve.ensures.stamps c.in_ok-reserve.ensures.redone in
    let yet = yet_to_follow g.S.Pursue.run g.S.Pursue.standing g.S.Follow.after g.J.Origin.start r t s o c.taken_swaps-swaps.result.items begun c.args.followers.now c.requires.at_turn.2 f.ready.stands taken.taken taken.none in
    (cond begun t.start (standing_of s.state), subst (λ w. IsYetToFollow g.S.Pursue.run g.S.Pursue.standing g.S.Follow.after g.J.Origin.start r (cond begun t.start (standing_of s.state)) o.state c.taken_swaps-swaps.result.items begun w) (sym taken.same) yet)

pub commit_part-requires-clause-few : goal.commit_part-requires-clause-few
commit_part-requires-clause-few g c κs within =
    let n = length-take c.min.result c.args.kept.now in
    let least = c.min.ensures in
    omega (arith, n, least)

pub commit_part-requires-clause-may : goal.commit_part-requires-clause-may
commit_part-requires-clause-may g c κs within =
    let r = run_for g.W.Words.moves c.args.given.now in
    let s = c.args.owner.now in
    let o = c.reserve.new.owner in
    let at = c.requires.at_turn.1 in
    let moves = c.shape_of-shape.ensures.moves in
    let judged = c.shape_of-shape.ensures.judged in
    let f = found r c.requires.at_turn.0 s o c.taken_swaps-swaps.new.swaps c.args.course.ahead at c.taken_swaps-swaps.ensures.left (c.in_ok-reserve.ensures.same r) c.in_ok-reserve.ensures.stamps c.in_ok-reserve.ensures.redone in
    may_open r o c.args.course.ahead.base c.shape_of-shape.result.judged at.plan f.owned (has_less true o c.shape_of-shape.result.moves c.shape_of-shape.result.judged (omega (arith, moves, judged)) c.in_ok-reserve.ensures.room)
    (open_ahead r c.requires.at_turn.0 s o c.args.course.ahead c.shape_of-shape.result.judged at f.ready (omega (arith, judged))).due

pub commit_part-requires-clause-due : goal.commit_part-requires-clause-due
commit_part-requires-clause-due g c κs within =
    let r = run_for g.W.Words.moves c.args.given.now in
    let s = c.args.owner.now in
    let o = c.reserve.new.owner in
    let t = c.requires.at_turn.0 in
    let at = c.requires.at_turn.1 in
    let begun = c.args.course.begun in
    let judged = c.shape_of-shape.ensures.judged in
    let taken = c.taken_swaps-swaps.ensures in
    let f = found r t s o c.taken_swaps-swaps.new.swaps c.args.course.ahead at taken.left (c.in_ok-reserve.ensures.same r) c.in_ok-reserve.ensures.stamps c.in_ok-reserve.ensures.redone in
    let next = open_ahead r t s o c.args.course.ahead c.shape_of-shape.result.judged at f.ready (omega (arith, judged)) in
    let kept = foreseen_take r t.start s.state.done c.min.result c.args.kept.now c.requires.at_turn.3 in
    let number : s.state.done ≡ o.state.done = ap (λ (x : Standing). x.done) (sym f.ready.stands) in
    let yet = yet_to_follow g.S.Pursue.run g.S.Pursue.standing g.S.Follow.after g.J.Origin.start r t s o c.taken_swaps-swaps.result.items begun c.args.followers.now c.requires.at_turn.2 f.ready.stands taken.taken taken.none in
    let asked = c.ask.ensures (cond begun t.start (standing_of s.state)) (subst (λ w. IsYetToFollow g.S.Pursue.run g.S.Pursue.standing g.S.Follow.after g.J.Origin.start r (cond begun t.start (standing_of s.state)) o.state c.taken_swaps-swaps.result.items begun w) (sym taken.same) yet) in (
      next.due,
      subst (λ x. AreForeseen r x o.state.done (take c.min.result c.args.kept.now)) (sym next.is) (subst (λ k. AreForeseen r t.start k (take c.min.result c.args.kept.now)) number kept),
      (λ e. if_some _ _ c.ask.new.followers asked (λ p h. subst (IsTied g.S.Pursue.run g.S.Pursue.standing g.S.Follow.after g.J.Origin.start p.1 r) (ap (λ b. cond b t.start (standing_of s.state)) e ∙ sym next.is) h.0)),
    )

pub commit_part-requires-2-clause-few : goal.commit_part-requires-2-clause-few
commit_part-requires-2-clause-few g c κs within = omega arith

pub commit_part-requires-2-clause-may : goal.commit_part-requires-2-clause-may
commit_part-requires-2-clause-may g c κs within =
    let r = run_for g.W.Words.moves c.args.given.now in
    let s = c.args.owner.now in
    let o = c.reserve.new.owner in
    let at = c.requires.at_turn.1 in
    let n = c.shape_of-shape.result.judged in
    let m = c.shape_of-shape.result.moves - c.shape_of-shape.result.judged in
    let moves = c.shape_of-shape.ensures.moves in
    let judged = c.shape_of-shape.ensures.judged in
    let left = c.moves_left-left.ensures in
    let made = c.commit_part.ensures.made in
    let f = found r c.requires.at_turn.0 s o c.taken_swaps-swaps.new.swaps c.args.course.ahead at c.taken_swaps-swaps.ensures.left (c.in_ok-reserve.ensures.same r) c.in_ok-reserve.ensures.stamps c.in_ok-reserve.ensures.redone in
    let same : moves_left r (standing_of o.state) ≡ moves_left r (standing_of s.state) = ap (moves_left r) f.ready.stands in
    may_open r c.commit_part.new.owner s.state.done m at.plan made.made.owned (made.room m (has_less true o c.shape_of-shape.result.moves (n + m) (omega (arith, moves, judged)) c.in_ok-reserve.ensures.room))
    (open_here r c.requires.at_turn.0 s o c.commit_part.new.owner c.args.course.ahead n m at f.ready (made.made.kept refl) (omega (arith, judged, moves, left, same))).due

pub commit_part-requires-2-clause-due : goal.commit_part-requires-2-clause-due
commit_part-requires-2-clause-due g c κs within =
    let r = run_for g.W.Words.moves c.args.given.now in
    let s = c.args.owner.now in
    let o = c.reserve.new.owner in
    let t = c.requires.at_turn.0 in
    let at = c.requires.at_turn.1 in
    let begun = c.args.course.begun in
    let n = c.shape_of-shape.result.judged in
    let m = c.shape_of-shape.result.moves - c.shape_of-shape.result.judged in
    let moves = c.shape_of-shape.ensures.moves in
    let judged = c.shape_of-shape.ensures.judged in
    let left = c.moves_left-left.ensures in
    let taken = c.taken_swaps-swaps.ensures in
    let f = found r t s o c.taken_swaps-swaps.new.swaps c.args.course.ahead at taken.left (c.in_ok-reserve.ensures.same r) c.in_ok-reserve.ensures.stamps c.in_ok-reserve.ensures.redone in
    let same : moves_left r (standing_of o.state) ≡ moves_left r (standing_of s.state) = ap (moves_left r) f.ready.stands in
    let next = open_here r t s o c.commit_part.new.owner c.args.course.ahead n m at f.ready (c.commit_part.ensures.made.made.kept refl) (omega (arith, judged, moves, left, same)) in
    let yet = yet_to_follow g.S.Pursue.run g.S.Pursue.standing g.S.Follow.after g.J.Origin.start r t s o c.taken_swaps-swaps.result.items begun c.args.followers.now c.requires.at_turn.2 f.ready.stands taken.taken taken.none in
    let asked = c.ask.ensures (cond begun t.start (standing_of s.state)) (subst (λ w. IsYetToFollow g.S.Pursue.run g.S.Pursue.standing g.S.Follow.after g.J.Origin.start r (cond begun t.start (standing_of s.state)) o.state c.taken_swaps-swaps.result.items begun w) (sym taken.same) yet) in (
      next.due,
      (λ i d l. absurd (omega (arith, l))),
      (λ e. subst (λ w. IfSome w (λ p. IsTied g.S.Pursue.run g.S.Pursue.standing g.S.Follow.after g.J.Origin.start p.1 r next.due.start)) (sym c.commit_part.ensures.same)
          (if_some _ _ c.ask.new.followers asked (λ p h. subst (IsTied g.S.Pursue.run g.S.Pursue.standing g.S.Follow.after g.J.Origin.start p.1 r) (ap (λ b. cond b t.start (standing_of s.state)) (not_on begun e) ∙ sym f.ready.stands ∙ sym next.is) h.0))),
    )

pub returns-clause-counted : goal.returns-clause-counted
returns-clause-counted g c e t at =
    let r = run_for g.W.Words.moves c.args.given.now in
    let s = c.args.owner.now in
    let o = c.reserve.new.owner in
    let mid = c.commit_part.new.owner in
    let now = c.commit_part-2.new.owner in
    let n = c.shape_of-shape.result.judged in
    let m = c.shape_of-shape.result.moves - c.shape_of-shape.result.judged in
    let moves = c.shape_of-shape.ensures.moves in
    let judged = c.shape_of-shape.ensures.judged in
    let ahead = c.shape_of-shape.ensures.next in
    let left = c.moves_left-left.ensures in
    let next = next_turn r c.args.plan.now.batch t in
    let f = found r t s o c.taken_swaps-swaps.new.swaps c.args.course.ahead at c.taken_swaps-swaps.ensures.left (c.in_ok-reserve.ensures.same r) c.in_ok-reserve.ensures.stamps c.in_ok-reserve.ensures.redone in
    let same : moves_left r (standing_of o.state) ≡ moves_left r (standing_of s.state) = ap (moves_left r) f.ready.stands in
    let there : moves_left r (standing_of s.state) ≡ moves_left r (stands r t) = ap (moves_left r) at.led.here in
    let made_is : c.shape_of-shape.result.moves ≡ next.made = omega (arith, moves, left, there) in
    let ahead_is : c.shape_of-shape.result.next ≡ next.ahead = omega (arith, ahead, left, there) in
    let all : n + m ≡ next.made = omega (arith, judged, moves, made_is) in
    let one = c.commit_part.ensures.made in
    let two = c.commit_part-2.ensures.made in
    let first = open_ahead r t s o c.args.course.ahead n at f.ready (omega (arith, judged)) in
    let second = open_here r t s o mid c.args.course.ahead n m at f.ready (one.made.kept refl) (omega (arith, judged, moves, left, same)) in
    let counted = both_counted r t s o mid now c.args.course.ahead n c.shape_of-shape.result.moves first.due.start second.due.start at f.ready (omega (arith, judged, moves)) first.is second.is one.made.further.done (one.redone refl first.due) (two.redone refl second.due) in
    let made : HasMade r o next.made now = subst (λ k. HasMade r o k now) all (made_more r o mid now n m (one.made.kept refl) (two.made.kept refl)) in
    gone r t s o now c.args.course.ahead _ next.made next.ahead at f.ready made (omega (arith, made_is, ahead_is, moves, ahead, left, there)) refl ahead_is
    (subst (λ k. now.redone ≡ o.redone + count_by (is_redone_behind r t) (range_with_len (stands r t).done k)) made_is counted)

pub returns-clause-leads : goal.returns-clause-leads
returns-clause-leads g c e =
    let r = run_for g.W.Words.moves c.args.given.now in
    let s = c.args.owner.now in
    let o = c.reserve.new.owner in
    let f = found r c.requires.at_turn.0 s o c.taken_swaps-swaps.new.swaps c.args.course.ahead c.requires.at_turn.1 c.taken_swaps-swaps.ensures.left (c.in_ok-reserve.ensures.same r) c.in_ok-reserve.ensures.stamps c.in_ok-reserve.ensures.redone in
    (c.commit_part-2.ensures.made.made.kept refl).leads s.state.placement.sites ((c.commit_part.ensures.made.made.kept refl).leads s.state.placement.sites (led_nowhere r s o f.ready))

pub returns-clause-tied : goal.returns-clause-tied
returns-clause-tied g c =
    let r = run_for g.W.Words.moves c.args.given.now in
    let s = c.args.owner.now in
    let o = c.reserve.new.owner in
    let t = c.requires.at_turn.0 in
    let begun = c.args.course.begun in
    let taken = c.taken_swaps-swaps.ensures in
    let f = found r t s o c.taken_swaps-swaps.new.swaps c.args.course.ahead c.requires.at_turn.1 taken.left (c.in_ok-reserve.ensures.same r) c.in_ok-reserve.ensures.stamps c.in_ok-reserve.ensures.redone in
    let yet = yet_to_follow g.S.Pursue.run g.S.Pursue.standing g.S.Follow.after g.J.Origin.start r t s o c.taken_swaps-swaps.result.items begun c.args.followers.now c.requires.at_turn.2 f.ready.stands taken.taken taken.none in
    let asked = c.ask.ensures (cond begun t.start (standing_of s.state)) (subst (λ w. IsYetToFollow g.S.Pursue.run g.S.Pursue.standing g.S.Follow.after g.J.Origin.start r (cond begun t.start (standing_of s.state)) o.state c.taken_swaps-swaps.result.items begun w) (sym taken.same) yet) in
    subst (λ w. IfSome w (λ p. IsTied g.S.Pursue.run g.S.Pursue.standing g.S.Follow.after g.J.Origin.start p.0 r (standing_of s.state))) (sym (c.commit_part-2.ensures.same ∙ c.commit_part.ensures.same))
    (if_some _ _ c.ask.new.followers asked (λ p h. subst (IsTied g.S.Pursue.run g.S.Pursue.standing g.S.Follow.after g.J.Origin.start p.0 r) f.ready.stands h.1))

pub returns-clause-forgotten : goal.returns-clause-forgotten
returns-clause-forgotten g c e = absurd (false≢true (sym e ∙ is_on g.row.COUNTED c.if-not-this.false))

pub returns-clause-nobody : goal.returns-clause-nobody
returns-clause-nobody g c e = absurd (false≢true (sym e ∙ is_on g.row.COUNTED c.if-not-this.false))

pub returns-in_err-reserve-clause-forgotten : goal.returns-in_err-reserve-clause-forgotten
returns-in_err-reserve-clause-forgotten g c e = absurd (false≢true (sym e ∙ is_on g.row.COUNTED c.if-not-this.false))

pub returns-in_err-reserve-clause-nobody : goal.returns-in_err-reserve-clause-nobody
returns-in_err-reserve-clause-nobody g c e = absurd (false≢true (sym e ∙ is_on g.row.COUNTED c.if-not-this.false))
