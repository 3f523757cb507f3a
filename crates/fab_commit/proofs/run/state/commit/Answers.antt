use Rattle.std.proofs.Common.{◌≡◌, ◌+◌, to_z, of_z, w64, rules, refl, sym, ap, subst, ◌∙◌, arith}
use Rattle.fab_site.specs.Placement.{IsSwapOf}
use Rattle.fab_commit.specs.declared.run.state.State.{State}
use Rattle.fab_commit.specs.Serial.{judged_here, numbers_if, one_if}
use Rattle.fab_commit.specs.Run.Commits.{IsAdvanced, run_for, standing_of}
use Rattle.fab_commit.specs.Run.Noted.{HasRoomFor, noted, noted_more}
use Rattle.fab_commit.proofs.RunLemmas.Committing.{IsCommitted, IsSwapped, committed, decided_lawful, stands_after, sound_after, judged_legal, numbers_fit, rejected_stays, void_stays, with_none, with_swap}
use Rattle.fab_commit.proofs.RunLemmas.Kept.{judged_change}
use Rattle.fab_commit.proofs.run.state.commit.Given as given
use Rattle.fab_commit.proofs.run.state.commit.Goals as goal
use Rattle.fab_commit.proofs.run.state.commit.Goals.{then-decision+in-Some, then-decision+in_default, else-decision}

pub apply_known-requires-clause-lawful : goal.apply_known-requires-clause-lawful
apply_known-requires-clause-lawful g c = c.requires.lawful c.in-Some.swap c.in-Some.is

pub apply_known-requires-clause-known : goal.apply_known-requires-clause-known
apply_known-requires-clause-known g c =
    let r = run_for g.W.Words.moves c.args.given.now in
    let s = c.args.state.now in
    let is = c.requires.decides in
    let read : to_z w64 (of_z w64 c.args.decision.now.delta) ≡ c.args.decision.now.delta = search rules in
    read ∙ is.change ∙ judged_change r.problem s.placement.sites s.done _ s.stage.range c.in-Some.swap (sym is.swap ∙ c.in-Some.is)

pub apply-requires : goal.apply-requires
apply-requires g c =
    subst (λ k. IsSwapOf k c.args.state.now.placement.sites c.in-Some.swap) (sym c.requires.sound.array) (c.requires.lawful c.in-Some.swap c.in-Some.is)

swapped : (g : given.Over) (c : goal.After-state-2-1 g) → IsSwapped (run_for g.W.Words.moves c.args.given.now) c.args.state.now (judged_here (run_for g.W.Words.moves c.args.given.now) (standing_of c.args.state.now) c.args.state.now.done) c.if-decision.state
swapped g c =
    let r = run_for g.W.Words.moves c.args.given.now in
    let s = c.args.state.now in
    let j = judged_here r (standing_of s) s.done in
    let is = c.requires.decides in
    let m = c.if-decision.state in
    elim c.if-decision.branch [
      | then-decision+in-Some w ↦ with_swap r s c.args.decision.now j w.in-Some.swap w.apply.new.self w.apply_known.new.self m is w.if-decision.true w.in-Some.is w.state-is w.apply.ensures w.apply_known.ensures
      | then-decision+in_default w ↦ with_none r s m j c.requires.sound.cost (void_stays s.placement.sites c.args.decision.now j is w.if-decision.true w.in_default.is) w.state-is
      | else-decision w ↦ with_none r s m j c.requires.sound.cost (rejected_stays s.placement.sites c.args.decision.now j is w.if-decision.false) w.state-is
    ]

abbrev after : (g : given.Over) (c : goal.After-state-2-1 g) → State
after g c = record { placement = c.if-decision.state.placement; cost = c.if-decision.state.cost; stage = c.advance-state.new.stage; ended = c.advance-state.result; done = c.if-decision.state.done + 1; total = c.count.new.total; accepted = c.count.new.accepted }

-- what the parts of the state are after the move
parts : (g : given.Over) (c : goal.After-state-2-1 g) → IsCommitted (run_for g.W.Words.moves c.args.given.now) c.args.state.now (judged_here (run_for g.W.Words.moves c.args.given.now) (standing_of c.args.state.now) c.args.state.now.done) (after g c)
parts g c =
    let r = run_for g.W.Words.moves c.args.given.now in
    let s = c.args.state.now in
    let j = judged_here r (standing_of s) s.done in
    let own = swapped g c in
    committed r s (after g c) c.args.decision.now j c.side_of-side.result c.requires.decides own.placement (ap (λ n. n + 1) own.done) (c.count.ensures.total ∙ ap (λ n. n + one_if c.args.decision.now.accepted) own.total) c.side_of-side.ensures.value
    (subst (λ y. IsAdvanced r.plan c.side_of-side.result y c.args.decision.now.accepted c.advance-state.new.stage c.advance-state.result) own.stage c.advance-state.ensures)
    own.cost

pub count-requires-clause-room : goal.count-requires-clause-room
count-requires-clause-room g c =
    elim c.if-decision.branch [
      | then-decision+in-Some w ↦ subst (λ (v : State). HasRoomFor v.accepted 1) (sym w.state-is) c.requires.room
      | then-decision+in_default w ↦ subst (λ (v : State). HasRoomFor v.accepted 1) (sym w.state-is) c.requires.room
      | else-decision w ↦ subst (λ (v : State). HasRoomFor v.accepted 1) (sym w.state-is) c.requires.room
    ]

pub count-requires-clause-few : goal.count-requires-clause-few
count-requires-clause-few g c =
    let r = run_for g.W.Words.moves c.args.given.now in
    let few = numbers_fit r c.args.state.now c.moves-moves.ensures.lawful c.requires.sound c.requires.going in
    let counted = c.requires.sound.counted in
    elim c.if-decision.branch [
      | then-decision+in-Some w ↦ (let same = ap (λ (v : State). v.total) w.state-is in grind (arith, few, counted, same))
      | then-decision+in_default w ↦ (let same = ap (λ (v : State). v.total) w.state-is in grind (arith, few, counted, same))
      | else-decision w ↦ (let same = ap (λ (v : State). v.total) w.state-is in grind (arith, few, counted, same))
    ]

pub overflow_add-state : goal.overflow_add-state
overflow_add-state g c =
    let r = run_for g.W.Words.moves c.args.given.now in
    let few = numbers_fit r c.args.state.now c.moves-moves.ensures.lawful c.requires.sound c.requires.going in
    elim c.if-decision.branch [
      | then-decision+in-Some w ↦ (let same = ap (λ (v : State). v.done) w.state-is in grind (arith, few, same))
      | then-decision+in_default w ↦ (let same = ap (λ (v : State). v.done) w.state-is in grind (arith, few, same))
      | else-decision w ↦ (let same = ap (λ (v : State). v.done) w.state-is in grind (arith, few, same))
    ]

pub returns-clause-stands : goal.returns-clause-stands
returns-clause-stands g c =
    let r = run_for g.W.Words.moves c.args.given.now in
    let s = c.args.state.now in
    stands_after r s (after g c) (judged_here r (standing_of s) s.done) c.requires.sound c.requires.going (parts g c)

pub returns-clause-accepted : goal.returns-clause-accepted
returns-clause-accepted g c =
    let s = c.args.state.now in
    let own = swapped g c in
    c.count.ensures.accepted
    ∙ ap (λ v. noted_more (noted v) (numbers_if c.if-decision.state.done c.args.decision.now.accepted)) own.accepted
    ∙ ap (λ n. noted_more (noted s.accepted) (numbers_if n c.args.decision.now.accepted)) own.done
    ∙ ap (λ b. noted_more (noted s.accepted) (numbers_if s.done b)) c.requires.decides.accepted

pub returns-clause-room : goal.returns-clause-room
returns-clause-room g c n h = c.count.ensures.room n (subst (λ v. HasRoomFor v (n + 1)) (sym (swapped g c).accepted) h)

pub returns-clause-sound : goal.returns-clause-sound
returns-clause-sound g c =
    let r = run_for g.W.Words.moves c.args.given.now in
    let s = c.args.state.now in
    let j = judged_here r (standing_of s) s.done in
    sound_after r s (after g c) j c.requires.sound c.requires.going (parts g c)
    (judged_legal r s j s.done c.requires.sound refl (decided_lawful c.args.given.now.grid.now s.placement.sites c.args.decision.now j c.requires.decides c.requires.lawful))
