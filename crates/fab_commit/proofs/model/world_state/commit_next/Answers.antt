use Rattle.std.proofs.Common.{◌≡◌, false, Some, sym, ap, subst, ◌∙◌}
use Rattle.fab_move.specs.Judge.{IsDecision}
use Rattle.fab_commit.specs.Serial.{judged_here}
use Rattle.fab_commit.specs.Run.Commits.{run_for, standing_of}
use Rattle.fab_commit.specs.Model.World.{answer, clash, committed, usable, verdict_for, verdict_here}
use Rattle.fab_commit.specs.Model.Worlds.{world_of}
use Rattle.fab_commit.proofs.ModelLemmas.Happening.{live_going, taken_says, taken_swaps, usable_is, whole_after}
use Rattle.fab_commit.proofs.model.world_state.commit_next.Goals as goal

pub judge_and_make-requires-clause-going : goal.judge_and_make-requires-clause-going
judge_and_make-requires-clause-going g c =
    live_going (run_for g.W.Words.moves c.args.given.now) c.args.state.now c.requires.whole c.requires.reached c.requires.before

pub judge_and_make-requires-then-clash-clause-going : goal.judge_and_make-requires-then-clash-clause-going
judge_and_make-requires-then-clash-clause-going g c =
    live_going (run_for g.W.Words.moves c.args.given.now) c.args.state.now c.requires.whole c.requires.reached c.requires.before

pub make-requires-clause-going : goal.make-requires-clause-going
make-requires-clause-going g c =
    live_going (run_for g.W.Words.moves c.args.given.now) c.args.state.now c.requires.whole c.requires.reached c.requires.before

pub make-requires-clause-lawful : goal.make-requires-clause-lawful
make-requires-clause-lawful g c = λ x e.
    let r = run_for g.W.Words.moves c.args.given.now in
    let s = c.args.state.now in
    let v = c.in-Some.verdict.now in
    let found : verdict_for s.live.done s.verdicts.items ≡ Some v = ap (verdict_for s.live.done) (sym c.deref.ensures.value) ∙ c.in-Some.ensures in
    let free : clash r.problem.design s.accepted.items v.base v.judged.footprint ≡ false = (λ i. clash r.problem.design (sym c.deref-in-Some.ensures.value i) v.base (sym c.footprint-footprint.ensures i)) ∙ sym c.clash.ensures ∙ c.if-clash.false in
    taken_swaps r s v c.requires.whole c.requires.reached (record { found = found; free = free }) x (sym (ap (λ j. j.swap) c.answer.ensures) ∙ sym c.decision_of.ensures.swap ∙ e)

pub make-requires-clause-decides : goal.make-requires-clause-decides
make-requires-clause-decides g c =
    let r = run_for g.W.Words.moves c.args.given.now in
    let s = c.args.state.now in
    let v = c.in-Some.verdict.now in
    let found : verdict_for s.live.done s.verdicts.items ≡ Some v = ap (verdict_for s.live.done) (sym c.deref.ensures.value) ∙ c.in-Some.ensures in
    let free : clash r.problem.design s.accepted.items v.base v.judged.footprint ≡ false = (λ i. clash r.problem.design (sym c.deref-in-Some.ensures.value i) v.base (sym c.footprint-footprint.ensures i)) ∙ sym c.clash.ensures ∙ c.if-clash.false in
    subst (IsDecision c.decision_of.result) (c.answer.ensures ∙ taken_says r s v c.requires.whole c.requires.reached (record { found = found; free = free })) c.decision_of.ensures

pub returns-in_ok-judge_and_make-in-None-clause-whole : goal.returns-in_ok-judge_and_make-in-None-clause-whole
returns-in_ok-judge_and_make-in-None-clause-whole g c =
    whole_after (run_for g.W.Words.moves c.args.given.now) c.args.state.now c.settle.new.state c.judge_and_make.new.live c.judge_and_make.new.accepted.items c.args.state.now.live.done c.requires.whole c.judge_and_make.ensures.sound c.judge_and_make.ensures.blocks
    (record { live_is = c.settle.ensures.live; older = c.settle.ensures.older; accepted = c.settle.ensures.accepted; verdicts = c.settle.ensures.verdicts })

pub returns-in_ok-judge_and_make-in-Some-clause-whole : goal.returns-in_ok-judge_and_make-in-Some-clause-whole
returns-in_ok-judge_and_make-in-Some-clause-whole g c =
    whole_after (run_for g.W.Words.moves c.args.given.now) c.args.state.now c.settle-then-clash.new.state c.judge_and_make-then-clash.new.live c.judge_and_make-then-clash.new.accepted.items c.args.state.now.live.done c.requires.whole c.judge_and_make-then-clash.ensures.sound c.judge_and_make-then-clash.ensures.blocks
    (record { live_is = c.settle-then-clash.ensures.live; older = c.settle-then-clash.ensures.older; accepted = c.settle-then-clash.ensures.accepted; verdicts = c.settle-then-clash.ensures.verdicts })

pub returns-else-clash-clause-whole : goal.returns-else-clash-clause-whole
returns-else-clash-clause-whole g c =
    whole_after (run_for g.W.Words.moves c.args.given.now) c.args.state.now c.settle-else-clash.new.state c.make.new.live c.make.new.accepted.items c.args.state.now.live.done c.requires.whole c.make.ensures.sound c.make.ensures.blocks
    (record { live_is = c.settle-else-clash.ensures.live; older = c.settle-else-clash.ensures.older; accepted = c.settle-else-clash.ensures.accepted; verdicts = c.settle-else-clash.ensures.verdicts })

pub returns-else-clash-clause-ok : goal.returns-else-clash-clause-ok
returns-else-clash-clause-ok g c =
    let r = run_for g.W.Words.moves c.args.given.now in
    let s = c.args.state.now in
    let w = world_of s in
    let v = c.in-Some.verdict.now in
    let here = judged_here r w.live s.live.done in
    let found : verdict_for s.live.done s.verdicts.items ≡ Some v = ap (verdict_for s.live.done) (sym c.deref.ensures.value) ∙ c.in-Some.ensures in
    let free : clash r.problem.design s.accepted.items v.base v.judged.footprint ≡ false = (λ i. clash r.problem.design (sym c.deref-in-Some.ensures.value i) v.base (sym c.footprint-footprint.ensures i)) ∙ sym c.clash.ensures ∙ c.if-clash.false in
    let is : answer r w (usable r w (verdict_here w)) ≡ here =
    ap (answer r w) (usable_is r w v found free) ∙ taken_says r s v c.requires.whole c.requires.reached (record { found = found; free = free }) in
    let settled = c.settle-else-clash.ensures in
    let live = ap standing_of settled.live ∙ c.make.ensures.stands in
    let older = ap standing_of settled.older in
    let log = settled.accepted ∙ c.make.ensures.accepted in
    let made : world_of c.settle-else-clash.new.state ≡ committed r w here =
    (λ i. record { live = live i; older = older i; claims = settled.claims i; verdicts = settled.verdicts i; accepted = log i }) in
    made ∙ sym (ap (committed r w) is)
