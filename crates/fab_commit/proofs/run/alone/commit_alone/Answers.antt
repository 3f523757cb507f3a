use Rattle.std.proofs.Common.{◌≡◌, ◌+◌, eqb, not, length, drop, rules, refl, subst, ◌∙◌, arith}
use Rattle.std.proofs.lemmas.List.{length-append, length-drop, length-take}
use Rattle.fab_commit.specs.Run.Commits.{run_for}
use Rattle.fab_commit.specs.Run.Owners.{HasMadeFrom}
use Rattle.fab_commit.proofs.ModelLemmas.Happening.{done_fits}
use Rattle.fab_commit.proofs.RunLemmas.Further.{further_going}
use Rattle.fab_commit.proofs.RunLemmas.Moves.{from_both, from_more, from_none, from_one, may_later}
use Rattle.fab_commit.proofs.run.alone.commit_alone.Goals as goal

pub loop-made-init : goal.loop-made-init
loop-made-init g c = record {
  low = omega arith;
  long = search rules;
  has = from_none (not (eqb g.row.COUNTED 0)) (run_for g.W.Words.moves c.args.given.now) c.args.owner.now c.args.due.base c.requires.may.owned;
}

pub fill_words-requires : goal.fill_words-requires
fill_words-requires g c =
    let r = run_for g.W.Words.moves c.args.given.now in
    let s = c.loop-made.owner.state in
    let few = done_fits r s s.ended c.requires.may.plan c.loop-made.invariant.has.made.owned.sound refl in
    let long = length-take c.min-count.result c.loop-made.ready.words in
    let count = c.min-count.ensures in
    grind (arith, few, long, count)

pub read_early-read-requires : goal.read_early-read-requires
read_early-read-requires g c = record { sound = c.loop-made.invariant.has.made.owned.sound }

pub moves-init : goal.moves-init
moves-init g c = from_none (not (eqb g.row.COUNTED 0)) (run_for g.W.Words.moves c.args.given.now) c.loop-made.owner c.args.due.base c.loop-made.invariant.has.made.owned

pub decided_alone-again-requires-clause-owned : goal.decided_alone-again-requires-clause-owned
decided_alone-again-requires-clause-owned g c = c.moves.invariant.made.owned

-- the moves of a unit of words are left in the stage
pub decided_alone-again-requires-clause-going : goal.decided_alone-again-requires-clause-going
decided_alone-again-requires-clause-going g c =
    let r = run_for g.W.Words.moves c.args.given.now in
    let mid = c.loop-made.owner in
    let long = length-take c.min-count.result c.loop-made.ready.words in
    let same = c.fill_words.auto.out in
    let count = c.min-count.ensures in
    let low = c.loop-made.invariant.low in
    let more = c.loop-made-test.true in
    let one = c.moves-test.true in
    let may = may_later (not (eqb g.row.COUNTED 0)) r c.args.owner.now mid c.args.due.base c.loop-made.made (length c.fill_words.new.out) c.args.due.moves c.requires.may c.loop-made.invariant.has (omega (arith, low, more, long, same, count)) in
    let left = may.left in
    further_going r mid.state c.moves.owner.state c.moves.i c.moves.invariant.made.further (omega (arith, one, left))

pub make_one-requires-clause-plan : goal.make_one-requires-clause-plan
make_one-requires-clause-plan g c = c.requires.may.plan

pub make_one-requires-clause-owned : goal.make_one-requires-clause-owned
make_one-requires-clause-owned g c = c.moves.invariant.made.owned

pub make_one-requires-clause-going : goal.make_one-requires-clause-going
make_one-requires-clause-going g c =
    let r = run_for g.W.Words.moves c.args.given.now in
    let mid = c.loop-made.owner in
    let long = length-take c.min-count.result c.loop-made.ready.words in
    let same = c.fill_words.auto.out in
    let count = c.min-count.ensures in
    let low = c.loop-made.invariant.low in
    let more = c.loop-made-test.true in
    let one = c.moves-test.true in
    let may = may_later (not (eqb g.row.COUNTED 0)) r c.args.owner.now mid c.args.due.base c.loop-made.made (length c.fill_words.new.out) c.args.due.moves c.requires.may c.loop-made.invariant.has (omega (arith, low, more, long, same, count)) in
    let left = may.left in
    further_going r mid.state c.moves.owner.state c.moves.i c.moves.invariant.made.further (omega (arith, one, left))

pub make_one-requires-clause-room : goal.make_one-requires-clause-room
make_one-requires-clause-room g c =
    let r = run_for g.W.Words.moves c.args.given.now in
    let counted = not (eqb g.row.COUNTED 0) in
    let mid = c.loop-made.owner in
    let long = length-take c.min-count.result c.loop-made.ready.words in
    let same = c.fill_words.auto.out in
    let count = c.min-count.ensures in
    let low = c.loop-made.invariant.low in
    let more = c.loop-made-test.true in
    let one = c.moves-test.true in
    let may = may_later counted r c.args.owner.now mid c.args.due.base c.loop-made.made (length c.fill_words.new.out) c.args.due.moves c.requires.may c.loop-made.invariant.has (omega (arith, low, more, long, same, count)) in
    (may_later counted r mid c.moves.owner c.args.due.base c.moves.i 1 (length c.fill_words.new.out) may c.moves.invariant (omega (arith, one))).room

pub moves-preserved : goal.moves-preserved
moves-preserved g c =
    let r = run_for g.W.Words.moves c.args.given.now in
    let counted = not (eqb g.row.COUNTED 0) in
    let plan = c.requires.may.plan.moves in
    let mid = c.moves.owner in
    let now = c.make_one.new.owner in
    from_more counted r c.loop-made.owner mid now c.args.due.base c.moves.i 1 c.moves.invariant
    (from_one counted r mid now c.args.due.base c.decided_alone-again.result.1 (omega (arith, plan)) c.moves.invariant.made.owned c.make_one.ensures.made c.make_one.ensures.redone c.decided_alone-again.ensures.again c.make_one.ensures.room)

pub loop-made-preserved : goal.loop-made-preserved
loop-made-preserved g c =
    let array = c.loop-made.invariant.long in
    let m = c.min-count.result in
    let long = length-take c.min-count.result c.loop-made.ready.words in
    let same = c.fill_words.auto.out in
    let count = c.min-count.ensures in
    let low = c.loop-made.invariant.low in
    let more = c.loop-made-test.true in
    let few = c.moves.auto.i-end in
    let end = c.moves-test.false in
    let out : length c.fill_words.new.out ≡ m = omega (arith, array, long, same, count) in
    let all : c.loop-made.made + c.moves.i ≡ c.loop-made.made + m = omega (arith, out, few, end) in
    record {
      low = omega (arith, low, more, count);
      long = length-append c.fill_words.new.out (drop m c.loop-made.ready.words) ∙ (let rest = length-drop m c.loop-made.ready.words in omega (arith, out, array, rest, long, same));
      has = from_both (not (eqb g.row.COUNTED 0)) (run_for g.W.Words.moves c.args.given.now) c.args.owner.now c.loop-made.owner c.moves.owner c.args.due.base c.loop-made.made c.moves.i (c.loop-made.made + m) c.loop-made.invariant.has c.moves.invariant all;
    }

pub returns : goal.returns
returns g c =
    let low = c.loop-made.invariant.low in
    let all = c.loop-made-test.false in
    let n : c.loop-made.made ≡ c.args.due.moves = omega (arith, low, all) in
    subst (λ k. HasMadeFrom (not (eqb g.row.COUNTED 0)) (run_for g.W.Words.moves c.args.given.now) c.args.owner.now c.args.due.base k c.loop-made.owner) n c.loop-made.invariant.has
