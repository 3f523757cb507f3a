use Rattle.std.proofs.Common.{◌≡◌, ◌-◌, refl, sym, subst, ◌∙◌, arith, true}
use Rattle.fab_commit.specs.Run.Commits.{run_for}
use Rattle.fab_commit.specs.Run.Followed.{IsTied}
use Rattle.fab_commit.specs.Run.Owners.{HasMadeFrom}
use Rattle.fab_commit.proofs.RunLemmas.InTurns.{open_later}
use Rattle.fab_commit.proofs.RunLemmas.Moves.{from_more, from_none, may_later}
use Rattle.fab_commit.proofs.run.followed.commit_followed.Goals as goal

pub loop-made-init : goal.loop-made-init
loop-made-init g c = record {
  low = omega arith;
  same = refl;
  has = from_none true (run_for g.W.Words.moves c.args.given.now) c.args.owner.now c.args.ahead.base c.requires.may.owned;
}

pub commit_next-made-requires-clause-may : goal.commit_next-made-requires-clause-may
commit_next-made-requires-clause-may g c κs within =
    let low = c.loop-made.invariant.low in
    may_later true (run_for g.W.Words.moves c.args.given.now) c.args.owner.now c.loop-made.owner c.args.ahead.base c.loop-made.made (c.args.ahead.moves - c.loop-made.made) c.args.ahead.moves c.requires.may c.loop-made.invariant.has (omega (arith, low))

pub commit_next-made-requires-clause-due : goal.commit_next-made-requires-clause-due
commit_next-made-requires-clause-due g c κs within =
    let r = run_for g.W.Words.moves c.args.given.now in
    let low = c.loop-made.invariant.low in
    let next = open_later r c.args.owner.now c.loop-made.owner c.args.ahead.base c.args.ahead.moves c.loop-made.made (c.args.ahead.moves - c.loop-made.made) c.requires.due.0 (c.loop-made.invariant.has.made.kept refl) (omega (arith, low)) in
    (next.due, subst (λ f. IsTied g.S.Pursue.run g.S.Pursue.standing g.S.Follow.after g.J.Origin.start f.1 r next.due.start) (sym c.loop-made.invariant.same) (subst (IsTied g.S.Pursue.run g.S.Pursue.standing g.S.Follow.after g.J.Origin.start c.args.followers.now.1 r) (sym next.is) c.requires.due.1))

pub loop-made-preserved : goal.loop-made-preserved
loop-made-preserved g c =
    let inv = c.loop-made.invariant in
    let some = c.commit_next-made.ensures.some in
    let low = inv.low in
    let more = c.loop-made-test.true in
    record {
      low = omega (arith, low, more, some);
      same = c.commit_next-made.ensures.same ∙ inv.same;
      has = from_more true (run_for g.W.Words.moves c.args.given.now) c.args.owner.now c.loop-made.owner c.commit_next-made.new.owner c.args.ahead.base c.loop-made.made c.commit_next-made.result inv.has c.commit_next-made.ensures.made;
    }

pub returns-clause-made : goal.returns-clause-made
returns-clause-made g c =
    let low = c.loop-made.invariant.low in
    let all = c.loop-made-test.false in
    let n : c.loop-made.made ≡ c.args.ahead.moves = omega (arith, low, all) in
    subst (λ k. HasMadeFrom true (run_for g.W.Words.moves c.args.given.now) c.args.owner.now c.args.ahead.base k c.loop-made.owner) n c.loop-made.invariant.has
