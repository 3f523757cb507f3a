use Rattle.std.proofs.Common.{◌≡◌, false, [], pos, get_or, length, sym, subst, arith, true, refl}
use Rattle.fab_move.specs.declared.proposals.Proposal.TheVariants.{Nothing}
use Rattle.fab_commit.specs.declared.run.foreseen.Foreseen.{Foreseen}
use Rattle.fab_commit.specs.Run.Commits.{run_for}
use Rattle.fab_commit.specs.Run.Foreseen.{IsForeseen}
use Rattle.fab_commit.specs.Run.Owners.{HasMadeFrom}
use Rattle.fab_commit.proofs.RunLemmas.InTurns.{open_later}
use Rattle.fab_commit.proofs.RunLemmas.Further.{further_going}
use Rattle.fab_commit.proofs.RunLemmas.Moves.{from_more, from_none, from_one, may_later}
use Rattle.fab_commit.proofs.run.sheet.commit_sheet.Goals as goal

-- what stands in a place that was never written
abbrev nothing : Foreseen
nothing = record { proposal = Nothing; nets = record { nets = []; all = 0; is_kept = false }; accepted = false; words = []; few = pos 0; delta = pos 0 }

pub loop-sight-init : goal.loop-sight-init
loop-sight-init g c = from_none true (run_for g.W.Words.moves c.args.given.now) c.args.owner.now c.args.base c.requires.may.owned

pub decided_followed-again-requires-clause-plan : goal.decided_followed-again-requires-clause-plan
decided_followed-again-requires-clause-plan g c κs within = c.requires.may.plan

pub decided_followed-again-requires-clause-owned : goal.decided_followed-again-requires-clause-owned
decided_followed-again-requires-clause-owned g c κs within = c.loop-sight.invariant.made.owned

pub decided_followed-again-requires-clause-going : goal.decided_followed-again-requires-clause-going
decided_followed-again-requires-clause-going g c κs within =
    let low = c.loop-sight-test.true in
    let left = c.requires.may.left in
    further_going (run_for g.W.Words.moves c.args.given.now) c.args.owner.now.state c.loop-sight.owner.state c.loop-sight.sight-index c.loop-sight.invariant.made.further (omega (arith, low, left))

pub decided_followed-again-requires-clause-due : goal.decided_followed-again-requires-clause-due
decided_followed-again-requires-clause-due g c κs within =
    let r = run_for g.W.Words.moves c.args.given.now in
    let mid = c.loop-sight.owner in
    let i = c.loop-sight.sight-index in
    let due = c.requires.due.0 in
    let made = c.loop-sight.invariant.made.kept refl in
    let low = c.loop-sight-test.true in
    let next = open_later r c.args.owner.now mid c.args.base (length c.args.foreseen.now) i 1 due made (omega (arith, low)) in
    let item = get_or c.args.foreseen.now i nothing in
    let is = c.requires.due.1 i nothing low in
    (next.due, subst (λ x. IsForeseen r x mid.state.done item) (sym next.is) (subst (λ k. IsForeseen r due.start k item) (sym made.further.done) is))

pub decided_followed-again-requires-clause-rejected : goal.decided_followed-again-requires-clause-rejected
decided_followed-again-requires-clause-rejected g c κs within = λ known. c.requires.rejected known c.loop-sight.sight-index nothing c.loop-sight-test.true

pub make_one-requires-clause-plan : goal.make_one-requires-clause-plan
make_one-requires-clause-plan g c = c.requires.may.plan

pub make_one-requires-clause-owned : goal.make_one-requires-clause-owned
make_one-requires-clause-owned g c = c.loop-sight.invariant.made.owned

pub make_one-requires-clause-going : goal.make_one-requires-clause-going
make_one-requires-clause-going g c =
    let low = c.loop-sight-test.true in
    let left = c.requires.may.left in
    further_going (run_for g.W.Words.moves c.args.given.now) c.args.owner.now.state c.loop-sight.owner.state c.loop-sight.sight-index c.loop-sight.invariant.made.further (omega (arith, low, left))

pub make_one-requires-clause-room : goal.make_one-requires-clause-room
make_one-requires-clause-room g c =
    let low = c.loop-sight-test.true in
    (may_later true (run_for g.W.Words.moves c.args.given.now) c.args.owner.now c.loop-sight.owner c.args.base c.loop-sight.sight-index 1 (length c.args.foreseen.now) c.requires.may c.loop-sight.invariant (omega (arith, low))).room

pub loop-sight-preserved : goal.loop-sight-preserved
loop-sight-preserved g c =
    let r = run_for g.W.Words.moves c.args.given.now in
    let plan = c.requires.may.plan.moves in
    let mid = c.loop-sight.owner in
    let now = c.make_one.new.owner in
    from_more true r c.args.owner.now mid now c.args.base c.loop-sight.sight-index 1 c.loop-sight.invariant
    (from_one true r mid now c.args.base c.decided_followed-again.result.1 (omega (arith, plan)) c.loop-sight.invariant.made.owned c.make_one.ensures.made c.make_one.ensures.redone (λ e. c.decided_followed-again.ensures.again) c.make_one.ensures.room)

pub returns : goal.returns
returns g c =
    let low = c.loop-sight.auto.sight-index-end in
    let all = c.loop-sight-test.false in
    let n : c.loop-sight.sight-index ≡ length c.args.foreseen.now = omega (arith, low, all) in
    subst (λ k. HasMadeFrom true (run_for g.W.Words.moves c.args.given.now) c.args.owner.now c.args.base k c.loop-sight.owner) n c.loop-sight.invariant
