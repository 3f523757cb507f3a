use Rattle.std.proofs.Common.{◌-◌, length, refl, sym, subst, arith, true}
use Rattle.std.specs.Prelude.{IfSome}
use Rattle.fab_commit.specs.Run.Commits.{run_for}
use Rattle.fab_commit.specs.Run.Followed.{IsTied}
use Rattle.fab_commit.specs.Run.Foreseen.{AreForeseen}
use Rattle.fab_commit.proofs.RunLemmas.InTurns.{open_later}
use Rattle.fab_commit.proofs.RunLemmas.Moves.{from_both, may_later, may_less, open_less}
use Rattle.fab_commit.proofs.run.followed.commit_part.Goals as goal

pub commit_foreseen-requires-clause-may : goal.commit_foreseen-requires-clause-may
commit_foreseen-requires-clause-may g c κs within =
    may_less true (run_for g.W.Words.moves c.args.given.now) c.args.owner.now c.args.part.base c.args.part.moves (length c.args.part.kept.now) c.requires.may c.requires.few

pub commit_foreseen-requires-clause-due : goal.commit_foreseen-requires-clause-due
commit_foreseen-requires-clause-due g c κs within =
    let r = run_for g.W.Words.moves c.args.given.now in
    let o = c.args.owner.now in
    let next = open_less r o c.args.part.base c.args.part.moves (length c.args.part.kept.now) c.requires.few c.requires.due.0 in
    (next.due, subst (λ x. AreForeseen r x o.state.done c.args.part.kept.now) (sym next.is) c.requires.due.1)

pub commit_alone-requires-clause-may : goal.commit_alone-requires-clause-may
commit_alone-requires-clause-may g c κs within =
    let few = c.requires.few in
    may_later true (run_for g.W.Words.moves c.args.given.now) c.args.owner.now c.commit_foreseen.new.owner c.args.part.base (length c.args.part.kept.now) (c.args.part.moves - length c.args.part.kept.now) c.args.part.moves c.requires.may c.commit_foreseen.ensures (omega (arith, few))

pub commit_alone-requires-else-part-clause-may : goal.commit_alone-requires-else-part-clause-may
commit_alone-requires-else-part-clause-may g c κs within =
    let few = c.requires.few in
    may_later true (run_for g.W.Words.moves c.args.given.now) c.args.owner.now c.commit_foreseen.new.owner c.args.part.base (length c.args.part.kept.now) (c.args.part.moves - length c.args.part.kept.now) c.args.part.moves c.requires.may c.commit_foreseen.ensures (omega (arith, few))

pub commit_followed-requires-clause-may : goal.commit_followed-requires-clause-may
commit_followed-requires-clause-may g c κs within =
    let few = c.requires.few in
    may_later true (run_for g.W.Words.moves c.args.given.now) c.args.owner.now c.commit_foreseen.new.owner c.args.part.base (length c.args.part.kept.now) (c.args.part.moves - length c.args.part.kept.now) c.args.part.moves c.requires.may c.commit_foreseen.ensures (omega (arith, few))

pub commit_followed-requires-clause-due : goal.commit_followed-requires-clause-due
commit_followed-requires-clause-due g c κs within =
    let r = run_for g.W.Words.moves c.args.given.now in
    let few = c.requires.few in
    let next = open_later r c.args.owner.now c.commit_foreseen.new.owner c.args.part.base c.args.part.moves (length c.args.part.kept.now) (c.args.part.moves - length c.args.part.kept.now) c.requires.due.0 (c.commit_foreseen.ensures.made.kept refl) (omega (arith, few)) in
    (next.due, subst (λ x. IsTied g.S.Pursue.run g.S.Pursue.standing g.S.Follow.after g.J.Origin.start c.in-Some.crew.1 r x) (sym next.is) (subst (λ o. IfSome o (λ f. IsTied g.S.Pursue.run g.S.Pursue.standing g.S.Follow.after g.J.Origin.start f.1 r c.requires.due.0.start)) c.in-Some.is (c.requires.due.2 c.if-part.true)))

pub returns-in_default-clause-made : goal.returns-in_default-clause-made
returns-in_default-clause-made g c =
    let few = c.requires.few in
    from_both true (run_for g.W.Words.moves c.args.given.now) c.args.owner.now c.commit_foreseen.new.owner c.commit_alone.new.owner c.args.part.base (length c.args.part.kept.now) (c.args.part.moves - length c.args.part.kept.now) c.args.part.moves c.commit_foreseen.ensures c.commit_alone.ensures (omega (arith, few))

pub returns-then-part-clause-made : goal.returns-then-part-clause-made
returns-then-part-clause-made g c =
    let few = c.requires.few in
    from_both true (run_for g.W.Words.moves c.args.given.now) c.args.owner.now c.commit_foreseen.new.owner c.commit_followed.new.owner c.args.part.base (length c.args.part.kept.now) (c.args.part.moves - length c.args.part.kept.now) c.args.part.moves c.commit_foreseen.ensures c.commit_followed.ensures.made (omega (arith, few))

pub returns-else-part-clause-made : goal.returns-else-part-clause-made
returns-else-part-clause-made g c =
    let few = c.requires.few in
    from_both true (run_for g.W.Words.moves c.args.given.now) c.args.owner.now c.commit_foreseen.new.owner c.commit_alone-else-part.new.owner c.args.part.base (length c.args.part.kept.now) (c.args.part.moves - length c.args.part.kept.now) c.args.part.moves c.commit_foreseen.ensures c.commit_alone-else-part.ensures (omega (arith, few))
