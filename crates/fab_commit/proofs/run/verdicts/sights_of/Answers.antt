use Rattle.std.proofs.Common.{◌+◌, List, [], ◌∷◌, length, ap, sym, subst, ◌∙◌, arith, length-append}
use Rattle.fab_commit.specs.declared.run.post.Post.{Post}
use Rattle.fab_commit.specs.Run.Commits.{run_for}
use Rattle.fab_commit.specs.Run.Followed.{IsTied}
use Rattle.fab_commit.specs.Run.Foreseen.{IsForeseen}
use Rattle.fab_commit.proofs.RunLemmas.Pipelining.{each_pushed}
use Rattle.fab_commit.proofs.run.verdicts.sights_of.Goals as goal

pub moves-preserved : goal.moves-preserved
moves-preserved g c =
    let r = run_for g.W.Words.moves c.args.given.now in
    let inv = c.moves.invariant in
    let xs = c.moves.sights.items in
    let items = c.in_ok-push.ensures.items in
    let a = c.in_ok-sight_of.field-0 in
    let many = inv.many in
    let more = ap (λ l. length l) items ∙ length-append xs (a ∷ []) in
    record {
      same = c.sight_of.ensures.same ∙ inv.same;
      many = omega (arith, many, more);
      each = λ x tied j d l. each_pushed (λ n f. IsForeseen r x (c.args.range.first + n) f) c.moves.i xs c.push.new.self.items a items many (inv.each x tied)
          (c.in_ok-sight_of.ensures.is x (subst (λ (f : List Post × List Post). IsTied g.S.Pursue.run g.S.Pursue.standing g.S.Follow.after g.J.Origin.start f.1 r x) (sym inv.same) tied)) j d l;
    }

pub returns-clause-are : goal.returns-clause-are
returns-clause-are g c x tied i d l =
    let many = c.moves.invariant.many in
    c.moves.invariant.each x tied i d (omega (arith, l, many))
