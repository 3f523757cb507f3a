use Rattle.std.proofs.Common.{◌+◌, [], ◌∷◌, length, ap, ◌∙◌, arith, length-append}
use Rattle.fab_commit.specs.Run.Commits.{run_for}
use Rattle.fab_commit.proofs.RunLemmas.Pipelining.{IsAnswer, answers_from, each_pushed}
use Rattle.fab_commit.proofs.run.verdicts.verdicts_of.Goals as goal

pub verdict_from-requires : goal.verdict_from-requires
verdict_from-requires g c =
    let f = c.requires.foreseen in
    record { foreseen = (f.0, f.1 c.moves.i _ c.moves-test.true) }

pub moves-preserved : goal.moves-preserved
moves-preserved g c =
    let r = run_for g.W.Words.moves c.args.given.now in
    let inv = c.moves.invariant in
    let xs = c.moves.verdicts.items in
    let items = c.in_ok-push.ensures.items in
    let a = c.in_ok-verdict_from.field-0 in
    let many = inv.many in
    let more = ap (λ l. length l) items ∙ length-append xs (a ∷ []) in
    record {
      many = omega (arith, many, more);
      each = λ x are j d l. each_pushed (λ n v. IsAnswer r x (c.args.first + n) v) c.moves.i xs c.push.new.self.items a items many (inv.each x are)
          (c.in_ok-verdict_from.ensures x (are c.moves.i _ c.moves-test.true)) j d l;
    }

pub returns-clause-are : goal.returns-clause-are
returns-clause-are g c x are =
    let many = c.moves.invariant.many in
    answers_from (run_for g.W.Words.moves c.args.given.now) x c.args.first c.moves.verdicts.items (λ j d l. c.moves.invariant.each x are j d (omega (arith, l, many)))
