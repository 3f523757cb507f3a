use Rattle.std.proofs.Common.{◌≡◌, to_z, of_z, w64, rules, sym, subst, ◌∙◌}
use Rattle.std.specs.Prelude.{slice_index}
use Rattle.fab_commit.specs.Run.Commits.{run_for, standing_of}
use Rattle.fab_commit.specs.Run.Foreseen.{IsStill}
use Rattle.fab_commit.proofs.RunLemmas.Larger.{still}
use Rattle.fab_commit.proofs.run.sheet.decided_again.Goals as goal

pub words_again-words-requires : goal.words_again-words-requires
words_again-words-requires g c = c.requires.due.1.words

pub is_swap_touched_in_few-requires-clause-block : goal.is_swap_touched_in_few-requires-clause-block
is_swap_touched_in_few-requires-clause-block g c = c.requires.due.1.block c.in-Move.swap c.in-Move.is

pub is_swap_touched_in_few-requires-clause-other : goal.is_swap_touched_in_few-requires-clause-other
is_swap_touched_in_few-requires-clause-other g c b e = c.requires.due.1.other c.in-Move.swap b c.in-Move.is e

pub decided_by_large-requires-clause-word : goal.decided_by_large-requires-clause-word
decided_by_large-requires-clause-word g c = (λ i. slice_index (c.words_again-words.ensures i) 3)

pub decided_by_large-requires-clause-still : goal.decided_by_large-requires-clause-still
decided_by_large-requires-clause-still g c =
    let r = run_for g.W.Words.moves c.args.given.now in
    let read : to_z w64 (of_z w64 c.args.foreseen.now.few) ≡ c.args.foreseen.now.few = search rules in
    subst (λ z. IsStill r (standing_of c.args.owner.now.state) c.args.owner.now.state.done z c.in-Move.swap) (sym read)
    (still r c.args.owner.now c.args.base c.args.foreseen.now c.in-Move.swap c.requires.owned c.requires.due.0 c.requires.due.1 c.in-Move.is (sym c.is_swap_touched_in_few.ensures ∙ c.if-not-is_swap_touched_in_few.true))

pub returns-clause-lawful : goal.returns-clause-lawful
returns-clause-lawful g c = c.decide_by.ensures.lawful

pub returns-clause-decides : goal.returns-clause-decides
returns-clause-decides g c = c.decide_by.ensures.decides
