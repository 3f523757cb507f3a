use Rattle.std.proofs.Common.{◌≡◌, [], sym, ◌∙◌, append-nil}
use Rattle.std.specs.Vec.Iter.{into_iter_items}
use Rattle.std.proofs.lemmas.List.{nil_from_length}
use Rattle.fab_board.proofs.slots.unwrap_all.Goals as goal

pub returns : goal.returns
returns g c =
    let at = c.loop-slot in
    let empty : into_iter_items at.slot-iterator ≡ [] = nil_from_length _ (sym at.invariant.1 ∙ c.in-None.ensures.steps.0) in
    at.invariant.2 ∙ sym (append-nil at.yielded) ∙ rw empty at at.invariant.0 ∙ c.into_iter-slot-iterator.ensures.into_iter_gives.0
