use Rattle.std.proofs.Common.{List, [], ◌∷◌, ◌++◌, Option, None, ap, ◌∙◌}
use Rattle.std.proofs.lemmas.List.{replicate-append-replicate}
use Rattle.fab_board.proofs.slots.vacant.Goals as goal

pub loop-place-preserved : goal.loop-place-preserved
loop-place-preserved g c = c.in_ok-push.ensures.items ∙ ap (λ (l : List (Option g.row.T.Denot)). l ++ None ∷ []) c.loop-place.invariant ∙ replicate-append-replicate c.loop-place._place 1 None
