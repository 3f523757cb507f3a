use Rattle.std.proofs.Common.{◌∙◌, ap}
use Rattle.fab_cost.specs.Cost.{cost_of}
use Rattle.fab_run.specs.Piece.{head_text}
use Rattle.fab_run.specs.Placed.{head_by}
use Rattle.fab_run.proofs.fresh_run.begin.Goals as goal

pub returns-clause-head : goal.returns-clause-head
unfolding head_by
returns-clause-head g c =
    c.in_ok-head.ensures ∙ ap (head_text c.args.design.now c.args.grid.now) (c.cost.ensures ∙ ap (λ q. cost_of q.design q.grid q.standing.sites) (c.keeping-anneal.ensures ∙ c.in_ok-numbered.ensures.stands))
