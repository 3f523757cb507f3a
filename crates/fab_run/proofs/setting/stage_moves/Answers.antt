use Rattle.std.proofs.Common.{sym, subst}
use Rattle.fab_run.specs.Setting.{AreStageMoves}
use Rattle.fab_run.proofs.Asked.{asked_by}
use Rattle.fab_run.proofs.setting.stage_moves.Goals as goal

pub returns-in-Inner-clause-asked : goal.returns-in-Inner-clause-asked
returns-in-Inner-clause-asked c =
    subst (λ m. AreStageMoves m c.args.blocks c.unwrap_or.result) (sym c.in-Inner.is)
    (asked_by c.in-Inner.inner c.args.blocks c.unwrap_or.result c.moves_of.result c.moves_of.ensures.found c.moves_of.ensures.only c.unwrap_or.ensures)
