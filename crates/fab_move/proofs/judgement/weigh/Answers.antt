use Rattle.std.proofs.Common.{subst}
use Rattle.fab_site.specs.Placement.{IsSwapOf}
use Rattle.fab_move.proofs.Choices.{same_swap}
use Rattle.fab_move.proofs.judgement.weigh.Goals as goal

pub delta-delta-requires-clause-lawful : goal.delta-delta-requires-clause-lawful
delta-delta-requires-clause-lawful g c = c.requires.lawful c.in-Move.swap c.in-Move.is

pub returns-in-Move-clause-lawful : goal.returns-in-Move-clause-lawful
returns-in-Move-clause-lawful g c = λ s e.
    subst (IsSwapOf c.args.view.now.grid.now c.args.view.now.placement.now.sites) (same_swap c.in-Move.swap s e) (c.requires.lawful c.in-Move.swap c.in-Move.is)
