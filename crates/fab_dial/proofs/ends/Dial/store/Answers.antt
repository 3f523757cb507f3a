use Rattle.std.proofs.Common.{rules, arith}
use Rattle.fab_dial.proofs.Steps.{stores}
use Rattle.fab_dial.proofs.ends.Dial.store.Goals as goal

pub swap_as-requires : goal.swap_as-requires
swap_as-requires g c = (omega arith, (omega arith, (search rules, stores _ _ c.args.reading c.requires.shower)))
