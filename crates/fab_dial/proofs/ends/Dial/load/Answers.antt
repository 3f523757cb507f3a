use Rattle.std.proofs.Common.{rules, arith}
use Rattle.fab_dial.proofs.Steps.{loads}
use Rattle.fab_dial.proofs.ends.Dial.load.Goals as goal

pub load_as-requires : goal.load_as-requires
load_as-requires g c = (omega arith, (omega arith, (search rules, loads _ _ c.requires.some_seen)))
