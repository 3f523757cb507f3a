use Rattle.std.proofs.Common.{arith}
use Rattle.fab_dial.proofs.Steps.{begins}
use Rattle.fab_dial.proofs.ends.Dial.new.Goals as goal

pub ruled-requires : goal.ruled-requires
ruled-requires g c = (omega arith, (omega arith, begins c.args.first))
