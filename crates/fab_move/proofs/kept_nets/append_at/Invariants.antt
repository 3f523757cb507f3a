use Rattle.std.proofs.Common.{take}
use Rattle.fab_move.specs.KeptNets.{AreAppended, nets_at}
use Rattle.fab_move.proofs.kept_nets.append_at.Given as goal

abbrev pub invariant-loop-place : goal.invariant-loop-place
invariant-loop-place l = AreAppended l.initial.kept l.kept (nets_at l.nets (take l.place-index l.places))
