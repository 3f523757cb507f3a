use Rattle.std.proofs.Common.{◌≡◌, length, Some, ap, subst, ◌∙◌, arith}
use Rattle.fab_net.specs.Netlist.{nets_of}
use Rattle.fab_move.specs.KeptNets.{AreAppended, nets_at, nets_on}
use Rattle.fab_move.proofs.KeptLists.{at_large, nets_long}
use Rattle.fab_move.proofs.kept_nets.append_large.Goals as goal

pub append_at-requires-clause-within : goal.append_at-requires-clause-within
append_at-requires-clause-within c k low =
    let d = c.args.design.now in
    let b = c.args.block in
    let within = c.large_places.ensures.within k low in
    let long : length c.nets_of.result.now ≡ length (nets_of d b.0) = ap length c.nets_of.ensures ∙ nets_long d b in
    omega (arith, within, long)

pub returns : goal.returns
returns c =
    let d = c.args.design.now in
    let b = c.args.block in
    let nets : c.nets_of.result.now ≡ nets_on d (Some b) = c.nets_of.ensures in
    subst (AreAppended c.args.kept.now c.append_at.new.kept) (ap (λ ns. nets_at ns c.large_places.result.now) nets ∙ at_large d b c.large_places.result.now c.large_places.ensures) c.append_at.ensures
