use Rattle.std.proofs.Common.{◌∷◌, [], ◌++◌, ap, ◌∙◌}
use Rattle.fab_net.proofs.Naming.{pushed}
use Rattle.fab_net.proofs.pins.Pins.add.Goals as goal

pub invariant_of-self-2 : goal.invariant_of-self-2
invariant_of-self-2 c =
    let i = c.in_ok-number.ensures in
    let q = pushed c.self.inside.names c.self.inside.pins.items c.args.name.now (record { block = c.args.block; pin = c.args.pin; net = c.in_ok-number.number; drives = c.args.drives; span = c.args.span }) c.intern.new.self c.self.invariant.0 c.self.invariant.1 i.names i.found in
    rw (c.push_reserved.ensures.items, c.reserve.ensures.items) (q.nets, q.within)

pub returns-clause-pins : goal.returns-clause-pins
returns-clause-pins c =
    let i = c.in_ok-number.ensures in
    let q = pushed c.self.inside.names c.self.inside.pins.items c.args.name.now (record { block = c.args.block; pin = c.args.pin; net = c.in_ok-number.number; drives = c.args.drives; span = c.args.span }) c.intern.new.self c.self.invariant.0 c.self.invariant.1 i.names i.found in
    rw (c.push_reserved.ensures.items, c.reserve.ensures.items) (q.view ∙ ap (λ xs. xs ++ record { block = c.args.block; pin = c.args.pin; name = c.args.name.now; span = c.args.span; drives = c.args.drives } ∷ []) c.self.view_is)
