use Rattle.std.proofs.Common.{[], length, get_or, ap, ◌∙◌, arith}
use Rattle.fab_net.specs.Faults.{first_span}
use Rattle.fab_net.specs.Text.{net_names}
use Rattle.fab_net.proofs.Distinct.{nets_distinct, span_by_number}
use Rattle.fab_net.proofs.pins.Pins.first_span.Goals as goal

pub returns : goal.returns
returns c =
    let names = c.self.inside.names in
    let pins = c.self.inside.pins.items in
    let nets = c.self.invariant.0 ∙ ap net_names c.self.view_is in
    let n = ap length nets in
    let at = span_by_number names c.args.net pins (nets_distinct names _ c.self.invariant.0) (omega (arith, n, c.requires)) c.self.invariant.1 in
    let s = rw c.deref.ensures.value at c.span_at.ensures in
    s ∙ at ∙ ap (λ x. first_span x (get_or names c.args.net [])) c.self.view_is ∙ ap (λ x. first_span c.args.self.now (get_or x c.args.net [])) nets
