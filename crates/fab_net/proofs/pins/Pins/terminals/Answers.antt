use Rattle.std.proofs.Common.{◌≡◌, ◌≤◌, ap, map, length, refl, ◌∙◌, arith}
use Rattle.std.proofs.lemmas.List.{length-map}
use Rattle.std.specs.List.{sum_by}
use Rattle.fab_net.specs.ByNumber.{net_entry, pin_of}
use Rattle.fab_net.specs.Text.{net_names, terminals_of}
use Rattle.fab_net.proofs.Placing.{rows_few}
use Rattle.std.proofs.lemmas.Result.{IfOk-weaker}
use Rattle.fab_net.specs.Rows.{rows_of}
use Rattle.fab_net.proofs.Distinct.{nets_distinct, entries_within, all_terminals}
use Rattle.fab_net.proofs.pins.Pins.terminals.Goals as goal

pub gather-requires-clause-rows : goal.gather-requires-clause-rows
gather-requires-clause-rows c = rw (c.deref-2.ensures.value, c.in_ok-entries.ensures, c.deref.ensures.value, c.len.ensures) (entries_within c.self.inside.names c.self.inside.pins.items c.self.invariant.1)

pub returns-clause-found : goal.returns-clause-found
returns-clause-found c =
    let names = c.self.inside.names in
    let pins = c.self.inside.pins.items in
    let nets = c.self.invariant.0 ∙ ap net_names c.self.view_is in
    let all = all_terminals names pins (nets_distinct names _ c.self.invariant.0) c.self.invariant.1 in
    let rows : rows_of c.len.result c.deref-2.result.now ≡ map (terminals_of c.args.self.now) (net_names c.args.self.now) =
    rw (c.deref-2.ensures.value, c.in_ok-entries.ensures, c.deref.ensures.value, c.len.ensures) (all ∙ ap (λ x. map (terminals_of x) names) c.self.view_is ∙ ap (map (terminals_of c.args.self.now)) nets) in
    IfOk-weaker c.gather.result (λ r. r ≡ rows_of c.len.result c.deref-2.result.now) (λ r. r ≡ map (terminals_of c.args.self.now) (net_names c.args.self.now)) (λ r h. h ∙ rows) c.gather.ensures

pub returns-clause-few : goal.returns-clause-few
returns-clause-few c =
    let pins = c.self.inside.pins.items in
    let n = ap length c.self.view_is in
    let m = length-map pins (pin_of c.self.inside.names) in
    let k = length-map pins net_entry in
    let es : length c.deref-2.result.now ≡ length (map net_entry pins) = rw (c.deref-2.ensures.value, c.in_ok-entries.ensures, c.deref.ensures.value) refl in
    let few = rows_few c.deref-2.result.now c.len.result in
    IfOk-weaker c.gather.result (λ r. r ≡ rows_of c.len.result c.deref-2.result.now) (λ r. sum_by length r ≤ length c.args.self.now) (λ r h. let e = ap (sum_by length) h in omega (arith, e, few, es, k, m, n)) c.gather.ensures
