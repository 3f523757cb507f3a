use Rattle.std.proofs.Common.{◌≡◌, ap, map, length, ◌∙◌, arith, count_by}
use Rattle.std.proofs.lemmas.List.{length-map}
use Rattle.std.proofs.lemmas.Result.{IfOk-weaker}
use Rattle.std.specs.List.{range_with_len}
use Rattle.fab_net.specs.Text.{net_names, is_driver}
use Rattle.fab_net.specs.ByNumber.{pin_of}
use Rattle.fab_net.specs.Rows.{of_row}
use Rattle.fab_net.proofs.Distinct.{nets_distinct, drivers_within, drivers_few, all_drivers}
use Rattle.fab_net.proofs.pins.Pins.driver_counts.Goals as goal

pub row_counts-requires-clause-rows : goal.row_counts-requires-clause-rows
row_counts-requires-clause-rows c = rw (c.deref-2.ensures.value, c.in_ok-entries.ensures, c.deref.ensures.value, c.len.ensures) (drivers_within c.self.inside.names c.self.inside.pins.items c.self.invariant.1)

pub row_counts-requires-clause-few : goal.row_counts-requires-clause-few
row_counts-requires-clause-few c =
    let pins = c.self.inside.pins.items in
    let n = ap length c.self.view_is in
    let m = length-map pins (pin_of c.self.inside.names) in
    let d = drivers_few pins in
    rw (c.deref-2.ensures.value, c.in_ok-entries.ensures, c.deref.ensures.value) (omega (arith, n, m, d, c.requires))

pub returns : goal.returns
returns c =
    let names = c.self.inside.names in
    let pins = c.self.inside.pins.items in
    let nets = c.self.invariant.0 ∙ ap net_names c.self.view_is in
    let all = all_drivers names pins (nets_distinct names _ c.self.invariant.0) c.self.invariant.1 in
    let rows : map (λ r. count_by (of_row r) c.deref-2.result.now) (range_with_len 0 c.len.result) ≡ map (λ name. count_by (is_driver name) c.args.self.now) (net_names c.args.self.now) =
    rw (c.deref-2.ensures.value, c.in_ok-entries.ensures, c.deref.ensures.value, c.len.ensures) (all ∙ ap (λ x. map (λ name. count_by (is_driver name) x) names) c.self.view_is ∙ ap (map (λ name. count_by (is_driver name) c.args.self.now)) nets) in
    IfOk-weaker c.row_counts.result (λ v. v.items ≡ map (λ r. count_by (of_row r) c.deref-2.result.now) (range_with_len 0 c.len.result)) (λ v. v.items ≡ map (λ name. count_by (is_driver name) c.args.self.now) (net_names c.args.self.now)) (λ v h. h ∙ rows) c.row_counts.ensures
