use Rattle.std.proofs.Common.{◌≡◌, ◌+◌, ◌-◌, ◌<◌, [], length, get_or, sym, ap, ◌∙◌, arith}
use Rattle.std.proofs.lemmas.List.FromFn.{length-map-range_with_len, get_or-map-range_with_len}
use Rattle.std.proofs.lemmas.List.{length-map}
use Rattle.fab_net.specs.Rows.{cut_at}
use Rattle.fab_cost.specs.SizedRows.{column}
use Rattle.fab_cost.proofs.sized_rows.SizedRows.wide_row.Goals as goal

pub cut-requires : goal.cut-requires
cut-requires c =
    let starts = column 2 c.self.inside.starts.items in
    let long : length starts ≡ length c.self.inside.starts.items = length-map c.self.inside.starts.items (λ four. get_or four 2 0) in
    let n : length c.args.self.now.wide ≡ length starts - 1 = ap (λ a. length a.wide) (sym c.self.view_is) ∙ length-map-range_with_len (cut_at starts c.self.inside.wide.items) 0 (length starts - 1) in
    let lt : c.args.r + 1 < length starts = omega (arith, n) in
    let i = c.self.invariant.of_wide c.args.r lt in
    rw (c.deref.ensures.value, c.deref-2.ensures.value) (record { kind = omega arith; next = omega (arith, lt, long); order = i.0; within = i.1 })

pub returns : goal.returns
returns c =
    let starts = column 2 c.self.inside.starts.items in
    let items = c.self.inside.wide.items in
    let n : length c.args.self.now.wide ≡ length starts - 1 = ap (λ a. length a.wide) (sym c.self.view_is) ∙ length-map-range_with_len (cut_at starts items) 0 (length starts - 1) in
    let at = get_or-map-range_with_len (cut_at starts items) 0 (length starts - 1) c.args.r c.args.r [] (omega (arith, n)) (omega arith) in
    let p : c.cut.result.now ≡ cut_at starts items c.args.r = rw (c.deref.ensures.value, c.deref-2.ensures.value) at c.cut.ensures in
    p ∙ sym at ∙ ap (λ a. get_or a.wide c.args.r []) c.self.view_is
