use Rattle.fab_cost.proofs.Columns.{as_long, fits, some_starts}
use Rattle.fab_cost.proofs.sized_rows.together.Goals as goal

pub zipped-requires-clause-middle : goal.zipped-requires-clause-middle
zipped-requires-clause-middle c =
    let a = c.into_parts-middle_starts in
    let b = c.into_parts-small_starts in
    as_long c.args.middle c.args.small a.result.0.items b.result.0.items c.deref-2.result.now c.deref.result.now a.result.1.items b.result.1.items a.ensures.rows b.ensures.rows a.ensures.some b.ensures.some c.requires.middle c.deref-2.ensures.value c.deref.ensures.value

pub zipped-requires-clause-wide : goal.zipped-requires-clause-wide
zipped-requires-clause-wide c =
    let a = c.into_parts-wide_starts in
    let b = c.into_parts-small_starts in
    as_long c.args.wide c.args.small a.result.0.items b.result.0.items c.deref-3.result.now c.deref.result.now a.result.1.items b.result.1.items a.ensures.rows b.ensures.rows a.ensures.some b.ensures.some c.requires.wide c.deref-3.ensures.value c.deref.ensures.value

pub zipped-requires-clause-large : goal.zipped-requires-clause-large
zipped-requires-clause-large c =
    let a = c.into_parts-large_starts in
    let b = c.into_parts-small_starts in
    as_long c.args.large c.args.small a.result.0.items b.result.0.items c.deref-4.result.now c.deref.result.now a.result.1.items b.result.1.items a.ensures.rows b.ensures.rows a.ensures.some b.ensures.some c.requires.large c.deref-4.ensures.value c.deref.ensures.value

pub invariant_of-result : goal.invariant_of-result
invariant_of-result c =
    let table = c.in_ok-starts.starts.items in
    let told = c.in_ok-starts.ensures in
    let a = c.into_parts-small_starts in
    let b = c.into_parts-middle_starts in
    let d = c.into_parts-wide_starts in
    let e = c.into_parts-large_starts in
    record {
      some = some_starts 0 table c.deref.result.now a.result.0.items told.small c.deref.ensures.value a.ensures.some;
      of_small = fits 0 table c.deref.result.now a.result.0.items a.result.1.items told.small c.deref.ensures.value a.ensures.order;
      of_middle = fits 1 table c.deref-2.result.now b.result.0.items b.result.1.items told.middle c.deref-2.ensures.value b.ensures.order;
      of_wide = fits 2 table c.deref-3.result.now d.result.0.items d.result.1.items told.wide c.deref-3.ensures.value d.ensures.order;
      of_large = fits 3 table c.deref-4.result.now e.result.0.items e.result.1.items told.large c.deref-4.ensures.value e.ensures.order;
    }
