use Rattle.std.proofs.Common.{rules, sym, subst}
use Rattle.fab_site.proofs.Freed.{Rises, take_found, take_none}
use Rattle.fab_site.proofs.fixed.take_out.Goals as goal

pub returns-in-Ok : goal.returns-in-Ok
returns-in-Ok c =
    let rises = subst Rises (sym c.deref.ensures.value) c.requires in
    let taken = take_found c.deref.result.now c.args.number c.in-Ok.place c.binary_search.result c.binary_search.ensures.position c.in-Ok.is rises in
    search (rules, taken)

pub returns-in_default : goal.returns-in_default
returns-in_default c =
    let rises = subst Rises (sym c.deref.ensures.value) c.requires in
    let taken = take_none c.deref.result.now c.args.number c.in_default.field-0 c.binary_search.result c.binary_search.ensures.position c.in_default.is rises in
    search (rules, taken)
