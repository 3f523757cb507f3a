use Rattle.std.proofs.Common.{sym, ◌∙◌, arith}
use Rattle.fab_site.proofs.Tables.{index_below}
use Rattle.fab_site.proofs.places.set_holder.Goals as goal

pub index_mut-requires : goal.index_mut-requires
index_mut-requires c =
    let below = index_below c.args.grid.now c.args.site c.in-Some.index (sym c.index_of.ensures ∙ c.in-Some.is) in
    omega (arith, below, c.requires.size)
