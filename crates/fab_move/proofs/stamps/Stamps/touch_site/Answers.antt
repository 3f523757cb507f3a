use Rattle.std.proofs.Common.{sym, ◌∙◌, arith}
use Rattle.fab_site.proofs.Tables.{index_below}
use Rattle.fab_move.proofs.Stamping.{place_touched}
use Rattle.fab_move.proofs.stamps.Stamps.touch_site.Goals as goal

pub index_mut-requires : goal.index_mut-requires
index_mut-requires c =
    let below = index_below c.args.grid.now c.args.site c.in-Some.place (sym c.index_of.ensures ∙ c.in-Some.is) in
    let places = c.requires.table.places in
    omega (arith, below, places)

pub returns-in-Some-clause-touched : goal.returns-in-Some-clause-touched
returns-in-Some-clause-touched c =
    let below = index_below c.args.grid.now c.args.site c.in-Some.place (sym c.index_of.ensures ∙ c.in-Some.is) in
    let places = c.requires.table.places in
    place_touched c.args.grid.now c.args.self.now.blocks.items c.args.self.now.places.items c.args.self.now.nets.items c.args.site c.in-Some.place c.args.stamp (sym c.index_of.ensures ∙ c.in-Some.is) (omega (arith, below, places))
