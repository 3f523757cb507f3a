use Rattle.std.proofs.Common.{arith}
use Rattle.fab_site.proofs.Swapping.{ready, indexed_swapped, other_within}
use Rattle.fab_site.proofs.places.Placement.apply.Goals as goal

pub set_holder-requires-2-clause-fits : goal.set_holder-requires-2-clause-fits
set_holder-requires-2-clause-fits c =
    let is = rw (← c.self.view_is) at c.requires in
    λ b e. let k = other_within c.self.inside.grid c.self.inside.sites.items c.args.swap.now b is e in omega (arith, k, c.self.invariant.few)

pub change_places-requires-clause-block : goal.change_places-requires-clause-block
change_places-requires-clause-block c =
    let is = rw (← c.self.view_is) at c.requires in
    (ready c.self.inside.grid c.self.inside.sites.items c.args.swap.now is).within

pub change_places-requires-clause-other : goal.change_places-requires-clause-other
change_places-requires-clause-other c =
    let is = rw (← c.self.view_is) at c.requires in
    λ b e. other_within c.self.inside.grid c.self.inside.sites.items c.args.swap.now b is e

pub invariant_of-self : goal.invariant_of-self
invariant_of-self c =
    let is = rw (← c.self.view_is) at c.requires in
    let t = indexed_swapped c.self.inside.grid c.self.inside.sites.items c.args.swap.now c.self.inside.holders.items c.set_holder.new.holders.items c.set_holder-2.new.holders.items c.self.invariant is c.set_holder.ensures.set c.set_holder-2.ensures.set in
    rw c.change_places.ensures t
