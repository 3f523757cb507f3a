use Rattle.std.proofs.Common.{◌≡◌, ◌∙◌}
use Rattle.fab_site.specs.Placement.{at}
use Rattle.fab_site.proofs.Swaps.{at_is}
use Rattle.fab_site.proofs.places.Placement.at.Goals as goal

pub returns-clause-stands : goal.returns-clause-stands
returns-clause-stands c b =
    let first : c.held.result ≡ at c.self.inside.sites.items c.args.site = c.held.ensures ∙ rw (c.deref.ensures.value, c.index_of.ensures) (c.self.invariant.each c.args.site) in
    rw (← c.self.view_is, first) (at_is c.self.inside.sites.items c.args.site b c.self.invariant.apart)
