use Rattle.std.proofs.Common.{◌≡◌, ◌∙◌}
use Rattle.fab_site.specs.Draft.{holder_of}
use Rattle.fab_site.proofs.Drafting.{holder_is}
use Rattle.fab_site.proofs.drafts.Draft.at.Goals as goal

pub returns-clause-stands : goal.returns-clause-stands
returns-clause-stands c b =
    let first : c.held.result ≡ holder_of c.self.inside.sites.items c.args.site = c.held.ensures ∙ rw (c.deref.ensures.value, c.index_of.ensures) (c.self.invariant.each c.args.site) in
    rw (← c.self.view_is, first) (holder_is c.self.inside.sites.items c.args.site b c.self.invariant.apart)
