use Rattle.fab_site.proofs.Sites.{index_there}
use Rattle.fab_site.proofs.Drafting.{tabled_enter}
use Rattle.fab_site.proofs.drafts.Draft.put.Goals as goal

pub invariant_of-self : goal.invariant_of-self
invariant_of-self c =
    let r = rw (← c.self.view_is) at c.requires in
    let there = index_there c.self.inside.grid c.args.site r.there in
    tabled_enter c.self.inside.grid c.self.inside.sites.items c.self.inside.holders.items c.enter.new.holders.items c.args.block.0 c.args.site c.self.invariant r.missing r.free there c.enter.ensures
