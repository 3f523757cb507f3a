use Rattle.std.proofs.Common.{◌∙◌}
use Rattle.fab_site.proofs.Drafting.{tabled_all}
use Rattle.fab_site.proofs.drafts.Draft.finish.Goals as goal

pub of_table-requires : goal.of_table-requires
of_table-requires c = tabled_all c.self.inside.grid c.in_ok-own.own.items c.self.inside.sites.items c.self.inside.holders.items (c.in_ok-own.ensures ∙ c.deref.ensures.value) c.self.invariant
