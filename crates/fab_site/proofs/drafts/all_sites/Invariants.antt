use Rattle.std.proofs.Common.{◌≡◌, Some, map, take}
use Rattle.fab_arch.specs.declared.array.Site.{Site}
use Rattle.fab_site.proofs.drafts.all_sites.Given as goal

abbrev pub invariant-loop-site : goal.invariant-loop-site
invariant-loop-site l = map (λ (s : Site). Some s) l.own.items ≡ take l.site-index l.sites
