use Rattle.std.proofs.Common.{◌≡◌, None, replicate}
use Rattle.fab_site.proofs.drafts.no_sites.Given as goal

abbrev pub invariant-loop-block : goal.invariant-loop-block
invariant-loop-block l = l.sites.items ≡ replicate l._block None
