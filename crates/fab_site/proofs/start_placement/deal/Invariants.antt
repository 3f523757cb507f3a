use Rattle.fab_site.specs.Start.{deal}
use Rattle.fab_site.proofs.Drawing.{Drawing}
use Rattle.fab_site.proofs.start_placement.deal.Given as goal

abbrev pub invariant-loop-number : goal.invariant-loop-number
invariant-loop-number g l = Drawing (g.W.Words.starts l.words) (deal (g.W.Words.starts l.words) 0 l.fn.logic.items l.fn.pads.items l.given.sites l.design.kinds) l.given.sites l.design.kinds l.number l.drawn l.logic_sites.items l.pad_sites.items l.sites.items
