use Rattle.std.proofs.Common.{◌≡◌}
use Rattle.fab_site.specs.Pins.{given_at}
use Rattle.fab_site.proofs.Drawing.{AreGiven}
use Rattle.fab_site.proofs.start_placement.given.Given as goal

abbrev pub invariant-loop-number : goal.invariant-loop-number
invariant-loop-number l = (l.draft.grid ≡ l.grid) × AreGiven (given_at l.pins.fixed l.pins.begun) l.blocks l.number l.draft.sites
