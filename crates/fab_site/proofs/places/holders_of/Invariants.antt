use Rattle.fab_site.proofs.Tables.{IsFilled}
use Rattle.fab_site.proofs.places.holders_of.Given as goal

abbrev pub invariant-loop-block : goal.invariant-loop-block
invariant-loop-block l = IsFilled l.grid l.sites l.block l.holders.items
