use Rattle.fab_cost.proofs.Listings.{Listing}
use Rattle.fab_cost.proofs.runs.push_blocks.Given as goal

abbrev pub invariant-terminals : goal.invariant-terminals
invariant-terminals l = Listing l.net.0 l.terminals l.i l.initial.entries.items l.entries.items
