use Rattle.std.proofs.Common.{◌≡◌}
use Rattle.fab_board.proofs.follow_lead.Lead.fetch.Given as goal

abbrev pub invariant-loop : goal.invariant-loop
invariant-loop g l = l.self ≡ l.fn.self
