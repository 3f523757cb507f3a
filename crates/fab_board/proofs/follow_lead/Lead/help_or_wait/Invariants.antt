use Rattle.std.proofs.Common.{◌≡◌}
use Rattle.fab_board.proofs.follow_lead.Lead.help_or_wait.Given as goal

abbrev pub invariant-loop-other : goal.invariant-loop-other
invariant-loop-other g l = l.self ≡ l.fn.self
