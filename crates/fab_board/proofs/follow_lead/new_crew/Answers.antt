use Rattle.std.proofs.Common.{◌∙◌}
use Rattle.fab_board.proofs.Steps.{both_empty}
use Rattle.fab_board.proofs.follow_lead.new_crew.Goals as goal

pub returns-clause-lead : goal.returns-clause-lead
returns-clause-lead g c = both_empty c.named-book.result.1 c.again-base.result c.named-book.ensures (c.again-base.ensures ∙ c.named-book.ensures)
