use Rattle.std.proofs.Common.{sym, ◌∙◌}
use Rattle.fab_commit.proofs.model.world_state.judge_and_make.Goals as goal

pub make-requires-clause-lawful : goal.make-requires-clause-lawful
make-requires-clause-lawful g c s e = c.in_ok-answer.ensures.lawful s (sym c.decision_of.ensures.swap ∙ e)
