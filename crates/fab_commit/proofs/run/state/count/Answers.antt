use Rattle.std.proofs.Common.{sym, ap, ◌∙◌}
use Rattle.fab_commit.specs.Run.Noted.{noted, noted_more}
use Rattle.fab_commit.specs.Serial.{numbers_if}
use Rattle.fab_commit.proofs.RunLemmas.Noting.{noted_more-nil}
use Rattle.fab_commit.proofs.run.state.count.Goals as goal

pub returns-else-took-clause-accepted : goal.returns-else-took-clause-accepted
returns-else-took-clause-accepted c = sym (noted_more-nil (noted c.args.accepted.now)) ∙ ap (λ b. noted_more (noted c.args.accepted.now) (numbers_if c.args.number b)) (sym c.if-took.false)
