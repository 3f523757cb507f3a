use Rattle.std.proofs.Common.{ap, ◌∙◌}
use Rattle.fab_commit.specs.Model.Worlds.{last_among, without_verdict}
use Rattle.fab_commit.proofs.ModelLemmas.Listing.{last_dropped}
use Rattle.fab_commit.proofs.model.claims.drop_last_verdict.Goals as goal

pub returns : goal.returns
returns c =
    c.drop_verdict.ensures
    ∙ ap (λ o. without_verdict c.args.worker o c.args.verdicts.now.items) (c.last_number-last.ensures ∙ ap (λ l. last_among c.args.worker l l) c.deref.ensures.value)
    ∙ last_dropped c.args.worker c.args.verdicts.now.items
