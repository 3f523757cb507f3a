use Rattle.std.proofs.Common.{◌≡◌, true, ◌∙◌, ◌||◌, rules}
use Rattle.std.proofs.lemmas.Bool.{or_left, or_right}
use Rattle.fab_commit.specs.Model.World.{is_claimed, is_judged}
use Rattle.fab_commit.proofs.ModelLemmas.Listing.{first_free-skip}
use Rattle.fab_commit.proofs.model.claims.first_free.Goals as goal
use Rattle.fab_commit.proofs.model.claims.first_free.Goals.{else-not-is_claimed-via-then-not-is_claimed+else-not-is_judged, else-not-is_claimed-via-else-not-is_claimed}

pub loop-number-preserved : goal.loop-number-preserved
loop-number-preserved c =
    let claims = c.args.claims.now in
    let verdicts = c.args.verdicts.now in
    let k = c.loop-number.number in
    let used : (is_claimed k claims || is_judged k verdicts) ≡ true =
    elim c.else-not-is_claimed.branch [
      | else-not-is_claimed-via-then-not-is_claimed+else-not-is_judged w ↦ or_right (is_claimed k claims) (is_judged k verdicts) (let h = w.if-not-is_judged in search rules)
      | else-not-is_claimed-via-else-not-is_claimed w ↦ or_left (is_claimed k claims) (is_judged k verdicts) (let h = w.if-not-is_claimed in search rules)
    ] in
    first_free-skip claims verdicts k c.args.to c.loop-number-test.true used ∙ c.loop-number.invariant
