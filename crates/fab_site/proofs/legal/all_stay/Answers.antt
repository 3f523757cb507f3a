use Rattle.std.proofs.Common.{◌≡◌, true, false, refl, rules}
use Rattle.fab_site.proofs.Legality.{stays_more, stays_not, stays_all}
use Rattle.fab_site.proofs.legal.all_stay.Goals as goal

never : false ≡ true → ⊥
never t = cc

pub returns-then-not-stays : goal.returns-then-not-stays
returns-then-not-stays c =
    let isnt : c.stays.result ≡ false = search rules in
    ((λ t all. absurd (never t)), λ all. absurd (stays_not c.args.fixed.now c.args.sites.now c.loop-block.block c.stays.result c.stays.ensures isnt all))

pub loop-block-preserved : goal.loop-block-preserved
loop-block-preserved c =
    let is : c.stays.result ≡ true = search rules in
    stays_more c.args.fixed.now c.args.sites.now c.loop-block.block (c.stays.ensures.0 is) c.loop-block.invariant

pub returns : goal.returns
returns c =
    let all = stays_all c.args.fixed.now c.args.sites.now c.loop-block.block c.loop-block-test.false c.loop-block.invariant in
    ((λ t. all), λ a. refl)
