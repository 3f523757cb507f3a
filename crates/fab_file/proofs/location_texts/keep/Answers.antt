use Rattle.std.proofs.Common.{rules, ◌≡◌, ◌<◌, ◌∙◌, Some, None, sym, ap, refl, arith, inl, inr, length}
use Rattle.std.proofs.lemmas.Bool.{cases_eq, ne_eqb, eq-eqb}
use Rattle.fab_text.specs.Shown.{shown}
use Rattle.fab_site.specs.Placement.{fixed_at}
use Rattle.fab_site.specs.Pins.{either_site}
use Rattle.fab_site.proofs.Freed.{fixed_set}
use Rattle.fab_file.specs.Place.{site_in, block_in}
use Rattle.fab_file.specs.Pinned.{site_for}
use Rattle.fab_file.proofs.Seats.{named_below}
use Rattle.fab_file.proofs.PinText.{either_none}
use Rattle.fab_file.proofs.PinLines.{for_own, for_other}
use Rattle.fab_file.proofs.location_texts.keep.Goals as goal

pub returns-in-Some-site_in-clause-kept : goal.returns-in-Some-site_in-clause-kept
returns-in-Some-site_in-clause-kept c b =
    let d = c.args.design.now in
    let l = shown c.args.line.now in
    let old = c.args.sites.now.items in
    let block = c.in-Some.block.0 in
    let site = c.in-Some-site_in.site in
    let named : block_in d l ≡ Some block = search rules in
    let given : site_in l ≡ Some site = search rules in
    let below : block < length old = omega (arith, named_below d l block c.requires.lawful named, c.requires.long) in
    fixed_set old block b site below ∙ elim (cases_eq b block) [
      | inl e ↦
          let own = for_own d block site l named given in
          let free : fixed_at old b ≡ None = ap (fixed_at old) e ∙ c.requires.new block site own in
          rw (e, eq-eqb block block refl) (sym (ap (λ o. either_site o (site_for d block l)) (sym (ap (fixed_at old) e) ∙ free) ∙ own))
      | inr other ↦
          let none = for_other d b block l named other in
          rw (ne_eqb b block other) (sym (ap (either_site (fixed_at old b)) none ∙ either_none (fixed_at old b)))
    ]
