use Rattle.std.proofs.Common.{◌≡◌, Some, true, set, length, sym, ap, ◌∙◌}
use Rattle.std.specs.Option.{option_map}
use Rattle.std.proofs.lemmas.List.{length-set}
use Rattle.fab_text.specs.Shown.{shown}
use Rattle.fab_arch.specs.Grid.{kind_at}
use Rattle.fab_net.specs.Names.{number_of}
use Rattle.fab_file.specs.Place.{site_in, block_in}
use Rattle.fab_file.specs.PlaceFaults.{same_kind}
use Rattle.fab_file.specs.Taken.{AreFitting, wanted}
use Rattle.fab_file.proofs.Seats.{fitting_put, no_take_fault, none_there_yet, nobody_there}
use Rattle.fab_file.proofs.block_lines.PlaceLines.take.Goals as goal

pub invariant_of-self : goal.invariant_of-self
invariant_of-self c =
    let d = c.self.inside.design.now in
    let g = c.self.inside.grid.now in
    let sites = c.self.inside.draft.sites in
    let b = c.in-Some-block_named.block.0 in
    let site = c.in-Some.site in
    let missing = none_there_yet sites b c.site_of.result c.site_of.ensures (sym c.is_some.ensures ∙ c.if-is_some.false) in
    let free = nobody_there sites site c.at.result c.at.ensures.first (sym c.is_some-2.ensures ∙ c.if-is_some-2.false) in
    let kind : kind_at g site ≡ Some c.in-Some-has_site.kind = sym c.has_site.ensures ∙ c.in-Some-has_site.is in
    let takes : same_kind c.in-Some-has_site.kind (wanted c.kind.result) ≡ true = sym c.takes.ensures ∙ c.if-not-takes.false in
    let put : c.put.new.self.sites ≡ set sites b (Some site) = ap (λ p. p.sites) c.put.ensures in
    let fitting : AreFitting d g c.put.new.self.sites = rw put (fitting_put d g sites b site c.kind.result c.in-Some-has_site.kind c.self.invariant.3 missing free c.kind.ensures kind takes) in
    (ap (λ p. p.grid) c.put.ensures ∙ c.self.invariant.0, ap length put ∙ length-set sites b (Some site) ∙ c.self.invariant.1, c.self.invariant.2, fitting)

pub returns-clause-ok : goal.returns-clause-ok
returns-clause-ok c =
    let d = c.self.inside.design.now in
    let g = c.self.inside.grid.now in
    let sites = c.self.inside.draft.sites in
    let b = c.in-Some-block_named.block.0 in
    let site = c.in-Some.site in
    let l = shown c.args.line.now in
    let named : block_in d l ≡ Some b = ap (λ w. number_of w d.names) (sym c.word_at.ensures) ∙ sym c.block_named.ensures ∙ ap (option_map (λ b. b.0)) c.in-Some-block_named.is in
    let given : site_in l ≡ Some site = sym c.site_in.ensures ∙ c.in-Some.is in
    let missing = none_there_yet sites b c.site_of.result c.site_of.ensures (sym c.is_some.ensures ∙ c.if-is_some.false) in
    let free = nobody_there sites site c.at.result c.at.ensures.first (sym c.is_some-2.ensures ∙ c.if-is_some-2.false) in
    let kind : kind_at g site ≡ Some c.in-Some-has_site.kind = sym c.has_site.ensures ∙ c.in-Some-has_site.is in
    let takes : same_kind c.in-Some-has_site.kind (wanted c.kind.result) ≡ true = sym c.takes.ensures ∙ c.if-not-takes.false in
    rw (← c.self.view_is) (no_take_fault d g sites l b site c.kind.result c.in-Some-has_site.kind named given missing free c.kind.ensures kind takes)
