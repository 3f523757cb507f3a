use Rattle.std.proofs.Common.{◌≡◌, ℕ, Some, length, ap, ◌∙◌}
use Rattle.std.specs.Prelude.{slice_get}
use Rattle.std.proofs.lemmas.Result.{IfOk-weaker}
use Rattle.fab_arch.specs.declared.array.Site.{Site}
use Rattle.fab_site.specs.Placement.{IsLegal, fixed_at}
use Rattle.fab_site.specs.Start.{start_sites}
use Rattle.fab_site.proofs.Dealing.{start_room, start_legal, start_begun, given_long, legal_free}
use Rattle.fab_site.proofs.start_placement.start.Goals as goal

pub deal-requires-clause-all : goal.deal-requires-clause-all
deal-requires-clause-all g c = ap length c.in_ok-given.ensures.sites ∙ given_long c.args.design.now c.args.pins.now.fixed c.args.pins.now.begun

pub deal-requires-clause-logic : goal.deal-requires-clause-logic
deal-requires-clause-logic g c =
    let room = start_room c.args.design.now c.args.grid.now c.args.pins.now.fixed c.args.pins.now.begun c.requires.room c.requires.pins in
    rw (c.in_ok-logic.ensures.sites, c.in_ok-given.ensures.sites) room.0

pub deal-requires-clause-pads : goal.deal-requires-clause-pads
deal-requires-clause-pads g c =
    let room = start_room c.args.design.now c.args.grid.now c.args.pins.now.fixed c.args.pins.now.begun c.requires.room c.requires.pins in
    rw (c.in_ok-pads.ensures.sites, c.in_ok-given.ensures.sites) room.1

pub deal-requires-clause-few : goal.deal-requires-clause-few
deal-requires-clause-few g c = (c.in_ok-logic.ensures.few, c.in_ok-pads.ensures.few)

pub of_sites-requires : goal.of_sites-requires
of_sites-requires g c =
    let d = c.args.design.now in
    let grid = c.args.grid.now in
    let fixed = c.args.pins.now.fixed in
    let begun = c.args.pins.now.begun in
    let word = g.W.Words.starts c.args.words.now in
    let sites : c.in_ok-sites.sites.items ≡ start_sites d grid fixed begun word = rw (← c.in_ok-given.ensures.sites, ← c.in_ok-logic.ensures.sites, ← c.in_ok-pads.ensures.sites) c.in_ok-sites.ensures.sites in
    let words = rw c.in_ok-given.ensures.sites at c.in_ok-sites.ensures.words in
    rw (c.deref.ensures.value, sites) (legal_free d grid fixed (start_sites d grid fixed begun word) (start_legal d grid fixed begun word c.requires.room c.requires.pins words))

pub returns-clause-legal : goal.returns-clause-legal
returns-clause-legal g c =
    let d = c.args.design.now in
    let grid = c.args.grid.now in
    let fixed = c.args.pins.now.fixed in
    let begun = c.args.pins.now.begun in
    let word = g.W.Words.starts c.args.words.now in
    let sites : c.in_ok-sites.sites.items ≡ start_sites d grid fixed begun word = rw (← c.in_ok-given.ensures.sites, ← c.in_ok-logic.ensures.sites, ← c.in_ok-pads.ensures.sites) c.in_ok-sites.ensures.sites in
    let words = rw c.in_ok-given.ensures.sites at c.in_ok-sites.ensures.words in
    let legal = start_legal d grid fixed begun word c.requires.room c.requires.pins words in
    IfOk-weaker c.of_sites.result (λ p. p.sites ≡ c.deref.result.now) (λ p. IsLegal d grid fixed p.sites) (λ p e. rw (e, c.deref.ensures.value, sites) legal) c.of_sites.ensures.sites

pub returns-clause-begun : goal.returns-clause-begun
returns-clause-begun g c =
    let d = c.args.design.now in
    let grid = c.args.grid.now in
    let fixed = c.args.pins.now.fixed in
    let begun = c.args.pins.now.begun in
    let word = g.W.Words.starts c.args.words.now in
    let sites : c.in_ok-sites.sites.items ≡ start_sites d grid fixed begun word = rw (← c.in_ok-given.ensures.sites, ← c.in_ok-logic.ensures.sites, ← c.in_ok-pads.ensures.sites) c.in_ok-sites.ensures.sites in
    let words = rw c.in_ok-given.ensures.sites at c.in_ok-sites.ensures.words in
    let stand = start_begun d grid fixed begun word c.requires.room c.requires.pins words in
    IfOk-weaker c.of_sites.result (λ p. p.sites ≡ c.deref.result.now) (λ p. (b : ℕ) (s : Site) → fixed_at begun b ≡ Some s → slice_get p.sites b ≡ Some s)
    (λ p e b s h. ap (λ xs. slice_get xs b) (e ∙ c.deref.ensures.value ∙ sites) ∙ stand b s h) c.of_sites.ensures.sites
