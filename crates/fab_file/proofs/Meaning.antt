-- A text without a fault stands for something.
use Rattle.std.proofs.Common.{◌≡◌, ◌≢◌, ℕ, true, cond, List, [], ◌∷◌, ◌++◌, Option, Some, None, length, map, set, replicate, zero, suc, refl, sym, ap, ◌∙◌, subst, inl, inr}
use Rattle.std.specs.Prelude.{is_some}
use Rattle.std.specs.List.{list_all}
use Rattle.std.proofs.lemmas.Bool.{cases_Bool, cases_eq, false≢true}
use Rattle.std.proofs.lemmas.List.{append-nil, append_assoc}
use Rattle.fab_text.specs.Lines.{TextLine}
use Rattle.fab_text.specs.FirstFault.{fault_behind, fault_of_all}
use Rattle.fab_arch.specs.declared.array.Site.{Site}
use Rattle.fab_arch.specs.Grid.{GridShape}
use Rattle.fab_net.specs.Netlist.{Netlist, IsLawful}
use Rattle.fab_site.specs.Placement.{fixed_at, nowhere}
use Rattle.fab_site.specs.Pins.{either_site}
use Rattle.fab_site.proofs.Drafting.{none_missing}
use Rattle.fab_file.specs.Place.{is_files_line, size_in, site_in, block_in, StandsFor}
use Rattle.fab_file.specs.PlaceFaults.{place_header_fault, block_fault, text_fault, first_fault, PlaceMeansOrFaults}
use Rattle.fab_file.specs.Taken.{LinesOf, no_lines, take_fault, with_line}
use Rattle.fab_file.specs.Pinned.{block_lines, is_free, without_free, site_for, IsLocated, pin_fault, no_text_fault, pins_fault, header_fault, LocationMeansOrFaults}
use Rattle.fab_file.proofs.Seats.{some_none, both_none, Seats, no_seats, takable, on, same_fault}
use Rattle.fab_file.proofs.Legal.{same_missing, same_end, no_missing, stands, no_fault_in}
use Rattle.fab_file.proofs.Underway.{sized}
use Rattle.fab_file.proofs.PinText.{no_fault_in as no_pins_fault_in, either_none}
use Rattle.fab_file.proofs.PinLines.{Pinning, IsOn, begin, step, fixing, beginning, all_located, size_is, for_own, for_other, new_block}

-- placement texts

-- block lines that were taken without a fault
record AreTaken (d : Netlist) (g : GridShape) (bs : List TextLine) : Type 0 where
  pub sites : List (Option Site)
  pub seats : Seats d g bs sites
  pub whole : text_fault d bs ≡ None

taken_all : (d : Netlist) (g : GridShape) (before left : List TextLine) (sites : List (Option Site)) → IsLawful d → Seats d g before sites → fault_behind (block_fault d g) (text_fault d) before left ≡ None → AreTaken d g (before ++ left)
taken_all d g before [] sites law u none =
    let all : before ++ [] ≡ before = append-nil before in
    subst (AreTaken d g) (sym all) (record { sites = sites; seats = u; whole = none })
taken_all d g before (l ∷ left) sites law u none =
    let parts = both_none (block_fault d g before l) (fault_behind (block_fault d g) (text_fault d) (before ++ l ∷ []) left) none in
    let t = takable d g sites l (same_fault d g before sites l u ∙ parts.0) in
    let more = taken_all d g (before ++ l ∷ []) left (set sites t.block (Some t.site)) law (on d g before l sites law u t) parts.1 in
    subst (AreTaken d g) (append_assoc before (l ∷ []) left) more

abbrev pub site_or : Option Site → Site
site_or None = nowhere
site_or (Some s) = s

-- the sites, where each is there
abbrev pub there : List (Option Site) → List Site
there [] = []
there (o ∷ os) = site_or o ∷ there os

pub each_there : (os : List (Option Site)) → list_all is_some os ≡ true → map Some (there os) ≡ os
each_there [] h = refl
each_there (None ∷ os) h = absurd (false≢true h)
each_there (Some s ∷ os) h = ap (λ xs. Some s ∷ xs) (each_there os h)

place_meant : (d : Netlist) (g : GridShape) (ls : List TextLine) → IsLawful d → first_fault d g ls ≡ None → (sites : List Site) × StandsFor d g ls sites
place_meant d g [] law none = absurd (some_none _ none)
place_meant d g (files ∷ []) law none = absurd (some_none _ none)
place_meant d g (files ∷ size ∷ rest) law none =
    let parts = both_none (place_header_fault g (files ∷ size ∷ rest)) (fault_of_all (block_fault d g) (text_fault d) rest) none in
    let header = sized (is_files_line files) (size_in size) (g.nx, g.ny) (size_is g (cond (is_files_line files) (size_in size) None) parts.0) in
    let t = taken_all d g [] rest (replicate (length d.kinds) None) law (no_seats d g) parts.1 in
    let given = each_there t.sites (none_missing t.sites (same_missing d g rest t.sites law t.seats ∙ no_missing _ t.whole)) in
    (there t.sites, stands d g (files ∷ size ∷ rest) files size rest t.sites (there t.sites) law t.seats refl header.0 header.1 given (same_end d g rest t.sites law t.seats ∙ t.whole))

pub place_texts : (d : Netlist) (g : GridShape) (ls : List TextLine) → IsLawful d → PlaceMeansOrFaults d g ls
place_texts d g ls law = (λ sites s. no_fault_in d g ls sites law s, λ none. place_meant d g ls law none)

-- location texts

-- a site for one more block
abbrev given_to : ℕ → Site → List (Option Site) → List (Option Site)
given_to zero s [] = Some s ∷ []
given_to zero s (o ∷ os) = Some s ∷ os
given_to (suc b) s [] = None ∷ given_to b s []
given_to (suc b) s (o ∷ os) = o ∷ given_to b s os

given_own : (b : ℕ) (s : Site) (os : List (Option Site)) → fixed_at (given_to b s os) b ≡ Some s
given_own zero s [] = refl
given_own zero s (o ∷ os) = refl
given_own (suc b) s [] = given_own b s []
given_own (suc b) s (o ∷ os) = given_own b s os

given_other : (b : ℕ) (s : Site) (os : List (Option Site)) (a : ℕ) → a ≢ b → fixed_at (given_to b s os) a ≡ fixed_at os a
given_other zero s [] zero h = absurd (h refl)
given_other zero s [] (suc a) h = refl
given_other zero s (o ∷ os) zero h = absurd (h refl)
given_other zero s (o ∷ os) (suc a) h = refl
given_other (suc b) s [] zero h = refl
given_other (suc b) s [] (suc a) h = given_other b s [] a (λ e. h (ap suc e))
given_other (suc b) s (o ∷ os) zero h = refl
given_other (suc b) s (o ∷ os) (suc a) h = given_other b s os a (λ e. h (ap suc e))

-- a line without a fault gives its block its site
keeps : (d : Netlist) (l : TextLine) (b : ℕ) (s : Site) (os : List (Option Site)) → block_in d l ≡ Some b → site_in l ≡ Some s → fixed_at os b ≡ None → (a : ℕ) → fixed_at (given_to b s os) a ≡ either_site (fixed_at os a) (site_for d a l)
keeps d l b s os named given new a = elim (cases_eq a b) [
  | inl e ↦
      let mine : site_for d a l ≡ Some s = ap (λ x. site_for d x l) e ∙ for_own d b s l named given in
      let no : fixed_at os a ≡ None = ap (fixed_at os) e ∙ new in
      ap (fixed_at (given_to b s os)) e ∙ given_own b s os ∙ sym (ap (λ o. either_site o (site_for d a l)) no ∙ mine)
  | inr other ↦
      given_other b s os a other ∙ sym (ap (either_site (fixed_at os a)) (for_other d a b l named other) ∙ either_none (fixed_at os a))
]

-- the sites that a line without a fault adds
record IsKept (d : Netlist) (l : TextLine) (fixed begun : List (Option Site)) : Type 0 where
  pub new_fixed : List (Option Site)
  pub new_begun : List (Option Site)
  pub kept : IsOn d l fixed begun new_fixed new_begun

kept_by : (d : Netlist) (l : TextLine) (fixed begun : List (Option Site)) (b : ℕ) (s : Site) → block_in d (without_free l) ≡ Some b → site_in (without_free l) ≡ Some s → (fixed_at fixed b ≡ None) × (fixed_at begun b ≡ None) → IsKept d l fixed begun
kept_by d l fixed begun b s named given new = elim (cases_Bool (is_free l)) [
  | inl y ↦ record { new_fixed = fixed; new_begun = given_to b s begun; kept = beginning d l fixed begun (given_to b s begun) y (keeps d (without_free l) b s begun named given new.1) }
  | inr n ↦ record { new_fixed = given_to b s fixed; new_begun = begun; kept = fixing d l fixed begun (given_to b s fixed) n (keeps d (without_free l) b s fixed named given new.0) }
]

located_all : (d : Netlist) (g : GridShape) (all left : List TextLine) (p : LinesOf) (fixed begun : List (Option Site)) → IsLawful d → Pinning d g all left p fixed begun → pins_fault d g all ≡ None
    → (fixed : List (Option Site)) × ((begun : List (Option Site)) × IsLocated d g all fixed begun)
located_all d g all [] p fixed begun law r none = (fixed, (begun, all_located d g all p fixed begun r))
located_all d g all (l ∷ left) p fixed begun law r none =
    let plain = without_free l in
    let parts = both_none (pin_fault d g r.before l) (fault_behind (pin_fault d g) no_text_fault (r.before ++ l ∷ []) left) (sym r.clean ∙ none) in
    let clear : take_fault (record { netlist = d; grid = g; sites = r.sites }) plain ≡ None = same_fault d g (map without_free r.before) r.sites plain r.seats ∙ parts.0 in
    let t = takable d g r.sites plain clear in
    let k = kept_by d l fixed begun t.block t.site t.named t.given (new_block d g all (l ∷ left) p fixed begun t.block r t.new) in
    located_all d g all left (with_line p plain) k.new_fixed k.new_begun law
    (step d g all left l p (with_line p plain) fixed begun k.new_fixed k.new_begun law r (ap (λ x. take_fault x plain) r.is ∙ clear) refl k.kept) none

location_meant : (d : Netlist) (g : GridShape) (ls : List TextLine) → IsLawful d → pins_fault d g ls ≡ None → (fixed : List (Option Site)) × ((begun : List (Option Site)) × IsLocated d g ls fixed begun)
location_meant d g ls law none =
    let parts = both_none (header_fault g ls) (fault_of_all (pin_fault d g) no_text_fault (block_lines ls)) none in
    located_all d g ls (block_lines ls) (no_lines d g) [] [] law (begin d g ls (block_lines ls) (no_lines d g) [] [] refl (λ b. refl) (λ b. refl) refl parts.0) none

pub location_texts : (d : Netlist) (g : GridShape) (ls : List TextLine) → IsLawful d → LocationMeansOrFaults d g ls
location_texts d g ls law = (λ fixed begun s. no_pins_fault_in d g ls fixed begun s, λ none. location_meant d g ls law none)
