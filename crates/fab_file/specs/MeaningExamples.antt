-- Examples of what texts stand for: a pad and a logic block on an array of two by two.
use Rattle.std.specs.Prelude.{ℕ, zero, suc, ◌≡◌, List, [], ◌∷◌, Some, None, true, false, codes, refl}
use Rattle.std.specs.List.{list_any, AllByRecursion}
use Rattle.std.proofs.Common.{eqb, sym, subst, arith}
use Rattle.std.proofs.lemmas.Bool.{false≢true, ne_eqb}
use Rattle.fab_text.specs.Lines.{TextLine}
use Rattle.fab_text.specs.Decimal.{decimal_of}
use Rattle.fab_arch.specs.declared.array.Site.{Site}
use Rattle.fab_site.specs.Placement.{fixed_at, site}
use Rattle.fab_site.specs.Examples.{pad_and_logic, two_by_two, each_on_a_site_of_its_kind, one_fixed_and_one_begun}
use Rattle.fab_file.specs.Place.{names_block, StandsFor}
use Rattle.fab_file.specs.Pinned.{fixed_by, begun_by, first_given, IsLocated}

abbrev line : ℕ → List (List ℕ) → TextLine
line n words = record { number = n; words = words; spans = [] }

abbrev files : TextLine
files = line 1 (codes "Netlist" ∷ codes "file:" ∷ codes "t.net" ∷ codes "Architecture" ∷ codes "file:" ∷ codes "t.arch" ∷ [])

abbrev size : TextLine
size = line 2 (codes "Array" ∷ codes "size:" ∷ codes "2" ∷ codes "x" ∷ codes "2" ∷ codes "logic" ∷ codes "blocks" ∷ [])

abbrev logic_line : TextLine
logic_line = line 3 (codes "b" ∷ codes "2" ∷ codes "2" ∷ codes "0" ∷ [])

abbrev pad_line : TextLine
pad_line = line 4 (codes "a" ∷ codes "0" ∷ codes "1" ∷ codes "0" ∷ [])

abbrev free_pad_line : TextLine
free_pad_line = line 4 (codes "a" ∷ codes "0" ∷ codes "1" ∷ codes "0" ∷ codes "free" ∷ [])

abbrev two_sites : List Site
two_sites = site 0 1 0 ∷ site 2 2 0 ∷ []

none_some : {X : Type 0} (x : X) → None ≡ Some x → ⊥
none_some x h = cc

pub lines_in_any_order : StandsFor pad_and_logic two_by_two (files ∷ size ∷ logic_line ∷ pad_line ∷ []) two_sites
unfolding decimal_of
lines_in_any_order = record {
  files = files;
  size = size;
  rest = logic_line ∷ pad_line ∷ [];
  text = refl;
  files_line = refl;
  size_line = refl;
  lines = (record { block = 1; named = refl; stands = refl }, (record { block = 0; named = refl; stands = refl }, tt));
  distinct = (refl, (refl, tt));
  complete = (refl, (refl, tt));
  legal = record { all = refl; fit = each_on_a_site_of_its_kind.fit; apart = each_on_a_site_of_its_kind.apart; stay = λ b s h. absurd (none_some s h) };
}

pub a_block_without_a_line_has_no_site : ¬ StandsFor pad_and_logic two_by_two (files ∷ size ∷ logic_line ∷ []) two_sites
a_block_without_a_line_has_no_site t =
    let rest : t.rest ≡ logic_line ∷ [] = behind t.files t.size t.rest t.text in
    let complete = subst (λ r. AllByRecursion (λ name. list_any (names_block name) r ≡ true) pad_and_logic.names) rest t.complete in
    absurd (false≢true complete.0)
  where
    behind : (f s : TextLine) (r : List TextLine) → files ∷ size ∷ logic_line ∷ [] ≡ f ∷ s ∷ r → r ≡ logic_line ∷ []
    behind f s r h = cc

pub a_line_fixes_and_one_begins : IsLocated pad_and_logic two_by_two (logic_line ∷ free_pad_line ∷ []) (None ∷ Some (site 2 2 0) ∷ []) (Some (site 0 1 0) ∷ [])
unfolding decimal_of
a_line_fixes_and_one_begins = record {
  header = λ h. absurd (false≢true h);
  lines = (record { block = 1; site = site 2 2 0; named = refl; given = refl }, (record { block = 0; site = site 0 1 0; named = refl; given = refl }, tt));
  distinct = (refl, (refl, tt));
  fixed_sites = fixed_sites;
  begun_sites = begun_sites;
  lawful = one_fixed_and_one_begun;
}
  where
    fixed_sites : (b : ℕ) → fixed_at (None ∷ Some (site 2 2 0) ∷ []) b ≡ first_given (fixed_by pad_and_logic b) (logic_line ∷ free_pad_line ∷ [])
    fixed_sites zero = refl
    fixed_sites (suc zero) = refl
    fixed_sites (suc (suc b)) =
        let not_logic : eqb 1 (suc (suc b)) ≡ false = ne_eqb 1 (suc (suc b)) (λ e. omega (arith, e)) in
        rw not_logic refl

    begun_sites : (b : ℕ) → fixed_at (Some (site 0 1 0) ∷ []) b ≡ first_given (begun_by pad_and_logic b) (logic_line ∷ free_pad_line ∷ [])
    begun_sites zero = refl
    begun_sites (suc zero) = refl
    begun_sites (suc (suc b)) =
        let not_pad : eqb 0 (suc (suc b)) ≡ false = ne_eqb 0 (suc (suc b)) (λ e. omega (arith, e)) in
        rw not_pad refl

pub free_begins_and_does_not_fix : ¬ IsLocated pad_and_logic two_by_two (logic_line ∷ free_pad_line ∷ []) (Some (site 0 1 0) ∷ Some (site 2 2 0) ∷ []) []
unfolding decimal_of
free_begins_and_does_not_fix t = none_some (site 0 1 0) (sym (t.fixed_sites 0))
