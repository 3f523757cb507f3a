-- A reader of a location text: the lines that it took, and those that are left.
use Rattle.std.proofs.Common.{◌≡◌, ◌≢◌, ℕ, ◌<◌, Bool, true, false, cond, eqb, List, [], ◌∷◌, ◌++◌, Option, Some, None, length, map, set, replicate, zero, suc, refl, sym, ap, ◌∙◌, subst, ◌&&◌, inl, inr, arith}
use Rattle.std.specs.Prelude.{slice_get, is_some}
use Rattle.std.specs.List.{AllByRecursion}
use Rattle.std.proofs.lemmas.Bool.{cases_Bool, cases_eq, false≢true, and_parts, eqb-true, eq-eqb, ne_eqb}
use Rattle.std.proofs.lemmas.List.{append-nil, append_assoc, map_push}
use Rattle.fab_text.specs.Lines.{TextLine}
use Rattle.fab_text.specs.FirstFault.{or_else, fault_behind}
use Rattle.fab_arch.specs.declared.array.Site.{Site}
use Rattle.fab_arch.specs.Grid.{GridShape}
use Rattle.fab_net.specs.Names.{AllDistinct}
use Rattle.fab_net.specs.Netlist.{Netlist, IsLawful}
use Rattle.fab_site.specs.Placement.{flat, fixed_at}
use Rattle.fab_site.specs.Pins.{either_site, given_at}
use Rattle.fab_site.proofs.Drafting.{get_set_same, get_set_other}
use Rattle.fab_file.specs.declared.fault.PlaceFault.{PlaceFault}
use Rattle.fab_file.specs.declared.fault.PlaceFault.TheVariants as fault
use Rattle.fab_file.specs.Place.{site_in, block_in, place_size_of}
use Rattle.fab_file.specs.PlaceFaults.{size_fault_by}
use Rattle.fab_file.specs.Taken.{LinesOf, no_lines, has_site, take_fault, with_line}
use Rattle.fab_file.specs.Pinned.{block_lines, is_free, without_free, Locates, site_for, fixed_by, begun_by, first_given, IsLocated, pin_fault, no_text_fault, pins_fault, header_fault}
use Rattle.fab_file.proofs.Seats.{none_some, some_none, first_word, IsSeated, Seats, no_seats, IsTakable, takable, named_below, on, same_fault}
use Rattle.fab_file.proofs.PinText.{behind_lawful_header, same_block, same_firsts, either_none}

-- the lines that were taken have no fault, and gave these sites; the others are left
pub record Pinning (d : Netlist) (g : GridShape) (all left : List TextLine) (p : LinesOf) (fixed begun : List (Option Site)) : Type 0 where
  pub sites : List (Option Site)
  pub is : p ≡ record { netlist = d; grid = g; sites = sites }
  pub before : List TextLine
  pub text : block_lines all ≡ before ++ left
  pub header : header_fault g all ≡ None
  pub seats : Seats d g (map without_free before) sites
  pub clean : pins_fault d g all ≡ fault_behind (pin_fault d g) no_text_fault before left
  pub fixed_sites : (b : ℕ) → fixed_at fixed b ≡ first_given (fixed_by d b) before
  pub begun_sites : (b : ℕ) → fixed_at begun b ≡ first_given (begun_by d b) before
  pub both : (b : ℕ) → given_at fixed begun b ≡ flat (slice_get sites b)
  pub once : (b : ℕ) → is_some (fixed_at fixed b) ≡ true → fixed_at begun b ≡ None

none_yet : (n b : ℕ) → None ≡ flat (slice_get (replicate n None) b)
none_yet zero b = refl
none_yet (suc n) zero = refl
none_yet (suc n) (suc b) = none_yet n b

-- a list of as many blocks that have no site gives none
pub none_given : (n : ℕ) (sites : List (Option Site)) → sites ≡ replicate n None → (b : ℕ) → fixed_at sites b ≡ None
none_given n sites e b = ap (λ x. fixed_at x b) e ∙ sym (none_yet n b)

pub begin : (d : Netlist) (g : GridShape) (all left : List TextLine) (p : LinesOf) (fixed begun : List (Option Site)) → p ≡ no_lines d g → ((b : ℕ) → fixed_at fixed b ≡ None) → ((b : ℕ) → fixed_at begun b ≡ None) → left ≡ block_lines all → header_fault g all ≡ None
    → Pinning d g all left p fixed begun
begin d g all left p fixed begun new no_fixed no_begun rest header =
    record {
      sites = replicate (length d.kinds) None;
      is = new;
      before = [];
      text = sym rest;
      header = header;
      seats = no_seats d g;
      clean = behind_lawful_header d g all header ∙ ap (fault_behind (pin_fault d g) no_text_fault []) (sym rest);
      fixed_sites = no_fixed;
      begun_sites = no_begun;
      both = λ b. ap (λ o. either_site o (fixed_at begun b)) (no_fixed b) ∙ no_begun b ∙ none_yet (length d.kinds) b;
      once = λ b h. no_begun b;
    }

-- the same, of other lists of the same sites
pub relisted : (d : Netlist) (g : GridShape) (all left : List TextLine) (p : LinesOf) (fixed begun new_fixed new_begun : List (Option Site)) → Pinning d g all left p fixed begun → ((b : ℕ) → fixed_at new_fixed b ≡ fixed_at fixed b) → ((b : ℕ) → fixed_at new_begun b ≡ fixed_at begun b)
    → Pinning d g all left p new_fixed new_begun
relisted d g all left p fixed begun new_fixed new_begun r same_fixed same_begun =
    record {
      sites = r.sites;
      is = r.is;
      before = r.before;
      text = r.text;
      header = r.header;
      seats = r.seats;
      clean = r.clean;
      fixed_sites = λ b. same_fixed b ∙ r.fixed_sites b;
      begun_sites = λ b. same_begun b ∙ r.begun_sites b;
      both = λ b. ap (λ o. either_site o (fixed_at new_begun b)) (same_fixed b) ∙ ap (either_site (fixed_at fixed b)) (same_begun b) ∙ r.both b;
      once = λ b h. same_begun b ∙ r.once b (sym (ap is_some (same_fixed b)) ∙ h);
    }

-- one more line

none_is : (o : Option Site) → is_some o ≡ false → o ≡ None
none_is None h = refl
none_is (Some s) h = absurd (false≢true (sym h))

neither : (a b : Option Site) → either_site a b ≡ None → (a ≡ None) × (b ≡ None)
neither None b h = (refl, h)
neither (Some s) b h = absurd (some_none s h)

either_assoc : (a b c : Option Site) → either_site (either_site a b) c ≡ either_site a (either_site b c)
either_assoc None b c = refl
either_assoc (Some s) b c = refl

given_push : (by_line : TextLine → Option Site) (ls : List TextLine) (l : TextLine) → first_given by_line (ls ++ l ∷ []) ≡ either_site (first_given by_line ls) (by_line l)
given_push by_line [] l = either_none (by_line l)
given_push by_line (k ∷ ls) l = ap (either_site (by_line k)) (given_push by_line ls l) ∙ sym (either_assoc (by_line k) (first_given by_line ls) (by_line l))

pub for_own : (d : Netlist) (b : ℕ) (s : Site) (l : TextLine) → block_in d l ≡ Some b → site_in l ≡ Some s → site_for d b l ≡ Some s
for_own d b s l named given = rw (named, eq-eqb b b refl) given

pub for_other : (d : Netlist) (a b : ℕ) (l : TextLine) → block_in d l ≡ Some b → a ≢ b → site_for d a l ≡ None
for_other d a b l named other = let no : eqb b a ≡ false = ne_eqb b a (λ e. other (sym e)) in rw (named, no) refl

for_is : (d : Netlist) (a b : ℕ) (s : Site) (l : TextLine) → block_in d l ≡ Some b → site_for d a l ≡ Some s → a ≡ b
for_is d a b s l named h = elim (cases_eq a b) [
  | inl e ↦ e
  | inr other ↦ absurd (none_some s (sym (for_other d a b l named other) ∙ h))
]

-- the line's block is neither fixed nor begun
pub new_block : (d : Netlist) (g : GridShape) (all left : List TextLine) (p : LinesOf) (fixed begun : List (Option Site)) (b : ℕ) → (r : Pinning d g all left p fixed begun) → has_site r.sites b ≡ false → (fixed_at fixed b ≡ None) × (fixed_at begun b ≡ None)
new_block d g all left p fixed begun b r h = neither (fixed_at fixed b) (fixed_at begun b) (r.both b ∙ none_is (flat (slice_get r.sites b)) h)

pub is_new : (d : Netlist) (g : GridShape) (all left : List TextLine) (l : TextLine) (p : LinesOf) (fixed begun : List (Option Site)) (b : ℕ) (s : Site) → Pinning d g all (l ∷ left) p fixed begun → take_fault p (without_free l) ≡ None → site_for d b (without_free l) ≡ Some s
    → (fixed_at fixed b ≡ None) × (fixed_at begun b ≡ None)
is_new d g all left l p fixed begun b s r none h =
    let t = takable d g r.sites (without_free l) (ap (λ x. take_fault x (without_free l)) (sym r.is) ∙ none) in
    let same = for_is d b t.block s (without_free l) t.named h in
    new_block d g all (l ∷ left) p fixed begun b r (ap (has_site r.sites) same ∙ t.new)

with_line_is : (d : Netlist) (g : GridShape) (sites : List (Option Site)) (l : TextLine) (b : ℕ) (s : Site) → block_in d l ≡ Some b → site_in l ≡ Some s → with_line (record { netlist = d; grid = g; sites = sites }) l ≡ record { netlist = d; grid = g; sites = set sites b (Some s) }
with_line_is d g sites l b s h k = rw (h, k) refl

either_by : (free : Bool) (o : Option Site) → either_site (cond free None o) (cond free o None) ≡ o
either_by true o = refl
either_by false o = either_none o

by_once : (free : Bool) (o : Option Site) → is_some (cond free None o) ≡ true → cond free o None ≡ None
by_once true o h = absurd (false≢true h)
by_once false o h = refl

none_two : (free : Bool) (o : Option Site) → o ≡ None → (cond free None o ≡ None) × (cond free o None ≡ None)
none_two true o h = (refl, h)
none_two false o h = (h, refl)

not_there : (os : List (Option Site)) (b : ℕ) → b < length os → has_site os b ≡ false → slice_get os b ≡ Some None
not_there [] b lt h = absurd (omega arith)
not_there (None ∷ os) zero lt h = refl
not_there (Some s ∷ os) zero lt h = absurd (false≢true (sym h))
not_there (o ∷ os) (suc b) lt h = not_there os b (omega arith) h

-- the sites that were given, with those that one more line gives
pub record IsOn (d : Netlist) (l : TextLine) (old_fixed old_begun fixed begun : List (Option Site)) : Type 0 where
  pub fixes : (b : ℕ) → fixed_at fixed b ≡ either_site (fixed_at old_fixed b) (fixed_by d b l)
  pub begins : (b : ℕ) → fixed_at begun b ≡ either_site (fixed_at old_begun b) (begun_by d b l)

both_on : (f b x y : Option Site) → (f ≡ None) × (b ≡ None) → either_site (either_site f x) (either_site b y) ≡ either_site x y
both_on f b x y h = rw (h.0, h.1) refl

both_kept : (f b x y : Option Site) → (x ≡ None) × (y ≡ None) → either_site (either_site f x) (either_site b y) ≡ either_site f b
both_kept f b x y h = rw (h.0, h.1) (ap (λ o. either_site o (either_site b None)) (either_none f) ∙ ap (either_site f) (either_none b))

pub step : (d : Netlist) (g : GridShape) (all left : List TextLine) (l : TextLine) (p q : LinesOf) (fixed begun new_fixed new_begun : List (Option Site)) → IsLawful d → Pinning d g all (l ∷ left) p fixed begun → take_fault p (without_free l) ≡ None → q ≡ with_line p (without_free l) → IsOn d l fixed begun new_fixed new_begun
    → Pinning d g all left q new_fixed new_begun
step d g all left l p q fixed begun new_fixed new_begun law r none e n =
    let plain = without_free l in
    let none' : take_fault (record { netlist = d; grid = g; sites = r.sites }) plain ≡ None = ap (λ x. take_fault x plain) (sym r.is) ∙ none in
    let t = takable d g r.sites plain none' in
    let clear : pin_fault d g r.before l ≡ None = sym (same_fault d g (map without_free r.before) r.sites plain r.seats) ∙ none' in
    let seats = on d g (map without_free r.before) plain r.sites law r.seats t in
    let more : map without_free (r.before ++ l ∷ []) ≡ map without_free r.before ++ plain ∷ [] = map_push without_free r.before l in
    let new = new_block d g all (l ∷ left) p fixed begun t.block r t.new in
    record {
      sites = set r.sites t.block (Some t.site);
      is = e ∙ ap (λ x. with_line x plain) r.is ∙ with_line_is d g r.sites plain t.block t.site t.named t.given;
      before = r.before ++ l ∷ [];
      text = r.text ∙ sym (append_assoc r.before (l ∷ []) left);
      header = r.header;
      seats = rw more seats;
      clean = r.clean ∙ ap (λ x. or_else x (fault_behind (pin_fault d g) no_text_fault (r.before ++ l ∷ []) left)) clear;
      fixed_sites = λ b. n.fixes b ∙ ap (λ o. either_site o (fixed_by d b l)) (r.fixed_sites b) ∙ sym (given_push (fixed_by d b) r.before l);
      begun_sites = λ b. n.begins b ∙ ap (λ o. either_site o (begun_by d b l)) (r.begun_sites b) ∙ sym (given_push (begun_by d b) r.before l);
      both = both t new (not_there r.sites t.block (omega (arith, named_below d plain t.block law t.named, r.seats.long)) t.new);
      once = once t new;
    }
  where
    joined : (b : ℕ) → given_at new_fixed new_begun b ≡ either_site (either_site (fixed_at fixed b) (fixed_by d b l)) (either_site (fixed_at begun b) (begun_by d b l))
    joined b = ap (λ o. either_site o (fixed_at new_begun b)) (n.fixes b) ∙ ap (either_site (either_site (fixed_at fixed b) (fixed_by d b l))) (n.begins b)

    both : (t : IsTakable d g r.sites (without_free l)) → (fixed_at fixed t.block ≡ None) × (fixed_at begun t.block ≡ None) → slice_get r.sites t.block ≡ Some None → (b : ℕ) → given_at new_fixed new_begun b ≡ flat (slice_get (set r.sites t.block (Some t.site)) b)
    both t new missing b = elim (cases_eq b t.block) [
      | inl e ↦
          let own : site_for d b (without_free l) ≡ Some t.site = ap (λ a. site_for d a (without_free l)) e ∙ for_own d t.block t.site (without_free l) t.named t.given in
          let no : (fixed_at fixed b ≡ None) × (fixed_at begun b ≡ None) = (ap (fixed_at fixed) e ∙ new.0, ap (fixed_at begun) e ∙ new.1) in
          joined b ∙ both_on (fixed_at fixed b) (fixed_at begun b) (fixed_by d b l) (begun_by d b l) no ∙ either_by (is_free l) (site_for d b (without_free l)) ∙ own
          ∙ sym (ap (λ a. flat (slice_get (set r.sites t.block (Some t.site)) a)) e ∙ ap flat (get_set_same r.sites t.block None (Some t.site) missing))
      | inr other ↦
          let no = none_two (is_free l) (site_for d b (without_free l)) (for_other d b t.block (without_free l) t.named other) in
          joined b ∙ both_kept (fixed_at fixed b) (fixed_at begun b) (fixed_by d b l) (begun_by d b l) no ∙ r.both b
          ∙ sym (ap flat (get_set_other r.sites t.block b (Some t.site) other))
    ]

    once : (t : IsTakable d g r.sites (without_free l)) → (fixed_at fixed t.block ≡ None) × (fixed_at begun t.block ≡ None) → (b : ℕ) → is_some (fixed_at new_fixed b) ≡ true → fixed_at new_begun b ≡ None
    once t new b h = elim (cases_eq b t.block) [
      | inl e ↦
          let fixes : fixed_at new_fixed b ≡ fixed_by d b l = n.fixes b ∙ ap (λ o. either_site o (fixed_by d b l)) (ap (fixed_at fixed) e ∙ new.0) in
          let begins : fixed_at new_begun b ≡ begun_by d b l = n.begins b ∙ ap (λ o. either_site o (begun_by d b l)) (ap (fixed_at begun) e ∙ new.1) in
          begins ∙ by_once (is_free l) (site_for d b (without_free l)) (sym (ap is_some fixes) ∙ h)
      | inr other ↦
          let no = none_two (is_free l) (site_for d b (without_free l)) (for_other d b t.block (without_free l) t.named other) in
          let fixes : fixed_at new_fixed b ≡ fixed_at fixed b = n.fixes b ∙ ap (either_site (fixed_at fixed b)) no.0 ∙ either_none (fixed_at fixed b) in
          let begins : fixed_at new_begun b ≡ fixed_at begun b = n.begins b ∙ ap (either_site (fixed_at begun b)) no.1 ∙ either_none (fixed_at begun b) in
          begins ∙ r.once b (sym (ap is_some fixes) ∙ h)
    ]

-- a line that fixes a block, and one that begins it

pub fixing : (d : Netlist) (l : TextLine) (fixed begun new : List (Option Site)) → is_free l ≡ false → ((b : ℕ) → fixed_at new b ≡ either_site (fixed_at fixed b) (site_for d b (without_free l))) → IsOn d l fixed begun new begun
fixing d l fixed begun new free h =
    record {
      fixes = λ b. h b ∙ ap (λ t. either_site (fixed_at fixed b) (cond t None (site_for d b (without_free l)))) (sym free);
      begins = λ b. sym (ap (λ t. either_site (fixed_at begun b) (cond t (site_for d b (without_free l)) None)) free ∙ either_none (fixed_at begun b));
    }

pub beginning : (d : Netlist) (l : TextLine) (fixed begun new : List (Option Site)) → is_free l ≡ true → ((b : ℕ) → fixed_at new b ≡ either_site (fixed_at begun b) (site_for d b (without_free l))) → IsOn d l fixed begun fixed new
beginning d l fixed begun new free h =
    record {
      fixes = λ b. sym (ap (λ t. either_site (fixed_at fixed b) (cond t None (site_for d b (without_free l)))) free ∙ either_none (fixed_at fixed b));
      begins = λ b. h b ∙ ap (λ t. either_site (fixed_at begun b) (cond t (site_for d b (without_free l)) None)) (sym free);
    }

pub fails : (d : Netlist) (g : GridShape) (all left : List TextLine) (l : TextLine) (p : LinesOf) (fixed begun : List (Option Site)) (e : PlaceFault) → Pinning d g all (l ∷ left) p fixed begun → take_fault p (without_free l) ≡ Some e → pins_fault d g all ≡ Some e
fails d g all left l p fixed begun e r k =
    let k' : take_fault (record { netlist = d; grid = g; sites = r.sites }) (without_free l) ≡ Some e = ap (λ x. take_fault x (without_free l)) (sym r.is) ∙ k in
    let here : pin_fault d g r.before l ≡ Some e = sym (same_fault d g (map without_free r.before) r.sites (without_free l) r.seats) ∙ k' in
    r.clean ∙ ap (λ x. or_else x (fault_behind (pin_fault d g) no_text_fault (r.before ++ l ∷ []) left)) here

-- all lines were taken

all_from : {X Y : Type 0} (P : Y → Type 0) (Q : X → Type 0) (f : X → Y) (xs : List X) → ((x : X) → P (f x) → Q x) → AllByRecursion P (map f xs) → AllByRecursion Q xs
all_from P Q f [] k h = tt
all_from P Q f (x ∷ xs) k h = (k x h.0, all_from P Q f xs k h.1)

located : (d : Netlist) (sites : List (Option Site)) (l : TextLine) → IsSeated d sites (without_free l) → Locates d l
located d sites l u = record { block = u.block; site = u.site; named = sym (same_block d l) ∙ u.named; given = u.given }

flat_some : (o : Option (Option Site)) (s : Site) → flat o ≡ Some s → o ≡ Some (Some s)
flat_some None s h = absurd (none_some s h)
flat_some (Some o) s h = ap (λ x. Some x) h

got_below : (os : List (Option Site)) (b : ℕ) (s : Site) → slice_get os b ≡ Some (Some s) → b < length os
got_below [] b s h = absurd (none_some (Some s) h)
got_below (o ∷ os) zero s h = omega arith
got_below (o ∷ os) (suc b) s h = let rest = got_below os b s h in omega arith

pub size_is : (g : GridShape) (o : Option (ℕ × ℕ)) → size_fault_by g o ≡ None → o ≡ Some (g.nx, g.ny)
size_is g None h = absurd (some_none fault.BadHeader h)
size_is g (Some (x, y)) h = elim (cases_Bool (eqb x g.nx && eqb y g.ny)) [
  | inl t ↦ let parts = and_parts (eqb x g.nx) (eqb y g.ny) t in rw (eqb-true x g.nx parts.0, eqb-true y g.ny parts.1) refl
  | inr n ↦ absurd (some_none fault.WrongSize (ap (λ t. cond t None (Some fault.WrongSize)) (sym n) ∙ h))
]

pub all_located : (d : Netlist) (g : GridShape) (all : List TextLine) (p : LinesOf) (fixed begun : List (Option Site)) → Pinning d g all [] p fixed begun → IsLocated d g all fixed begun
all_located d g all p fixed begun r =
    let text : r.before ≡ block_lines all = sym (r.text ∙ append-nil r.before) in
    let seated = all_from (IsSeated d r.sites) (Locates d) without_free r.before (located d r.sites) r.seats.seated in
    let distinct : AllDistinct (map first_word r.before) = rw (same_firsts r.before) at r.seats.distinct in
    let there : (b : ℕ) (s : Site) → given_at fixed begun b ≡ Some s → slice_get r.sites b ≡ Some (Some s) = λ b s h. flat_some (slice_get r.sites b) s (sym (r.both b) ∙ h) in
    record {
      header = λ h. size_is g (place_size_of all) (ap (λ t. cond t (size_fault_by g (place_size_of all)) None) (sym h) ∙ r.header);
      lines = let P : List TextLine → Type 0 = AllByRecursion (Locates d) in subst P text seated;
      distinct = let P : List TextLine → Type 0 = λ ls. AllDistinct (map first_word ls) in subst P text distinct;
      fixed_sites = λ b. r.fixed_sites b ∙ ap (first_given (fixed_by d b)) text;
      begun_sites = λ b. r.begun_sites b ∙ ap (first_given (begun_by d b)) text;
      lawful = record {
        within = λ b s h. omega (arith, got_below r.sites b s (there b s h), r.seats.long);
        fit = λ b s h. r.seats.fits b s (there b s h);
        apart = λ a b s h k. r.seats.apart a b s (there a s h) (there b s k);
        once = r.once;
      };
    }

pub one_meaning : (d : Netlist) (g : GridShape) (all : List TextLine) (p : LinesOf) (fixed begun other_fixed other_begun : List (Option Site)) → Pinning d g all [] p fixed begun → IsLocated d g all other_fixed other_begun
    → ((b : ℕ) → fixed_at fixed b ≡ fixed_at other_fixed b) × ((b : ℕ) → fixed_at begun b ≡ fixed_at other_begun b)
one_meaning d g all p fixed begun other_fixed other_begun r t =
    let u = all_located d g all p fixed begun r in
    (λ b. u.fixed_sites b ∙ sym (t.fixed_sites b), λ b. u.begun_sites b ∙ sym (t.begun_sites b))
