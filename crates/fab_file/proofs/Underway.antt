-- A reader of block lines: the lines that it took, and those that are left.
use Rattle.std.proofs.Common.{◌≡◌, ℕ, Bool, true, false, cond, List, [], ◌∷◌, ◌++◌, Option, Some, None, IfOk, OnOk, Result, Ok, Err, length, map, set, drop, replicate, refl, sym, ap, ◌∙◌}
use Rattle.std.specs.Prelude.{IfErr, MatchResult}
use Rattle.std.proofs.lemmas.Bool.{eq-eqb}
use Rattle.std.proofs.lemmas.List.{append-nil, append_assoc}
use Rattle.fab_text.specs.Lines.{TextLine}
use Rattle.fab_text.specs.FirstFault.{or_else, fault_behind, fault_of_all}
use Rattle.fab_arch.specs.declared.array.Site.{Site}
use Rattle.fab_arch.specs.Grid.{GridShape}
use Rattle.fab_net.specs.Netlist.{Netlist, IsLawful}
use Rattle.fab_site.specs.Placement.{PlacementOf}
use Rattle.fab_file.specs.declared.fault.PlaceFault.{PlaceFault}
use Rattle.fab_file.specs.declared.fault.PlaceFault.TheVariants as fault
use Rattle.fab_file.specs.Place.{is_files_line, size_in, place_size_of, site_in, block_in, StandsFor}
use Rattle.fab_file.specs.PlaceFaults.{FaultIs, size_fault_by, text_fault, first_fault, size_fault, block_fault}
use Rattle.fab_file.specs.Taken.{LinesOf, no_lines, take_fault, with_line, end_fault}
use Rattle.fab_file.proofs.Seats.{none_some, inner, Seats, no_seats, takable, on, same_fault}
use Rattle.fab_file.proofs.Legal.{stands, same_end, no_fault_in, one_placement, memory_only}

-- the first two lines are the header of this array
pub record HasHeader (g : GridShape) (ls rest : List TextLine) : Type 0 where
  pub files : TextLine
  pub size : TextLine
  pub text : ls ≡ files ∷ size ∷ rest
  pub files_line : is_files_line files ≡ true
  pub size_line : size_in size ≡ Some (g.nx, g.ny)

pub sized : (b : Bool) (o : Option (ℕ × ℕ)) (r : ℕ × ℕ) → cond b o None ≡ Some r → (b ≡ true) × (o ≡ Some r)
sized true o r h = (refl, h)
sized false o r h = absurd (none_some r h)

pub header : (g : GridShape) (ls rest : List TextLine) (nx ny : ℕ) → place_size_of ls ≡ Some (nx, ny) → rest ≡ drop 2 ls → nx ≡ g.nx → ny ≡ g.ny → HasHeader g ls rest
header g [] rest nx ny h d x y = absurd (none_some (nx, ny) h)
header g (files ∷ []) rest nx ny h d x y = absurd (none_some (nx, ny) h)
header g (files ∷ size ∷ ls) rest nx ny h d x y =
    let parts = sized (is_files_line files) (size_in size) (nx, ny) h in
    record { files = files; size = size; text = ap (λ v. files ∷ size ∷ v) (sym d); files_line = parts.0; size_line = parts.1 ∙ rw (x, y) refl }

-- a text whose header is bad

pub bad_header : (d : Netlist) (g : GridShape) (ls : List TextLine) → place_size_of ls ≡ None → first_fault d g ls ≡ Some fault.BadHeader
bad_header d g ls h = ap (λ o. or_else (size_fault_by g o) (fault_of_all (block_fault d g) (text_fault d) (drop 2 ls))) h

bad_size : (o : Option (ℕ × ℕ)) (e : PlaceFault) → size_fault o ≡ Some e → (o ≡ None) × (e ≡ fault.BadHeader)
bad_size None e h = (refl, sym (inner fault.BadHeader e h))
bad_size (Some r) e h = absurd (none_some e h)

pub size_refused : (d : Netlist) (g : GridShape) (ls : List TextLine) (e : PlaceFault) → FaultIs e (size_fault (place_size_of ls)) → FaultIs e (first_fault d g ls)
size_refused d g ls fault.NoMemory h = tt
size_refused d g ls fault.BadHeader h = bad_header d g ls (bad_size (place_size_of ls) fault.BadHeader h).0
size_refused d g ls fault.WrongSize h = absurd (other fault.WrongSize (λ k. cc) (bad_size (place_size_of ls) fault.WrongSize h).1)
  where
    other : (e : PlaceFault) → (e ≡ fault.BadHeader → ⊥) → e ≡ fault.BadHeader → ⊥
    other e f h = f h
size_refused d g ls (fault.UnknownBlock n) h = absurd (let k = (bad_size (place_size_of ls) (fault.UnknownBlock n) h).1 in cc)
size_refused d g ls (fault.Repeated n) h = absurd (let k = (bad_size (place_size_of ls) (fault.Repeated n) h).1 in cc)
size_refused d g ls (fault.NoSuchSite n) h = absurd (let k = (bad_size (place_size_of ls) (fault.NoSuchSite n) h).1 in cc)
size_refused d g ls (fault.WrongKind n) h = absurd (let k = (bad_size (place_size_of ls) (fault.WrongKind n) h).1 in cc)
size_refused d g ls (fault.Taken n) h = absurd (let k = (bad_size (place_size_of ls) (fault.Taken n) h).1 in cc)
size_refused d g ls (fault.Missing n) h = absurd (let k = (bad_size (place_size_of ls) (fault.Missing n) h).1 in cc)
size_refused d g ls (fault.NotAPad n) h = absurd (let k = (bad_size (place_size_of ls) (fault.NotAPad n) h).1 in cc)
size_refused d g ls (fault.BadLine n) h = absurd (let k = (bad_size (place_size_of ls) (fault.BadLine n) h).1 in cc)
size_refused d g ls fault.BadLabel h = absurd (let k = (bad_size (place_size_of ls) fault.BadLabel h).1 in cc)
size_refused d g ls fault.Write h = absurd (let k = (bad_size (place_size_of ls) fault.Write h).1 in cc)

-- the lines that were taken have no fault, and gave these sites; the others are left
pub record Reading (d : Netlist) (g : GridShape) (all left : List TextLine) (p : LinesOf) : Type 0 where
  pub sites : List (Option Site)
  pub is : p ≡ record { netlist = d; grid = g; sites = sites }
  pub files : TextLine
  pub size : TextLine
  pub before : List TextLine
  pub text : all ≡ files ∷ size ∷ (before ++ left)
  pub files_line : is_files_line files ≡ true
  pub size_line : size_in size ≡ Some (g.nx, g.ny)
  pub seats : Seats d g before sites
  pub clean : first_fault d g all ≡ fault_behind (block_fault d g) (text_fault d) before left

pub begin : (d : Netlist) (g : GridShape) (all left : List TextLine) (p : LinesOf) → HasHeader g all left → p ≡ no_lines d g → Reading d g all left p
begin d g all left p h e =
    record {
      sites = replicate (length d.kinds) None;
      is = e;
      files = h.files;
      size = h.size;
      before = [];
      text = h.text;
      files_line = h.files_line;
      size_line = h.size_line;
      seats = no_seats d g;
      clean = rw (h.text, h.files_line, h.size_line, eq-eqb g.nx g.nx refl, eq-eqb g.ny g.ny refl) refl;
    }

pub with_line_is : (d : Netlist) (g : GridShape) (sites : List (Option Site)) (l : TextLine) (b : ℕ) (s : Site) → block_in d l ≡ Some b → site_in l ≡ Some s → with_line (record { netlist = d; grid = g; sites = sites }) l ≡ record { netlist = d; grid = g; sites = set sites b (Some s) }
with_line_is d g sites l b s h k = rw (h, k) refl

pub step : (d : Netlist) (g : GridShape) (all left : List TextLine) (l : TextLine) (p q : LinesOf) → IsLawful d → Reading d g all (l ∷ left) p → take_fault p l ≡ None → q ≡ with_line p l → Reading d g all left q
step d g all left l p q law r none e =
    let none' : take_fault (record { netlist = d; grid = g; sites = r.sites }) l ≡ None = ap (λ x. take_fault x l) (sym r.is) ∙ none in
    let t = takable d g r.sites l none' in
    let clear : block_fault d g r.before l ≡ None = sym (same_fault d g r.before r.sites l r.seats) ∙ none' in
    let more = with_line_is d g r.sites l t.block t.site t.named t.given in
    record {
      sites = set r.sites t.block (Some t.site);
      is = e ∙ ap (λ x. with_line x l) r.is ∙ more;
      files = r.files;
      size = r.size;
      before = r.before ++ l ∷ [];
      text = r.text ∙ ap (λ x. r.files ∷ r.size ∷ x) (sym (append_assoc r.before (l ∷ []) left));
      files_line = r.files_line;
      size_line = r.size_line;
      seats = on d g r.before l r.sites law r.seats t;
      clean = r.clean ∙ ap (λ x. or_else x (fault_behind (block_fault d g) (text_fault d) (r.before ++ l ∷ []) left)) clear;
    }

pub fails : (d : Netlist) (g : GridShape) (all left : List TextLine) (l : TextLine) (p : LinesOf) (e : PlaceFault) → Reading d g all (l ∷ left) p → take_fault p l ≡ Some e → first_fault d g all ≡ Some e
fails d g all left l p e r k =
    let k' : take_fault (record { netlist = d; grid = g; sites = r.sites }) l ≡ Some e = ap (λ x. take_fault x l) (sym r.is) ∙ k in
    let here : block_fault d g r.before l ≡ Some e = sym (same_fault d g r.before r.sites l r.seats) ∙ k' in
    r.clean ∙ ap (λ x. or_else x (fault_behind (block_fault d g) (text_fault d) (r.before ++ l ∷ []) left)) here

-- all lines were taken

pub all_stand : (d : Netlist) (g : GridShape) (all : List TextLine) (p : LinesOf) (final : List Site) → IsLawful d → Reading d g all [] p → end_fault p ≡ None → map Some final ≡ p.sites → StandsFor d g all final
all_stand d g all p final law r none whole =
    let text : all ≡ r.files ∷ r.size ∷ r.before = r.text ∙ ap (λ x. r.files ∷ r.size ∷ x) (append-nil r.before) in
    stands d g all r.files r.size r.before r.sites final law r.seats text r.files_line r.size_line (whole ∙ ap (λ x. x.sites) r.is) (ap end_fault (sym r.is) ∙ none)

pub all_fault : (d : Netlist) (g : GridShape) (all : List TextLine) (p : LinesOf) → IsLawful d → Reading d g all [] p → first_fault d g all ≡ end_fault p
all_fault d g all p law r = r.clean ∙ sym (ap end_fault r.is ∙ same_end d g r.before r.sites law r.seats)

-- what a reader answers

pub found_stands : (d : Netlist) (g : GridShape) (all : List TextLine) (p : LinesOf) (x : Result PlacementOf PlaceFault) → IsLawful d → Reading d g all [] p → OnOk x (end_fault p ≡ None) → IfOk x (λ q. map Some q.sites ≡ p.sites) → IfOk x (λ q. StandsFor d g all q.sites)
found_stands d g all p (Ok q) law r none whole = all_stand d g all p q.sites law r none whole
found_stands d g all p (Err e) law r none whole = tt

pub found_alone : (d : Netlist) (g : GridShape) (all : List TextLine) (p : LinesOf) (sites : List Site) (x : Result PlacementOf PlaceFault) → IsLawful d → Reading d g all [] p → StandsFor d g all sites → IfOk x (λ q. StandsFor d g all q.sites) → IfErr x (λ e. FaultIs e (end_fault p))
    → MatchResult x (λ q. q.sites ≡ sites) (λ e. e ≡ fault.NoMemory)
found_alone d g all p sites (Ok q) law r one found h = one_placement d g all q.sites sites law found one
found_alone d g all p sites (Err e) law r one found h = memory_only e (end_fault p) (sym (all_fault d g all p law r) ∙ no_fault_in d g all sites law one) h

pub first_refused : (d : Netlist) (g : GridShape) (all : List TextLine) (p : LinesOf) (x : Result PlacementOf PlaceFault) → IsLawful d → Reading d g all [] p → IfErr x (λ e. FaultIs e (end_fault p)) → IfErr x (λ e. FaultIs e (first_fault d g all))
first_refused d g all p (Ok q) law r h = tt
first_refused d g all p (Err e) law r h = rw (all_fault d g all p law r) h

pub fault_is : (e : PlaceFault) (f : Option PlaceFault) → f ≡ Some e → FaultIs e f
fault_is fault.NoMemory f h = tt
fault_is fault.BadHeader f h = h
fault_is fault.WrongSize f h = h
fault_is (fault.UnknownBlock n) f h = h
fault_is (fault.Repeated n) f h = h
fault_is (fault.NoSuchSite n) f h = h
fault_is (fault.WrongKind n) f h = h
fault_is (fault.Taken n) f h = h
fault_is (fault.Missing n) f h = h
fault_is (fault.NotAPad n) f h = h
fault_is (fault.BadLine n) f h = h
fault_is fault.BadLabel f h = h
fault_is fault.Write f h = h
