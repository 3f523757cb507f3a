-- The lines of fixed blocks and of places, taken one after the other.
use Rattle.std.proofs.Common.{◌≡◌, ℕ, ◌+◌, ◌<◌, ◌≤◌, Bool, true, false, not, eqb, ltb, ◌||◌, List, [], ◌∷◌, ◌++◌, Option, Some, None, length, get_or, map, set, replicate, take, zero, suc, refl, sym, ap, ◌∙◌, subst, arith, inl, inr, ◌⊎◌}
use Rattle.std.specs.Prelude.{slice_get, is_some, option_map}
use Rattle.std.specs.Prelude.{position}
use Rattle.std.specs.List.{AllByRecursion, list_all, list_any, position_or_len}
use Rattle.std.proofs.lemmas.Bool.{cases_Bool, cases_eq, false≢true, eqb-true, eq-eqb}
use Rattle.std.proofs.lemmas.Bool.Decides.{nat_tests}
use Rattle.std.proofs.lemmas.List.{length-set, length-replicate}
use Rattle.fab_text.specs.Lines.{TextLine}
use Rattle.fab_text.specs.FirstFault.{or_else, unless, fault_of_all}
use Rattle.fab_arch.specs.declared.array.Site.{Site}
use Rattle.fab_arch.specs.declared.array.SiteKind.{SiteKind}
use Rattle.fab_arch.specs.Grid.{GridShape, kind_at}
use Rattle.fab_net.specs.Netlist.{Netlist, IsLawful, is_logic_at}
use Rattle.fab_site.specs.Draft.{holder_of, is_missing}
use Rattle.fab_site.specs.Placement.{PlacementOf, kind_wanted}
use Rattle.fab_file.specs.declared.fault.PlaceFault.{PlaceFault}
use Rattle.fab_file.specs.declared.fault.PlaceFault.TheVariants.{NotAPad, Repeated}
use Rattle.fab_file.specs.declared.fault.PlaceFault.TheVariants as fault
use Rattle.fab_file.specs.Place.{block_in, names_block, Places, site_in}
use Rattle.fab_file.specs.PlaceFaults.{is_block, is_repeated, kind_fault, missing_fault, same_kind}
use Rattle.fab_file.specs.Taken.{LinesOf, end_fault, has_site, no_lines, take_fault, take_fault_by, with_line}
use Rattle.fab_net.proofs.Pushing.{any_push}
use Rattle.fab_file.proofs.Seats.{IsSeated, Seats, all_kept, no_seats, not_there, on, same_fault, takable, named_below}
use Rattle.fab_file.proofs.Underway.{with_line_is}
use Rattle.fab_file.proofs.Legal.{got_back, legal, named_lines}
use Rattle.fab_file.proofs.Back.{all_by_place}
use Rattle.fab_run.specs.declared.point_fault.PointFault.{PointFault}
use Rattle.fab_run.specs.declared.point_fault.PointFault.TheVariants.{Block}
use Rattle.fab_run.specs.declared.point_fault.PointFault.TheVariants as point_fault
use Rattle.fab_run.specs.declared.point_words.Version.{Version}
use Rattle.fab_run.specs.declared.point_words.Version.TheVariants.{One, Two}
use Rattle.fab_run.specs.PointFields.{is_fixed_line}
use Rattle.fab_run.specs.PointFaultTexts.{of_line_fault}
use Rattle.fab_run.specs.PointFaults.{ListFault, fixed_fault, name_fault, seat_fault}
use Rattle.fab_run.specs.PointReading.{AreSeated}
use Rattle.fab_run.proofs.PointParts.{AreTaken, Taking, end_by, taking_all, taking_none, taking_one}

-- some names of fixed blocks were taken
pub record Naming (v : Version) (d : Netlist) (many : ℕ) (all left : List TextLine) (named : List Bool) (i : ℕ) : Type 0 where
  pub before : List TextLine
  pub taking : Taking (fixed_fault v d) many all before left i
  pub long : length named ≡ length d.kinds
  pub named_are : (b : ℕ) → get_or named b false ≡ is_repeated d before b

pub none_named : (n b : ℕ) → get_or (replicate n false) b false ≡ false
none_named zero b = refl
none_named (suc n) zero = refl
none_named (suc n) (suc b) = none_named n b

pub naming_none : (v : Version) (d : Netlist) (many : ℕ) (all : List TextLine) → Naming v d many all all (replicate (length d.kinds) false) 0
naming_none v d many all =
    record {
      before = [];
      taking = taking_none (fixed_fault v d) many all;
      long = length-replicate (length d.kinds) false;
      named_are = λ b. none_named (length d.kinds) b;
    }

set_own : (xs : List Bool) (b : ℕ) → b < length xs → get_or (set xs b true) b false ≡ true
set_own [] b lt = absurd (omega (arith, lt))
set_own (x ∷ xs) zero lt = refl
set_own (x ∷ xs) (suc b) lt = set_own xs b (omega (arith, lt))

set_other : (xs : List Bool) (b a : ℕ) → (b ≡ a → ⊥) → get_or (set xs b true) a false ≡ get_or xs a false
set_other [] b a h = refl
set_other (x ∷ xs) zero zero h = absurd (h refl)
set_other (x ∷ xs) zero (suc a) h = refl
set_other (x ∷ xs) (suc b) zero h = refl
set_other (x ∷ xs) (suc b) (suc a) h = set_other xs b a (λ e. h (ap suc e))

or_true : (b : Bool) → (b || true) ≡ true
or_true true = refl
or_true false = refl

or_false : (b : Bool) → (b || false) ≡ b
or_false true = refl
or_false false = refl

pub named_on : (d : Netlist) (before : List TextLine) (l : TextLine) (named : List Bool) (b : ℕ) → block_in d l ≡ Some b → b < length named → ((a : ℕ) → get_or named a false ≡ is_repeated d before a) → (a : ℕ) → get_or (set named b true) a false ≡ is_repeated d (before ++ l ∷ []) a
named_on d before l named b is lt h a =
    let whole : is_repeated d (before ++ l ∷ []) a ≡ (is_repeated d before a || eqb b a) = any_push (λ l. is_block a (block_in d l)) before l ∙ ap (λ q. is_repeated d before a || is_block a q) is in
    elim (cases_eq b a) [
      | inl e ↦
          let mine : get_or (set named b true) a false ≡ true = ap (λ i. get_or (set named b true) i false) (sym e) ∙ set_own named b lt in
          mine ∙ sym (whole ∙ ap (λ t. is_repeated d before a || t) (eq-eqb b a e) ∙ or_true (is_repeated d before a))
      | inr other ↦
          let differs : eqb b a ≡ false = elim (cases_Bool (eqb b a)) [ inl y ↦ absurd (other (eqb-true b a y)) | inr n ↦ n ] in
          set_other named b a other ∙ h a ∙ sym (whole ∙ ap (λ t. is_repeated d before a || t) differs ∙ or_false (is_repeated d before a))
    ]

-- the fault of a line is told by the names before it
fault_by : (v : Version) (d : Netlist) (p q : ℕ → Bool) (n : ℕ) (form : Bool) (o : Option ℕ) → ((b : ℕ) → p b ≡ q b) → name_fault v d p n form o ≡ name_fault v d q n form o
fault_by v d p q n false o h = refl
fault_by v d p q n true None h = refl
fault_by One d p q n true (Some b) h = ap (λ r. or_else (unless (not r) (Repeated n)) (unless (not (is_logic_at d b)) (NotAPad n))) (h b)
fault_by Two d p q n true (Some b) h = ap (λ r. unless (not r) (Repeated n)) (h b)

abbrev pub marked : List Bool → ℕ → Bool
marked named b = get_or named b false

pub fixed_fault_by : (v : Version) (d : Netlist) (before : List TextLine) (l : TextLine) (named : List Bool) → ((b : ℕ) → get_or named b false ≡ is_repeated d before b)
    → fixed_fault v d before l ≡ option_map (λ (e : PlaceFault). Block e) (name_fault v d (marked named) l.number (is_fixed_line l) (block_in d l))
fixed_fault_by v d before l named h = ap (option_map (λ (e : PlaceFault). Block e)) (sym (fault_by v d (marked named) (is_repeated d before) l.number (is_fixed_line l) (block_in d l) h))

pub naming_one : (v : Version) (d : Netlist) (many : ℕ) (all : List TextLine) (l : TextLine) (left : List TextLine) (named : List Bool) (b i : ℕ) → Naming v d many all (l ∷ left) named i → i < many → block_in d l ≡ Some b → b < length named
    → name_fault v d (marked named) l.number (is_fixed_line l) (block_in d l) ≡ None → Naming v d many all left (set named b true) (i + 1)
naming_one v d many all l left named b i r lt is within none =
    let clear : fixed_fault v d r.before l ≡ None = fixed_fault_by v d r.before l named r.named_are ∙ ap (option_map (λ (e : PlaceFault). Block e)) none in
    record {
      before = r.before ++ l ∷ [];
      taking = taking_one (fixed_fault v d) many all r.before l left i r.taking lt clear;
      long = length-set named b true ∙ r.long;
      named_are = named_on d r.before l named b is within r.named_are;
    }

pub naming_fails : (v : Version) (d : Netlist) (many : ℕ) (all : List TextLine) (l : TextLine) (left : List TextLine) (named : List Bool) (i : ℕ) (e : PlaceFault) (r : Naming v d many all (l ∷ left) named i) → name_fault v d (marked named) l.number (is_fixed_line l) (block_in d l) ≡ Some e
    → fixed_fault v d r.before l ≡ Some (Block e)
naming_fails v d many all l left named i e r h = fixed_fault_by v d r.before l named r.named_are ∙ ap (option_map (λ (e : PlaceFault). Block e)) h

-- how many blocks have a site
abbrev pub placed_in : List (Option Site) → ℕ
placed_in [] = 0
placed_in (None ∷ os) = placed_in os
placed_in (Some s ∷ os) = suc (placed_in os)

-- some places of blocks were taken
pub record Seating (d : Netlist) (g : GridShape) (all left : List TextLine) (p : LinesOf) (i : ℕ) : Type 0 where
  pub before : List TextLine
  pub taking : Taking (seat_fault d g) (length d.kinds) all before left i
  pub sites : List (Option Site)
  pub is : p ≡ record { netlist = d; grid = g; sites = sites }
  pub seats : Seats d g before sites
  pub counted : placed_in sites ≡ i

abbrev no_site : Option Site
no_site = None

none_counted : (n : ℕ) → placed_in (replicate n no_site) ≡ 0
none_counted zero = refl
none_counted (suc n) = none_counted n

pub seating_none : (d : Netlist) (g : GridShape) (all : List TextLine) (p : LinesOf) → p ≡ no_lines d g → Seating d g all all p 0
seating_none d g all p e =
    record {
      before = [];
      taking = taking_none (seat_fault d g) (length d.kinds) all;
      sites = replicate (length d.kinds) None;
      is = e;
      seats = no_seats d g;
      counted = none_counted (length d.kinds);
    }

count_set : (os : List (Option Site)) (b : ℕ) (s : Site) → slice_get os b ≡ Some None → placed_in (set os b (Some s)) ≡ placed_in os + 1
count_set [] b s h = absurd (let none : None ≡ Some None = h in cc)
count_set (None ∷ os) zero s h = omega arith
count_set (Some t ∷ os) zero s h = absurd (let some : Some (Some t) ≡ Some None = h in cc)
count_set (None ∷ os) (suc b) s h = count_set os b s h
count_set (Some t ∷ os) (suc b) s h = ap suc (count_set os b s h) ∙ omega arith

pub seating_one : (d : Netlist) (g : GridShape) (all : List TextLine) (l : TextLine) (left : List TextLine) (p q : LinesOf) (i : ℕ) → IsLawful d → Seating d g all (l ∷ left) p i → i < length d.kinds → take_fault p l ≡ None → q ≡ with_line p l → Seating d g all left q (i + 1)
seating_one d g all l left p q i law r lt none e =
    let none' : take_fault (record { netlist = d; grid = g; sites = r.sites }) l ≡ None = ap (λ x. take_fault x l) (sym r.is) ∙ none in
    let t = takable d g r.sites l none' in
    let clear : seat_fault d g r.before l ≡ None = ap (option_map (λ (e : PlaceFault). Block e)) (sym (same_fault d g r.before r.sites l r.seats) ∙ none') in
    let below = named_below d l t.block law t.named in
    let missing = not_there r.sites t.block (omega (arith, below, r.seats.long)) t.new in
    record {
      before = r.before ++ l ∷ [];
      taking = taking_one (seat_fault d g) (length d.kinds) all r.before l left i r.taking lt clear;
      sites = set r.sites t.block (Some t.site);
      is = e ∙ ap (λ x. with_line x l) r.is ∙ with_line_is d g r.sites l t.block t.site t.named t.given;
      seats = on d g r.before l r.sites law r.seats t;
      counted = count_set r.sites t.block t.site missing ∙ ap (λ n. n + 1) r.counted;
    }

pub seating_fails : (d : Netlist) (g : GridShape) (all : List TextLine) (l : TextLine) (left : List TextLine) (p : LinesOf) (i : ℕ) (e : PlaceFault) (r : Seating d g all (l ∷ left) p i) → take_fault p l ≡ Some e → seat_fault d g r.before l ≡ Some (Block e)
seating_fails d g all l left p i e r h =
    let here : take_fault (record { netlist = d; grid = g; sites = r.sites }) l ≡ Some e = ap (λ x. take_fault x l) (sym r.is) ∙ h in
    ap (option_map (λ (e : PlaceFault). Block e)) (sym (same_fault d g r.before r.sites l r.seats) ∙ here)

-- a possible fault of a line is not a lack of memory
abbrev IsOfText : Option PlaceFault → Type 0
IsOfText (Some fault.NoMemory) = ⊥
IsOfText f = Unit {0}

of_text_or : (f g : Option PlaceFault) → IsOfText f → IsOfText g → IsOfText (or_else f g)
of_text_or None g h k = k
of_text_or (Some e) g h k = h

of_text_unless : (passed : Bool) (e : PlaceFault) → IsOfText (Some e) → IsOfText (unless passed e)
of_text_unless true e h = tt
of_text_unless false e h = h

name_of_text : (v : Version) (d : Netlist) (is_fixed : ℕ → Bool) (n : ℕ) (form : Bool) (named : Option ℕ) → IsOfText (name_fault v d is_fixed n form named)
name_of_text v d p n false named = tt
name_of_text v d p n true None = tt
name_of_text One d p n true (Some b) = of_text_or (unless (not (p b)) (Repeated n)) (unless (not (is_logic_at d b)) (NotAPad n)) (of_text_unless (not (p b)) (Repeated n) tt) (of_text_unless (not (is_logic_at d b)) (NotAPad n) tt)
name_of_text Two d p n true (Some b) = of_text_unless (not (p b)) (Repeated n) tt

kind_of_text : (d : Netlist) (n block : ℕ) (kind : Option SiteKind) → IsOfText (kind_fault d n block kind)
kind_of_text d n block None = tt
kind_of_text d n block (Some kind) = of_text_unless (same_kind kind (kind_wanted d block)) (fault.WrongKind n) tt

seat_of_text : (p : LinesOf) (n : ℕ) (site : Option Site) (named : Option ℕ) → IsOfText (take_fault_by p n site named)
seat_of_text p n None named = tt
seat_of_text p n (Some site) None = tt
seat_of_text p n (Some site) (Some b) =
    of_text_or (unless (not (has_site p.sites b)) (Repeated n)) (or_else (kind_fault p.netlist n b (kind_at p.grid site)) (unless (not (is_some (holder_of p.sites site))) (fault.Taken n)))
    (of_text_unless (not (has_site p.sites b)) (Repeated n) tt)
    (of_text_or (kind_fault p.netlist n b (kind_at p.grid site)) (unless (not (is_some (holder_of p.sites site))) (fault.Taken n)) (kind_of_text p.netlist n b (kind_at p.grid site)) (of_text_unless (not (is_some (holder_of p.sites site))) (fault.Taken n) tt))

told_apart : (e : PlaceFault) → IsOfText (Some e) → of_line_fault e ≡ point_fault.NoMemory → ⊥
told_apart fault.NoMemory h k = h
told_apart fault.BadHeader h k = cc
told_apart fault.WrongSize h k = cc
told_apart (fault.UnknownBlock n) h k = cc
told_apart (fault.Repeated n) h k = cc
told_apart (fault.NoSuchSite n) h k = cc
told_apart (fault.WrongKind n) h k = cc
told_apart (fault.Taken n) h k = cc
told_apart (fault.Missing n) h k = cc
told_apart (fault.NotAPad n) h k = cc
told_apart (fault.BadLine n) h k = cc
told_apart fault.BadLabel h k = cc
told_apart fault.Write h k = cc

-- the fault of the name of a fixed block is told as no lack of memory
pub name_never_memory : (v : Version) (d : Netlist) (p : ℕ → Bool) (n : ℕ) (form : Bool) (named : Option ℕ) (e : PlaceFault) → name_fault v d p n form named ≡ Some e → of_line_fault e ≡ point_fault.NoMemory → ⊥
name_never_memory v d p n form named e h = told_apart e (subst IsOfText h (name_of_text v d p n form named))

-- nor is the fault of a block's place
pub seat_never_memory : (p : LinesOf) (l : TextLine) (e : PlaceFault) → take_fault p l ≡ Some e → of_line_fault e ≡ point_fault.NoMemory → ⊥
seat_never_memory p l e h = told_apart e (subst IsOfText h (seat_of_text p l.number (site_in l) (block_in p.netlist l)))

-- where as many have a site as there are, each has one
at_most_all : (os : List (Option Site)) → placed_in os ≤ length os
at_most_all [] = omega arith
at_most_all (None ∷ os) = omega (arith, at_most_all os)
at_most_all (Some s ∷ os) = omega (arith, at_most_all os)

pub all_have : (os : List (Option Site)) → placed_in os ≡ length os → list_all is_some os ≡ true
all_have [] h = refl
all_have (None ∷ os) h = absurd (omega (arith, at_most_all os, h))
all_have (Some s ∷ os) h = all_have os (omega (arith, h))

-- the fault of a line, as it is answered
pub list_refused : (of_line : List TextLine → TextLine → Option PointFault) (n : ℕ) (ls : List TextLine) (e : PlaceFault) → fault_of_all of_line (end_by n) (take n ls) ≡ Some (Block e)
    → (of_line_fault e ≡ point_fault.NoMemory) ⊎ ListFault (of_line_fault e) of_line n (λ behind. ⊥) ls
list_refused of_line n ls fault.NoMemory h = inl refl
list_refused of_line n ls fault.BadHeader h = inr (inl h)
list_refused of_line n ls fault.WrongSize h = inr (inl h)
list_refused of_line n ls (fault.UnknownBlock k) h = inr (inl h)
list_refused of_line n ls (fault.Repeated k) h = inr (inl h)
list_refused of_line n ls (fault.NoSuchSite k) h = inr (inl h)
list_refused of_line n ls (fault.WrongKind k) h = inr (inl h)
list_refused of_line n ls (fault.Taken k) h = inr (inl h)
list_refused of_line n ls (fault.Missing k) h = inr (inl h)
list_refused of_line n ls (fault.NotAPad k) h = inr (inl h)
list_refused of_line n ls (fault.BadLine k) h = inr (inl h)
list_refused of_line n ls fault.BadLabel h = inr (inl h)
list_refused of_line n ls fault.Write h = inr (inl h)

not_below_itself : (n : ℕ) → ltb n n ≡ false
not_below_itself n = grind (arith, nat_tests)

none_lacks_from : (os : List (Option Site)) → list_all is_some os ≡ true → position_or_len is_missing os ≡ length os
none_lacks_from [] h = refl
none_lacks_from (None ∷ os) h = absurd (false≢true h)
none_lacks_from (Some s ∷ os) h = ap (λ n. 1 + n) (none_lacks_from os h) ∙ omega arith

none_lacks : (os : List (Option Site)) → list_all is_some os ≡ true → position is_missing os ≡ None
none_lacks os h = rw (none_lacks_from os h, not_below_itself (length os)) refl

has_at : (os : List (Option Site)) (b : ℕ) → b < length os → list_all is_some os ≡ true → has_site os b ≡ true
has_at [] b lt h = absurd (omega (arith, lt))
has_at (None ∷ os) b lt h = absurd (false≢true h)
has_at (Some s ∷ os) zero lt h = refl
has_at (Some s ∷ os) (suc b) lt h = has_at os b (omega (arith, lt)) h

each_named : (d : Netlist) (g : GridShape) (bs : List TextLine) (sites : List (Option Site)) → IsLawful d → Seats d g bs sites → list_all is_some sites ≡ true → AllByRecursion (λ name. list_any (names_block name) bs ≡ true) d.names
each_named d g bs sites law u whole = all_by_place (λ name. list_any (names_block name) bs ≡ true) d.names (λ b lt.
    sym (named_lines d sites b bs law.distinct lt u.seated) ∙ sym (u.repeats b) ∙ has_at sites b (omega (arith, lt, law.named, u.long)) whole)

-- what block lines that were all taken say
pub record AreAll (d : Netlist) (g : GridShape) (all left : List TextLine) (p : LinesOf) : Type 0 where
  pub before : List TextLine
  pub taken : AreTaken (seat_fault d g) (length d.kinds) all before left
  pub sites : List (Option Site)
  pub is : p ≡ record { netlist = d; grid = g; sites = sites }
  pub seats : Seats d g before sites
  pub whole : list_all is_some sites ≡ true
  pub end : end_fault p ≡ None

pub seating_all : (d : Netlist) (g : GridShape) (all left : List TextLine) (p : LinesOf) (i : ℕ) → i ≡ length d.kinds → Seating d g all left p i → AreAll d g all left p
seating_all d g all left p i e r =
    let whole : list_all is_some r.sites ≡ true = all_have r.sites (r.counted ∙ e ∙ sym r.seats.long) in
    let t : Taking (seat_fault d g) (length d.kinds) all r.before left (length d.kinds) = subst (Taking (seat_fault d g) (length d.kinds) all r.before left) e r.taking in
    record {
      before = r.before;
      taken = taking_all (seat_fault d g) (length d.kinds) all r.before left t;
      sites = r.sites;
      is = r.is;
      seats = r.seats;
      whole = whole;
      end = ap end_fault r.is ∙ ap missing_fault (none_lacks r.sites whole);
    }

pub seated_all : (d : Netlist) (g : GridShape) (all left : List TextLine) (p : LinesOf) (placement : PlacementOf) → IsLawful d → AreAll d g all left p → map Some placement.sites ≡ p.sites → placement.grid ≡ p.grid → AreSeated d g all placement left
seated_all d g all left p placement law r given array =
    let sites : map Some placement.sites ≡ r.sites = given ∙ ap (λ x. x.sites) r.is in
    let u : Seats d g r.before (map Some placement.sites) = rw sites r.seats in
    let whole : list_all is_some (map Some placement.sites) ≡ true = ap (list_all is_some) sites ∙ r.whole in
    record {
      clean = r.taken.clean;
      rest = r.taken.rest;
      array = array ∙ ap (λ x. x.grid) r.is;
      each = rw (r.taken.lines) (all_kept (IsSeated d (map Some placement.sites)) (Places d placement.sites) r.before (λ l s. record { block = s.block; named = s.named; stands = s.given ∙ ap (λ x. Some x) (got_back placement.sites s.block s.site s.there) }) u.seated);
      distinct = rw (r.taken.lines) u.distinct;
      complete = rw (r.taken.lines) (each_named d g r.before (map Some placement.sites) law u whole);
      legal = legal d g placement.sites u.long (record { fit = u.fits; apart = u.apart });
    }
