-- A text that stands for a placement has no fault, and block lines without a fault make a placement.
use Rattle.std.proofs.Common.{◌≡◌, ℕ, ◌+◌, ◌<◌, Bool, true, false, not, eqb, ◌||◌, List, [], ◌∷◌, ◌++◌, Option, Some, None, length, map, get_or, zero, suc, refl, sym, ap, ◌∙◌, inl, inr, arith}
use Rattle.std.specs.Prelude.{slice_get, is_some, position}
use Rattle.std.specs.List.{list_any, AllByRecursion, position_or_len}
use Rattle.std.specs.Str.{bytes_eq}
use Rattle.std.proofs.lemmas.Bool.{cases_Bool, false≢true, eqb-true, eq-eqb}
use Rattle.std.proofs.lemmas.List.{length-map, append-nil, append_assoc, map-append, ext_get_or}
use Rattle.std.proofs.lemmas.List.Folds.{list_any-append}
use Rattle.fab_text.specs.Lines.{TextLine}
use Rattle.fab_text.specs.FirstFault.{fault_behind}
use Rattle.fab_arch.specs.declared.array.Site.{Site}
use Rattle.fab_arch.specs.declared.array.SiteKind.{SiteKind}
use Rattle.fab_arch.specs.declared.array.SiteKind.TheVariants as site_kind
use Rattle.fab_arch.specs.Grid.{GridShape}
use Rattle.fab_net.specs.Names.{number_of, AllDistinct}
use Rattle.fab_net.specs.Netlist.{Netlist, IsLawful}
use Rattle.fab_net.proofs.Naming.{name_at_number, same_name, other_way, itself, any_position, has_number}
use Rattle.fab_net.proofs.Underway.{all_push}
use Rattle.fab_net.proofs.Distinct.{by_number}
use Rattle.fab_site.specs.Placement.{same_site, site_of, nowhere, kind_wanted, IsLegal}
use Rattle.fab_site.specs.Draft.{is_missing}
use Rattle.fab_site.proofs.Tables.{same_is}
use Rattle.fab_file.specs.declared.fault.PlaceFault.{PlaceFault}
use Rattle.fab_file.specs.declared.fault.PlaceFault.TheVariants as fault
use Rattle.fab_file.specs.Place.{is_files_line, size_in, block_in, names_block, Places, StandsFor}
use Rattle.fab_file.specs.PlaceFaults.{sites_given, is_block, is_repeated, same_kind, block_fault, text_fault, missing_fault, first_fault, FaultIs}
use Rattle.fab_file.specs.Taken.{AreFitting, has_site, end_fault}
use Rattle.fab_file.proofs.Seats.{none_some, some_none, inner, or_neither, all_kept, first_word, IsSeated, Seats}

-- the first block that no line names

missing_at : (os : List (Option Site)) (b : ℕ) → is_missing (get_or os b None) ≡ not (has_site os b)
missing_at [] b = refl
missing_at (o ∷ os) zero = refl
missing_at (o ∷ os) (suc b) = missing_at os b

pub named_lines : (d : Netlist) (sites : List (Option Site)) (b : ℕ) (bs : List TextLine) → AllDistinct d.names → b < length d.names → AllByRecursion (IsSeated d sites) bs → is_repeated d bs b ≡ list_any (names_block (get_or d.names b [])) bs
named_lines d sites b [] distinct lt h = refl
named_lines d sites b (l ∷ bs) distinct lt h =
    let at = name_at_number (first_word l) d.names h.0.block h.0.named in
    let same : is_block b (block_in d l) ≡ bytes_eq (get_or d.names b []) (first_word l) = ap (is_block b) h.0.named ∙ sym (by_number d.names b h.0.block distinct lt at.0) ∙ ap (bytes_eq (get_or d.names b [])) at.1 in
    ap (λ t. t || is_repeated d bs b) same ∙ ap (λ t. bytes_eq (get_or d.names b []) (first_word l) || t) (named_lines d sites b bs distinct lt h.1)

first_alike : {X Y : Type 0} (p : X → Bool) (q : Y → Bool) (xs : List X) (ys : List Y) (x : X) (y : Y) → length xs ≡ length ys → ((i : ℕ) → i < length xs → p (get_or xs i x) ≡ q (get_or ys i y)) → position_or_len p xs ≡ position_or_len q ys
first_alike p q [] [] x y long h = refl
first_alike p q [] (v ∷ ys) x y long h = absurd (omega arith)
first_alike p q (u ∷ xs) [] x y long h = absurd (omega arith)
first_alike p q (u ∷ xs) (v ∷ ys) x y long h =
    let head : p u ≡ q v = h 0 (omega arith) in
    let rest = first_alike p q xs ys x y (omega arith) (λ i lt. h (suc i) (omega arith)) in
    elim (cases_Bool (q v)) [
      | inl t ↦ rw (head, t) refl
      | inr t ↦ rw (head, t) (ap (λ n. 1 + n) rest)
    ]

pub same_missing : (d : Netlist) (g : GridShape) (bs : List TextLine) (sites : List (Option Site)) → IsLawful d → Seats d g bs sites → position is_missing sites ≡ position (λ name. not (list_any (names_block name) bs)) d.names
same_missing d g bs sites law u =
    let unread : List ℕ → Bool = λ name. not (list_any (names_block name) bs) in
    let long : length sites ≡ length d.names = omega (arith, u.long, law.named) in
    let each = first_alike is_missing unread sites d.names None [] long (λ i lt.
    missing_at sites i ∙ ap not (u.repeats i ∙ named_lines d sites i bs law.distinct (omega (arith, lt, long)) u.seated)) in
    rw (each, long) refl

pub same_end : (d : Netlist) (g : GridShape) (bs : List TextLine) (sites : List (Option Site)) → IsLawful d → Seats d g bs sites → end_fault (record { netlist = d; grid = g; sites = sites }) ≡ text_fault d bs
same_end d g bs sites law u = ap missing_fault (same_missing d g bs sites law u)

-- block lines without a fault make a placement

got : (xs : List Site) (a : ℕ) → a < length xs → slice_get (map Some xs) a ≡ Some (Some (site_of xs a))
got [] a lt = absurd (omega arith)
got (x ∷ xs) zero lt = refl
got (x ∷ xs) (suc a) lt = got xs a (omega arith)

pub got_back : (xs : List Site) (a : ℕ) (s : Site) → slice_get (map Some xs) a ≡ Some (Some s) → s ≡ site_of xs a
got_back [] a s h = absurd (none_some (Some s) h)
got_back (x ∷ xs) zero s h = inner s x (inner (Some s) (Some x) (sym h))
got_back (x ∷ xs) (suc a) s h = got_back xs a s h

none_passes : {X : Type 0} (p : X → Bool) (xs : List X) → position p xs ≡ None → list_any p xs ≡ false
none_passes p xs h = elim (cases_Bool (list_any p xs)) [
  | inl y ↦ let e : Some (position_or_len p xs) ≡ None = rw (any_position p xs ∙ y) at h in absurd (some_none (position_or_len p xs) e)
  | inr n ↦ n
]

not_false : (b : Bool) → not b ≡ false → b ≡ true
not_false true h = refl
not_false false h = absurd (false≢true (sym h))

each_fails : {X : Type 0} (p : X → Bool) (xs : List X) → list_any (λ x. not (p x)) xs ≡ false → AllByRecursion (λ x. p x ≡ true) xs
each_fails p [] h = tt
each_fails p (x ∷ xs) h = let parts = or_neither (not (p x)) (list_any (λ x. not (p x)) xs) h in (not_false (p x) parts.0, each_fails p xs parts.1)

pub no_missing : (o : Option ℕ) → missing_fault o ≡ None → o ≡ None
no_missing None h = refl
no_missing (Some b) h = absurd (some_none _ h)

-- sites given to all blocks are a legal placement
pub legal : (d : Netlist) (g : GridShape) (final : List Site) → length (map Some final) ≡ length d.kinds → AreFitting d g (map Some final) → IsLegal d g [] final
legal d g final long u =
    record {
      all = sym (length-map final (λ (s : Site). Some s)) ∙ long;
      fit = λ b lt. u.fit b (site_of final b) (got final b lt);
      apart = λ a b la lb same. u.apart a b (site_of final a) (got final a la) (got final b lb ∙ ap (λ s. Some (Some s)) (sym same));
      stay = λ b s h. absurd (none_some s h);
    }

pub stands : (d : Netlist) (g : GridShape) (ls : List TextLine) (files size : TextLine) (bs : List TextLine) (sites : List (Option Site)) (final : List Site) → IsLawful d → Seats d g bs sites
    → ls ≡ files ∷ size ∷ bs → is_files_line files ≡ true → size_in size ≡ Some (g.nx, g.ny) → map Some final ≡ sites → end_fault (record { netlist = d; grid = g; sites = sites }) ≡ None → StandsFor d g ls final
stands d g ls files size bs sites final law u' text files_line size_line all none =
    let u : Seats d g bs (map Some final) = rw all u' in
    let end : position (λ name. not (list_any (names_block name) bs)) d.names ≡ None = sym (same_missing d g bs sites law u') ∙ no_missing (position is_missing sites) none in
    record {
      files = files;
      size = size;
      rest = bs;
      text = text;
      files_line = files_line;
      size_line = size_line;
      lines = all_kept (IsSeated d (map Some final)) (Places d final) bs (λ l s. record { block = s.block; named = s.named; stands = s.given ∙ ap (λ x. Some x) (got_back final s.block s.site s.there) }) u.seated;
      distinct = u.distinct;
      complete = each_fails (λ name. list_any (names_block name) bs) d.names (none_passes (λ name. not (list_any (names_block name) bs)) d.names end);
      legal = legal d g final u.long (record { fit = u.fits; apart = u.apart });
    }

-- a text that stands for a placement has no fault

pub before_distinct : (xs : List (List ℕ)) (y : List ℕ) (ys : List (List ℕ)) → AllDistinct (xs ++ y ∷ ys) → list_any (bytes_eq y) xs ≡ false
before_distinct [] y ys h = refl
before_distinct (x ∷ xs) y ys h =
    let parts = or_neither (list_any (bytes_eq x) xs) (bytes_eq x y || list_any (bytes_eq x) ys) (sym (list_any-append (bytes_eq x) xs (y ∷ ys)) ∙ h.0) in
    let head = or_neither (bytes_eq x y) (list_any (bytes_eq x) ys) parts.1 in
    rw (other_way x y head.0) (before_distinct xs y ys h.1)

pub not_repeated : (d : Netlist) (sites : List Site) (l : TextLine) (b : ℕ) (before : List TextLine) → block_in d l ≡ Some b → AllByRecursion (Places d sites) before → list_any (bytes_eq (first_word l)) (map first_word before) ≡ false → is_repeated d before b ≡ false
not_repeated d sites l b [] named h none = refl
not_repeated d sites l b (k ∷ before) named h none =
    let parts = or_neither (bytes_eq (first_word l) (first_word k)) (list_any (bytes_eq (first_word l)) (map first_word before)) none in
    elim (cases_Bool (eqb h.0.block b)) [
      | inl y ↦
          let one = name_at_number (first_word l) d.names b named in
          let two = name_at_number (first_word k) d.names h.0.block h.0.named in
          let same : first_word l ≡ first_word k = sym one.1 ∙ ap (λ i. get_or d.names i []) (sym (eqb-true h.0.block b y)) ∙ two.1 in
          absurd (false≢true (sym parts.0 ∙ ap (λ w. bytes_eq (first_word l) w) (sym same) ∙ itself (first_word l)))
      | inr n ↦ rw (h.0.named, n) (not_repeated d sites l b before named h.1 parts.1)
    ]

not_taken : (d : Netlist) (g : GridShape) (sites : List Site) (b : ℕ) (before : List TextLine) → IsLawful d → IsLegal d g [] sites → b < length sites → AllByRecursion (Places d sites) before → is_repeated d before b ≡ false → list_any (same_site (site_of sites b)) (sites_given before) ≡ false
not_taken d g sites b [] law legal lt h none = refl
not_taken d g sites b (k ∷ before) law legal lt h none =
    let parts = or_neither (is_block b (block_in d k)) (is_repeated d before b) none in
    let at = name_at_number (first_word k) d.names h.0.block h.0.named in
    let below : h.0.block < length sites = omega (arith, at.0, law.named, legal.all) in
    elim (cases_Bool (same_site (site_of sites b) (site_of sites h.0.block))) [
      | inl y ↦
          let same : b ≡ h.0.block = legal.apart b h.0.block lt below (same_is (site_of sites b) (site_of sites h.0.block) y) in
          absurd (false≢true (sym parts.0 ∙ ap (is_block b) h.0.named ∙ eq-eqb h.0.block b (sym same)))
      | inr n ↦ rw (h.0.stands, n) (not_taken d g sites b before law legal lt h.1 parts.1)
    ]

kind_is : (a b : SiteKind) → a ≡ b → same_kind a b ≡ true
kind_is site_kind.Logic b h = rw (sym h) refl
kind_is site_kind.Pad b h = rw (sym h) refl

pub no_block_fault : (d : Netlist) (g : GridShape) (sites : List Site) (before : List TextLine) (l : TextLine) (after : List TextLine) → IsLawful d → IsLegal d g [] sites → AllByRecursion (Places d sites) before → Places d sites l → AllDistinct (map first_word (before ++ l ∷ after)) → block_fault d g before l ≡ None
no_block_fault d g sites before l after law legal h p distinct =
    let at = name_at_number (first_word l) d.names p.block p.named in
    let below : p.block < length sites = omega (arith, at.0, law.named, legal.all) in
    let words : AllDistinct (map first_word before ++ first_word l ∷ map first_word after) = rw (← map-append first_word before (l ∷ after)) distinct in
    let once = not_repeated d sites l p.block before p.named h (before_distinct (map first_word before) (first_word l) (map first_word after) words) in
    let free = not_taken d g sites p.block before law legal below h once in
    let fit = legal.fit p.block below in
    rw (p.stands, p.named, once, fit, kind_is (kind_wanted d p.block) (kind_wanted d p.block) refl, free) refl

all_pass : {X : Type 0} (p : X → Bool) (xs : List X) → AllByRecursion (λ x. p x ≡ true) xs → list_any (λ x. not (p x)) xs ≡ false
all_pass p [] h = refl
all_pass p (x ∷ xs) h = rw (h.0) (all_pass p xs h.1)

no_position : {X : Type 0} (p : X → Bool) (xs : List X) → list_any p xs ≡ false → position p xs ≡ None
no_position p xs h = rw (any_position p xs ∙ h) refl

no_fault_behind : (d : Netlist) (g : GridShape) (sites : List Site) (before after : List TextLine) → IsLawful d → IsLegal d g [] sites → AllByRecursion (Places d sites) before → AllByRecursion (Places d sites) after → AllDistinct (map first_word (before ++ after))
    → AllByRecursion (λ name. list_any (names_block name) (before ++ after) ≡ true) d.names → fault_behind (block_fault d g) (text_fault d) before after ≡ None
no_fault_behind d g sites before [] law legal h k distinct complete' =
    let whole : before ++ [] ≡ before = append-nil before in
    let complete : AllByRecursion (λ name. list_any (names_block name) before ≡ true) d.names = rw (← whole) complete' in
    ap missing_fault (no_position (λ name. not (list_any (names_block name) before)) d.names (all_pass (λ name. list_any (names_block name) before) d.names complete))
no_fault_behind d g sites before (l ∷ after) law legal h k distinct complete =
    let none = no_block_fault d g sites before l after law legal h k.0 distinct in
    let same : (before ++ l ∷ []) ++ after ≡ before ++ l ∷ after = append_assoc before (l ∷ []) after in
    rw none (no_fault_behind d g sites (before ++ l ∷ []) after law legal (all_push (Places d sites) before l h k.0) k.1 (rw same distinct) (rw same complete))

itself_is : (n : ℕ) → eqb n n ≡ true
itself_is n = eq-eqb n n refl

pub no_fault_in : (d : Netlist) (g : GridShape) (ls : List TextLine) (sites : List Site) → IsLawful d → StandsFor d g ls sites → first_fault d g ls ≡ None
no_fault_in d g ls sites law t =
    let rest = no_fault_behind d g sites [] t.rest law t.legal tt t.lines t.distinct t.complete in
    rw (t.text, t.files_line, t.size_line, itself_is g.nx, itself_is g.ny) rest

-- a text stands for one placement at most

pub any_at : (names : List (List ℕ)) (b : ℕ) → b < length names → list_any (bytes_eq (get_or names b [])) names ≡ true
any_at [] b lt = absurd (omega arith)
any_at (n ∷ ns) zero lt = rw (itself n) refl
any_at (n ∷ ns) (suc b) lt = rw (any_at ns b (omega arith)) (or_true (bytes_eq (get_or ns b []) n))
  where
    or_true : (b : Bool) → (b || true) ≡ true
    or_true true = refl
    or_true false = refl

pub number_at : (names : List (List ℕ)) (b : ℕ) → AllDistinct names → b < length names → number_of (get_or names b []) names ≡ Some b
number_at names b distinct lt = by_option (number_of (get_or names b []) names) refl (has_number (get_or names b []) names ∙ any_at names b lt)
  where
    by_option : (o : Option ℕ) → number_of (get_or names b []) names ≡ o → is_some (number_of (get_or names b []) names) ≡ true → number_of (get_or names b []) names ≡ Some b
    by_option None e k = absurd (false≢true (sym (ap is_some e) ∙ k))
    by_option (Some c) e k =
        let at = name_at_number (get_or names b []) names c e in
        let same : eqb c b ≡ true = sym (by_number names b c distinct lt at.0) ∙ ap (bytes_eq (get_or names b [])) at.1 ∙ itself (get_or names b []) in
        e ∙ ap (λ x. Some x) (eqb-true c b same)

pub agree : (d : Netlist) (one two : List Site) (name : List ℕ) (b : ℕ) (ls : List TextLine) → number_of name d.names ≡ Some b → AllByRecursion (Places d one) ls → AllByRecursion (Places d two) ls → list_any (names_block name) ls ≡ true → site_of one b ≡ site_of two b
agree d one two name b [] named h k some = absurd (false≢true some)
agree d one two name b (l ∷ ls) named h k some = elim (cases_Bool (names_block name l)) [
  | inl y ↦
      let here : block_in d l ≡ Some b = ap (λ w. number_of w d.names) (sym (same_name name (first_word l) y)) ∙ named in
      let first : h.0.block ≡ b = inner h.0.block b (sym h.0.named ∙ here) in
      let second : k.0.block ≡ b = inner k.0.block b (sym k.0.named ∙ here) in
      ap (site_of one) (sym first) ∙ inner (site_of one h.0.block) (site_of two k.0.block) (sym h.0.stands ∙ k.0.stands) ∙ ap (site_of two) second
  | inr n ↦ let rest : list_any (names_block name) ls ≡ true = rw n at some in agree d one two name b ls named h.1 k.1 rest
]

pub all_at : {X : Type 0} (P : X → Type 0) (xs : List X) (i : ℕ) (d : X) → i < length xs → AllByRecursion P xs → P (get_or xs i d)
all_at P [] i d lt h = absurd (omega arith)
all_at P (x ∷ xs) zero d lt h = h.0
all_at P (x ∷ xs) (suc i) d lt h = all_at P xs i d (omega arith) h.1

tails : (a b c d : TextLine) (xs ys : List TextLine) → a ∷ b ∷ xs ≡ c ∷ d ∷ ys → xs ≡ ys
tails a b c d xs ys h = cc

pub one_placement : (d : Netlist) (g : GridShape) (ls : List TextLine) (one two : List Site) → IsLawful d → StandsFor d g ls one → StandsFor d g ls two → one ≡ two
one_placement d g ls one two law t u =
    let same : u.rest ≡ t.rest = tails u.files u.size t.files t.size u.rest t.rest (sym u.text ∙ t.text) in
    let lines : AllByRecursion (Places d two) t.rest = rw (← same) u.lines in
    ext_get_or nowhere one two (t.legal.all ∙ sym u.legal.all) (λ b lt.
    let below : b < length d.names = omega (arith, lt, t.legal.all, law.named) in
    agree d one two (get_or d.names b []) b t.rest (number_at d.names b law.distinct below) t.lines lines (all_at (λ name. list_any (names_block name) t.rest ≡ true) d.names b [] below t.complete))

-- if a text has no fault, the only error is out of memory
pub memory_only : (e : PlaceFault) (f : Option PlaceFault) → f ≡ None → FaultIs e f → e ≡ fault.NoMemory
memory_only fault.NoMemory f none h = refl
memory_only fault.BadHeader f none h = absurd (none_some _ (sym none ∙ h))
memory_only fault.WrongSize f none h = absurd (none_some _ (sym none ∙ h))
memory_only (fault.UnknownBlock n) f none h = absurd (none_some _ (sym none ∙ h))
memory_only (fault.Repeated n) f none h = absurd (none_some _ (sym none ∙ h))
memory_only (fault.NoSuchSite n) f none h = absurd (none_some _ (sym none ∙ h))
memory_only (fault.WrongKind n) f none h = absurd (none_some _ (sym none ∙ h))
memory_only (fault.Taken n) f none h = absurd (none_some _ (sym none ∙ h))
memory_only (fault.Missing n) f none h = absurd (none_some _ (sym none ∙ h))
memory_only (fault.NotAPad n) f none h = absurd (none_some _ (sym none ∙ h))
memory_only (fault.BadLine n) f none h = absurd (none_some _ (sym none ∙ h))
memory_only fault.BadLabel f none h = absurd (none_some _ (sym none ∙ h))
memory_only fault.Write f none h = absurd (none_some _ (sym none ∙ h))
