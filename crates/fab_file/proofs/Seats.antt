-- The sites that block lines have given, one line on.
use Rattle.std.proofs.Common.{◌≡◌, ◌≢◌, ℕ, ◌+◌, ◌<◌, Bool, true, false, not, eqb, ◌||◌, List, [], ◌∷◌, ◌++◌, Option, Some, None, length, map, set, replicate, zero, suc, refl, sym, ap, ◌∙◌, inl, inr, arith}
use Rattle.std.specs.Prelude.{slice_get, slice_index_or, is_some}
use Rattle.std.specs.List.{list_any, AllByRecursion}
use Rattle.std.specs.Str.{bytes_eq}
use Rattle.std.proofs.lemmas.Bool.{cases_Bool, cases_eq, false≢true, eqb-true, eq-eqb}
use Rattle.std.proofs.lemmas.List.{length-set, length-replicate, map_push}
use Rattle.std.proofs.lemmas.List.Elements.{filter_map-append}
use Rattle.fab_text.specs.Lines.{TextLine}
use Rattle.fab_text.specs.FirstFault.{or_else, unless}
use Rattle.fab_arch.specs.declared.array.Site.{Site}
use Rattle.fab_arch.specs.declared.array.SiteKind.{SiteKind}
use Rattle.fab_arch.specs.declared.array.SiteKind.TheVariants as site_kind
use Rattle.fab_arch.specs.Grid.{GridShape, kind_at}
use Rattle.fab_net.specs.declared.netlist_types.BlockId.{BlockId}
use Rattle.fab_net.specs.declared.netlist_types.BlockKind.{BlockKind}
use Rattle.fab_net.specs.declared.netlist_types.BlockKind.TheVariants.{Logic}
use Rattle.fab_net.specs.Names.{number_of, AllDistinct}
use Rattle.fab_net.specs.Netlist.{Netlist, IsLawful}
use Rattle.fab_net.proofs.Naming.{name_at_number, same_name}
use Rattle.fab_net.proofs.Pushing.{any_push}
use Rattle.fab_net.proofs.Underway.{all_push, distinct_push}
use Rattle.fab_site.specs.Placement.{same_site, kind_wanted, flat}
use Rattle.fab_site.specs.Draft.{is_site, holder_from, holder_of, NoneShared}
use Rattle.fab_site.proofs.Drafting.{get_set_same, get_set_other, apart_put}
use Rattle.fab_file.specs.declared.fault.PlaceFault.{PlaceFault}
use Rattle.fab_file.specs.Place.{word_at, site_in, block_in}
use Rattle.fab_file.specs.PlaceFaults.{sites_given, is_block, is_repeated, same_kind, kind_fault, block_fault, block_fault_by}
use Rattle.fab_file.specs.Taken.{AreFitting, wanted, has_site, take_fault, take_fault_by}

pub none_some : {X : Type 0} (y : X) → None ≡ Some y → ⊥
none_some y h = cc

pub some_none : {X : Type 0} (y : X) → Some y ≡ None → ⊥
some_none y h = cc

pub inner : {X : Type 0} (x y : X) → Some x ≡ Some y → x ≡ y
inner x y h = cc

or_true : (b : Bool) → (b || true) ≡ true
or_true true = refl
or_true false = refl

or_false : (b : Bool) → (b || false) ≡ b
or_false true = refl
or_false false = refl

pub or_neither : (a b : Bool) → (a || b) ≡ false → (a ≡ false) × (b ≡ false)
or_neither true b h = absurd (false≢true (sym h))
or_neither false b h = (refl, h)

pub all_kept : {X : Type 0} (P Q : X → Type 0) (xs : List X) → ((x : X) → P x → Q x) → AllByRecursion P xs → AllByRecursion Q xs
all_kept P Q [] f h = tt
all_kept P Q (x ∷ xs) f h = (f x h.0, all_kept P Q xs f h.1)

-- the first word of a line
abbrev pub first_word : TextLine → List ℕ
first_word l = word_at l 0

-- the line names a block that has the site which the line gives
pub record IsSeated (d : Netlist) (sites : List (Option Site)) (l : TextLine) : Type 0 where
  pub block : ℕ
  pub site : Site
  pub named : block_in d l ≡ Some block
  pub given : site_in l ≡ Some site
  pub there : slice_get sites block ≡ Some (Some site)

-- of each block its site, where block lines gave one, and no line has a fault
pub record Seats (d : Netlist) (g : GridShape) (bs : List TextLine) (sites : List (Option Site)) : Type 0 where
  pub long : length sites ≡ length d.kinds
  pub repeats : (b : ℕ) → has_site sites b ≡ is_repeated d bs b
  pub holders : (x : Site) → is_some (holder_of sites x) ≡ list_any (same_site x) (sites_given bs)
  pub seated : AllByRecursion (IsSeated d sites) bs
  pub distinct : AllDistinct (map first_word bs)
  pub fits : (b : ℕ) (s : Site) → slice_get sites b ≡ Some (Some s) → kind_at g s ≡ Some (kind_wanted d b)
  pub apart : NoneShared sites

-- no line yet

none_has : (n b : ℕ) → has_site (replicate n None) b ≡ false
none_has zero b = refl
none_has (suc n) zero = refl
none_has (suc n) (suc b) = none_has n b

none_holds : (n k : ℕ) (s : Site) → is_some (holder_from k (replicate n None) s) ≡ false
none_holds zero k s = refl
none_holds (suc n) k s = none_holds n (k + 1) s

none_there : (n b : ℕ) (s : Site) → slice_get (replicate n None) b ≡ Some (Some s) → ⊥
none_there n b s h = false≢true (sym (none_has n b) ∙ ap (λ o. is_some (flat o)) h)

pub no_seats : (d : Netlist) (g : GridShape) → Seats d g [] (replicate (length d.kinds) None)
no_seats d g =
    record {
      long = length-replicate (length d.kinds) None;
      repeats = λ b. none_has (length d.kinds) b;
      holders = λ x. none_holds (length d.kinds) 0 x;
      seated = tt;
      distinct = tt;
      fits = λ b s h. absurd (none_there (length d.kinds) b s h);
      apart = λ a b s h k. absurd (none_there (length d.kinds) a s h);
    }

-- a line without a fault

-- the line gives a block that has no site yet a site of its kind, which no block has yet
pub record IsTakable (d : Netlist) (g : GridShape) (sites : List (Option Site)) (l : TextLine) : Type 0 where
  pub block : ℕ
  pub site : Site
  pub named : block_in d l ≡ Some block
  pub given : site_in l ≡ Some site
  pub new : has_site sites block ≡ false
  pub fit : kind_at g site ≡ Some (kind_wanted d block)
  pub free : is_some (holder_of sites site) ≡ false

pub both_none : (a b : Option PlaceFault) → or_else a b ≡ None → (a ≡ None) × (b ≡ None)
both_none None b h = (refl, h)
both_none (Some e) b h = absurd (some_none e h)

unless_not : (t : Bool) (e : PlaceFault) → unless (not t) e ≡ None → t ≡ false
unless_not true e h = absurd (some_none e h)
unless_not false e h = refl

unless_is : (t : Bool) (e : PlaceFault) → unless t e ≡ None → t ≡ true
unless_is true e h = refl
unless_is false e h = absurd (some_none e h)

kinds_equal : (a b : SiteKind) → same_kind a b ≡ true → a ≡ b
kinds_equal site_kind.Logic site_kind.Logic h = refl
kinds_equal site_kind.Logic site_kind.Pad h = absurd (false≢true h)
kinds_equal site_kind.Pad site_kind.Logic h = absurd (false≢true h)
kinds_equal site_kind.Pad site_kind.Pad h = refl

kind_fits : (d : Netlist) (n b : ℕ) (k : Option SiteKind) → kind_fault d n b k ≡ None → k ≡ Some (kind_wanted d b)
kind_fits d n b None h = absurd (some_none _ h)
kind_fits d n b (Some k) h = ap (λ x. Some x) (kinds_equal k (kind_wanted d b) (unless_is (same_kind k (kind_wanted d b)) _ h))

takable_by : (d : Netlist) (g : GridShape) (sites : List (Option Site)) (l : TextLine) (o : Option Site) (q : Option ℕ) → site_in l ≡ o → block_in d l ≡ q
    → take_fault_by (record { netlist = d; grid = g; sites = sites }) l.number o q ≡ None → IsTakable d g sites l
takable_by d g sites l None q given named h = absurd (some_none _ h)
takable_by d g sites l (Some s) None given named h = absurd (some_none _ h)
takable_by d g sites l (Some s) (Some b) given named h =
    let first = both_none _ _ h in
    let second = both_none _ _ first.1 in
    record {
      block = b;
      site = s;
      named = named;
      given = given;
      new = unless_not (has_site sites b) _ first.0;
      fit = kind_fits d l.number b (kind_at g s) second.0;
      free = unless_not (is_some (holder_of sites s)) _ second.1;
    }

pub takable : (d : Netlist) (g : GridShape) (sites : List (Option Site)) (l : TextLine) → take_fault (record { netlist = d; grid = g; sites = sites }) l ≡ None → IsTakable d g sites l
takable d g sites l h = takable_by d g sites l (site_in l) (block_in d l) refl refl h

-- one more line

pub not_there : (os : List (Option Site)) (b : ℕ) → b < length os → has_site os b ≡ false → slice_get os b ≡ Some None
not_there [] b lt h = absurd (omega arith)
not_there (None ∷ os) zero lt h = refl
not_there (Some s ∷ os) zero lt h = absurd (false≢true (sym h))
not_there (o ∷ os) (suc b) lt h = not_there os b (omega arith) h

has_set : (os : List (Option Site)) (b : ℕ) (s : Site) (a : ℕ) → slice_get os b ≡ Some None → has_site (set os b (Some s)) a ≡ (has_site os a || eqb b a)
has_set os b s a h = elim (cases_Bool (eqb b a)) [
  | inl y ↦
      let here : has_site (set os b (Some s)) a ≡ true = ap (λ i. has_site (set os b (Some s)) i) (sym (eqb-true b a y)) ∙ ap (λ o. is_some (flat o)) (get_set_same os b None (Some s) h) in
      here ∙ sym (ap (λ t. has_site os a || t) y ∙ or_true (has_site os a))
  | inr n ↦
      let other : a ≢ b = λ e. false≢true (sym n ∙ eq-eqb b a (sym e)) in
      ap (λ o. is_some (flat o)) (get_set_other os b a (Some s) other) ∙ sym (ap (λ t. has_site os a || t) n ∙ or_false (has_site os a))
]

holds_set : (n : ℕ) (os : List (Option Site)) (b : ℕ) (s x : Site) → slice_get os b ≡ Some None → is_some (holder_from n (set os b (Some s)) x) ≡ (is_some (holder_from n os x) || same_site s x)
holds_set n [] b s x h = absurd (none_some None h)
holds_set n (None ∷ os) zero s x h = elim (cases_Bool (same_site s x)) [
  | inl y ↦ rw y (sym (or_true (is_some (holder_from (n + 1) os x))))
  | inr k ↦ rw k (sym (or_false (is_some (holder_from (n + 1) os x))))
]
holds_set n (Some t ∷ os) zero s x h = absurd (some_none t (inner (Some t) None h))
holds_set n (o ∷ os) (suc b) s x h = elim (cases_Bool (is_site o x)) [
  | inl y ↦ rw y refl
  | inr k ↦ rw k (holds_set (n + 1) os b s x h)
]

eqb_other : (a b : ℕ) → eqb a b ≡ eqb b a
eqb_other a b = elim (cases_Bool (eqb a b)) [
  | inl y ↦ y ∙ sym (eq-eqb b a (sym (eqb-true a b y)))
  | inr n ↦ elim (cases_Bool (eqb b a)) [
    | inl k ↦ absurd (false≢true (sym n ∙ eq-eqb a b (sym (eqb-true b a k))))
    | inr k ↦ n ∙ sym k
  ]
]

same_other : (s x : Site) → same_site s x ≡ same_site x s
same_other s x = rw (eqb_other s.x x.x, eqb_other s.y x.y, eqb_other s.sub x.sub) refl

pub unnamed : (names : List (List ℕ)) (w : List ℕ) (b : ℕ) (bs : List TextLine) → number_of w names ≡ Some b → list_any (λ l. is_block b (number_of (first_word l) names)) bs ≡ false → list_any (bytes_eq w) (map first_word bs) ≡ false
unnamed names w b [] k h = refl
unnamed names w b (l ∷ bs) k h =
    let parts = or_neither (is_block b (number_of (first_word l) names)) (list_any (λ l. is_block b (number_of (first_word l) names)) bs) h in
    elim (cases_Bool (bytes_eq w (first_word l))) [
      | inl y ↦
          let named : number_of (first_word l) names ≡ Some b = ap (λ v. number_of v names) (sym (same_name w (first_word l) y)) ∙ k in
          absurd (false≢true (sym parts.0 ∙ ap (is_block b) named ∙ eq-eqb b b refl))
      | inr n ↦ rw n (unnamed names w b bs k parts.1)
    ]

seated_on : (d : Netlist) (sites : List (Option Site)) (b : ℕ) (s : Site) → slice_get sites b ≡ Some None → (l : TextLine) → IsSeated d sites l → IsSeated d (set sites b (Some s)) l
seated_on d sites b s missing l u =
    let other : u.block ≢ b = λ e. some_none u.site (inner (Some u.site) None (sym u.there ∙ ap (slice_get sites) e ∙ missing)) in
    record { block = u.block; site = u.site; named = u.named; given = u.given; there = get_set_other sites b u.block (Some s) other ∙ u.there }

given_push : (bs : List TextLine) (l : TextLine) (s : Site) → site_in l ≡ Some s → sites_given (bs ++ l ∷ []) ≡ sites_given bs ++ s ∷ []
given_push bs l s h = filter_map-append site_in bs (l ∷ []) ∙ ap (λ x. sites_given bs ++ x) (rw h refl)

none_is : {X : Type 0} (o : Option X) → is_some o ≡ false → o ≡ None
none_is None h = refl
none_is (Some x) h = absurd (false≢true (sym h))

pub named_below : (d : Netlist) (l : TextLine) (b : ℕ) → IsLawful d → block_in d l ≡ Some b → b < length d.kinds
named_below d l b law h = let at = name_at_number (first_word l) d.names b h in omega (arith, at.0, law.named)

fits_set : (d : Netlist) (g : GridShape) (sites : List (Option Site)) (b : ℕ) (x : Site) → ((a : ℕ) (s : Site) → slice_get sites a ≡ Some (Some s) → kind_at g s ≡ Some (kind_wanted d a)) → slice_get sites b ≡ Some None → kind_at g x ≡ Some (kind_wanted d b)
    → (a : ℕ) (s : Site) → slice_get (set sites b (Some x)) a ≡ Some (Some s) → kind_at g s ≡ Some (kind_wanted d a)
fits_set d g sites b x fits missing fit a s h = elim (cases_eq a b) [
  | inl e ↦
      let there : Some (Some s) ≡ Some (Some x) = sym h ∙ ap (slice_get (set sites b (Some x))) e ∙ get_set_same sites b None (Some x) missing in
      let same : s ≡ x = inner s x (inner (Some s) (Some x) there) in
      ap (kind_at g) same ∙ fit ∙ ap (λ i. Some (kind_wanted d i)) (sym e)
  | inr other ↦ fits a s (sym (get_set_other sites b a (Some x) other) ∙ h)
]

pub none_there_yet : (sites : List (Option Site)) (b : ℕ) (o : Option Site) → slice_get sites b ≡ Some o → is_some o ≡ false → slice_get sites b ≡ Some None
none_there_yet sites b o h k = h ∙ ap (λ x. Some x) (none_is o k)

pub nobody_there : (sites : List (Option Site)) (x : Site) (o : Option BlockId) → o ≡ holder_of sites x → is_some o ≡ false → holder_of sites x ≡ None
nobody_there sites x o h k = sym h ∙ none_is o k

kind_read : (kinds : List BlockKind) (b : ℕ) (k : BlockKind) → slice_get kinds b ≡ Some k → slice_index_or kinds b Logic ≡ k
kind_read [] b k h = absurd (none_some k h)
kind_read (x ∷ xs) zero k h = inner x k h
kind_read (x ∷ xs) (suc b) k h = kind_read xs b k h

-- a block that is taken onto a site of the kind it needs fits there
pub fitting_put : (d : Netlist) (g : GridShape) (sites : List (Option Site)) (b : ℕ) (x : Site) (k : BlockKind) (kind : SiteKind) → AreFitting d g sites → slice_get sites b ≡ Some None → holder_of sites x ≡ None → slice_get d.kinds b ≡ Some k → kind_at g x ≡ Some kind → same_kind kind (wanted k) ≡ true
    → AreFitting d g (set sites b (Some x))
fitting_put d g sites b x k kind u missing free is there same =
    let need : kind_wanted d b ≡ wanted k = ap wanted (kind_read d.kinds b k is) in
    let fit : kind_at g x ≡ Some (kind_wanted d b) = there ∙ ap (λ v. Some v) (kinds_equal kind (wanted k) same ∙ sym need) in
    record { fit = fits_set d g sites b x u.fit missing fit; apart = apart_put sites b x u.apart missing free }

-- such a line has no fault
pub no_take_fault : (d : Netlist) (g : GridShape) (sites : List (Option Site)) (l : TextLine) (b : ℕ) (x : Site) (k : BlockKind) (kind : SiteKind) → block_in d l ≡ Some b → site_in l ≡ Some x → slice_get sites b ≡ Some None → holder_of sites x ≡ None → slice_get d.kinds b ≡ Some k → kind_at g x ≡ Some kind → same_kind kind (wanted k) ≡ true
    → take_fault (record { netlist = d; grid = g; sites = sites }) l ≡ None
no_take_fault d g sites l b x k kind named given missing free is there same =
    let new : has_site sites b ≡ false = ap (λ o. is_some (flat o)) missing in
    let fits : same_kind kind (kind_wanted d b) ≡ true = ap (λ v. same_kind kind (wanted v)) (kind_read d.kinds b k is) ∙ same in
    rw (given, named, new, there, fits, free) refl

pub on : (d : Netlist) (g : GridShape) (bs : List TextLine) (l : TextLine) (sites : List (Option Site)) → IsLawful d → Seats d g bs sites → (t : IsTakable d g sites l) → Seats d g (bs ++ l ∷ []) (set sites t.block (Some t.site))
on d g bs l sites law u t =
    let below = named_below d l t.block law t.named in
    let missing = not_there sites t.block (omega (arith, below, u.long)) t.new in
    record {
      long = length-set sites t.block (Some t.site) ∙ u.long;
      repeats = λ b.
          has_set sites t.block t.site b missing ∙ ap (λ x. x || eqb t.block b) (u.repeats b)
          ∙ sym (any_push (λ l. is_block b (block_in d l)) bs l ∙ ap (λ q. is_repeated d bs b || is_block b q) t.named);
      holders = λ x.
          holds_set 0 sites t.block t.site x missing ∙ ap (λ y. y || same_site t.site x) (u.holders x)
          ∙ ap (λ y. list_any (same_site x) (sites_given bs) || y) (same_other t.site x)
          ∙ sym (ap (list_any (same_site x)) (given_push bs l t.site t.given) ∙ any_push (same_site x) (sites_given bs) t.site);
      seated = all_push (IsSeated d (set sites t.block (Some t.site))) bs l
          (all_kept (IsSeated d sites) (IsSeated d (set sites t.block (Some t.site))) bs (seated_on d sites t.block t.site missing) u.seated)
          (record { block = t.block; site = t.site; named = t.named; given = t.given; there = get_set_same sites t.block None (Some t.site) missing });
      distinct = rw (map_push first_word bs l) (distinct_push (map first_word bs) (first_word l) u.distinct (unnamed d.names (first_word l) t.block bs t.named (sym (u.repeats t.block) ∙ t.new)));
      fits = fits_set d g sites t.block t.site u.fits missing t.fit;
      apart = apart_put sites t.block t.site u.apart missing (none_is (holder_of sites t.site) t.free);
    }

-- a line's first fault is told by the sites that the lines before it gave
faults_by : (d : Netlist) (g : GridShape) (bs : List TextLine) (sites : List (Option Site)) (n : ℕ) (o : Option Site) (q : Option ℕ) → Seats d g bs sites
    → take_fault_by (record { netlist = d; grid = g; sites = sites }) n o q ≡ block_fault_by d g bs n o q
faults_by d g bs sites n None q u = refl
faults_by d g bs sites n (Some s) None u = refl
faults_by d g bs sites n (Some s) (Some b) u = rw (u.repeats b, u.holders s) refl

pub same_fault : (d : Netlist) (g : GridShape) (bs : List TextLine) (sites : List (Option Site)) (l : TextLine) → Seats d g bs sites
    → take_fault (record { netlist = d; grid = g; sites = sites }) l ≡ block_fault d g bs l
same_fault d g bs sites l u = faults_by d g bs sites l.number (site_in l) (block_in d l) u
