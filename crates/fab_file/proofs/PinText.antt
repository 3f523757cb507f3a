-- A location text: its header and its block lines, and why a text that stands for sites has no fault.
use Rattle.std.proofs.Common.{◌≡◌, ℕ, Bool, true, false, cond, eqb, ◌||◌, List, [], ◌∷◌, ◌++◌, Option, Some, None, map, take, get_or, refl, sym, ap, ◌∙◌, inl, inr}
use Rattle.std.specs.Prelude.{is_some}
use Rattle.std.specs.List.{list_any, AllByRecursion}
use Rattle.std.specs.Str.{bytes_eq}
use Rattle.std.proofs.lemmas.Bool.{cases_Bool, false≢true, eqb-true, eq-eqb}
use Rattle.std.proofs.lemmas.List.{append_assoc, map-append}
use Rattle.std.proofs.lemmas.List.Folds.{list_any-append}
use Rattle.fab_text.specs.Lines.{TextLine}
use Rattle.fab_text.specs.FirstFault.{or_else, fault_behind, fault_of_all}
use Rattle.fab_arch.specs.declared.array.Site.{Site}
use Rattle.fab_arch.specs.declared.array.SiteKind.{SiteKind}
use Rattle.fab_arch.specs.declared.array.SiteKind.TheVariants as site_kind
use Rattle.fab_arch.specs.Grid.{GridShape}
use Rattle.fab_net.specs.Names.{number_of, AllDistinct}
use Rattle.fab_net.specs.Netlist.{Netlist}
use Rattle.fab_net.proofs.Naming.{name_at_number, other_way, itself}
use Rattle.fab_net.proofs.Underway.{all_push}
use Rattle.fab_site.specs.Placement.{same_site, kind_wanted, fixed_at}
use Rattle.fab_site.specs.Pins.{either_site, given_at, ArePins}
use Rattle.fab_site.proofs.Tables.{same_is}
use Rattle.fab_file.specs.declared.fault.PlaceFault.{PlaceFault}
use Rattle.fab_file.specs.declared.fault.PlaceFault.TheVariants as fault
use Rattle.fab_file.specs.Place.{site_in, block_in}
use Rattle.fab_file.specs.PlaceFaults.{sites_given, is_block, is_repeated, same_kind, FaultIs}
use Rattle.fab_file.specs.Pinned.{has_header, block_lines, is_free, without_free, Locates, site_for, fixed_by, begun_by, first_given, IsLocated, pin_fault, no_text_fault, pins_fault, header_fault}
use Rattle.fab_file.proofs.Seats.{some_none, or_neither, first_word}

-- a fault in place of another
fault_for : (e : PlaceFault) (f k : Option PlaceFault) → (f ≡ Some e → k ≡ Some e) → FaultIs e f → FaultIs e k
fault_for fault.NoMemory f k t h = tt
fault_for fault.BadHeader f k t h = t h
fault_for fault.WrongSize f k t h = t h
fault_for (fault.UnknownBlock n) f k t h = t h
fault_for (fault.Repeated n) f k t h = t h
fault_for (fault.NoSuchSite n) f k t h = t h
fault_for (fault.WrongKind n) f k t h = t h
fault_for (fault.Taken n) f k t h = t h
fault_for (fault.Missing n) f k t h = t h
fault_for (fault.NotAPad n) f k t h = t h
fault_for (fault.BadLine n) f k t h = t h
fault_for fault.BadLabel f k t h = t h
fault_for fault.Write f k t h = t h

pub header_refused : (d : Netlist) (g : GridShape) (ls : List TextLine) (e : PlaceFault) → FaultIs e (header_fault g ls) → FaultIs e (pins_fault d g ls)
header_refused d g ls e h = fault_for e (header_fault g ls) (pins_fault d g ls) (λ k. ap (λ x. or_else x (fault_of_all (pin_fault d g) no_text_fault (block_lines ls))) k) h

pub behind_lawful_header : (d : Netlist) (g : GridShape) (ls : List TextLine) → header_fault g ls ≡ None → pins_fault d g ls ≡ fault_behind (pin_fault d g) no_text_fault [] (block_lines ls)
behind_lawful_header d g ls h = ap (λ x. or_else x (fault_of_all (pin_fault d g) no_text_fault (block_lines ls))) h

-- a line without its last word `free`

first_of_four : (ws : List (List ℕ)) → get_or (take 4 ws) 0 [] ≡ get_or ws 0 []
first_of_four [] = refl
first_of_four (w ∷ ws) = refl

pub same_first : (l : TextLine) → first_word (without_free l) ≡ first_word l
same_first l = elim (cases_Bool (is_free l)) [
  | inl y ↦ rw y (first_of_four l.words)
  | inr n ↦ rw n refl
]

pub same_block : (d : Netlist) (l : TextLine) → block_in d (without_free l) ≡ block_in d l
same_block d l = ap (λ w. number_of w d.names) (same_first l)

pub same_firsts : (ls : List TextLine) → map first_word (map without_free ls) ≡ map first_word ls
same_firsts [] = refl
same_firsts (l ∷ ls) = ap (λ w. w ∷ map first_word (map without_free ls)) (same_first l) ∙ ap (λ ws. first_word l ∷ ws) (same_firsts ls)

same_repeated : (d : Netlist) (ls : List TextLine) (b : ℕ) → is_repeated d (map without_free ls) b ≡ is_repeated d ls b
same_repeated d [] b = refl
same_repeated d (l ∷ ls) b = ap (λ q. is_block b q || is_repeated d (map without_free ls) b) (same_block d l) ∙ ap (λ t. is_block b (block_in d l) || t) (same_repeated d ls b)

-- the site that a line gives

pub either_none : (o : Option Site) → either_site o None ≡ o
either_none None = refl
either_none (Some s) = refl

-- the line gives its block the site where the block is fixed or begun
record Stands (d : Netlist) (fixed begun : List (Option Site)) (l : TextLine) : Type 0 where
  pub block : ℕ
  pub site : Site
  pub named : block_in d l ≡ Some block
  pub given : site_in (without_free l) ≡ Some site
  pub there : given_at fixed begun block ≡ Some site

own_site : (d : Netlist) (b : ℕ) (s : Site) (by_line : TextLine → Option Site) (before : List TextLine) (l : TextLine) (after : List TextLine) → ((k : TextLine) → is_block b (block_in d k) ≡ false → by_line k ≡ None)
    → is_repeated d before b ≡ false → by_line l ≡ Some s → first_given by_line (before ++ l ∷ after) ≡ Some s
own_site d b s by_line [] l after none h k = ap (λ o. either_site o (first_given by_line after)) k
own_site d b s by_line (x ∷ before) l after none h k =
    let parts = or_neither (is_block b (block_in d x)) (is_repeated d before b) h in
    ap (λ o. either_site o (first_given by_line (before ++ l ∷ after))) (none x parts.0) ∙ own_site d b s by_line before l after none parts.1 k

not_for : (d : Netlist) (b : ℕ) (l : TextLine) → is_block b (block_in d l) ≡ false → site_for d b (without_free l) ≡ None
not_for d b l h = let other : is_block b (block_in d (without_free l)) ≡ false = ap (is_block b) (same_block d l) ∙ h in rw other refl

none_if : (t : Bool) (o : Option Site) → o ≡ None → cond t None o ≡ None
none_if true o h = refl
none_if false o h = h

none_else : (t : Bool) (o : Option Site) → o ≡ None → cond t o None ≡ None
none_else true o h = h
none_else false o h = refl

not_both : (f b : Option Site) (s : Site) → (is_some f ≡ true → b ≡ None) → b ≡ Some s → f ≡ None
not_both None b s h k = refl
not_both (Some x) b s h k = absurd (some_none s (sym k ∙ h refl))

own_line : (d : Netlist) (b : ℕ) (s : Site) (l : TextLine) → block_in d l ≡ Some b → site_in l ≡ Some s → site_for d b l ≡ Some s
own_line d b s l named given = rw (named, eq-eqb b b refl) given

given_here : (d : Netlist) (g : GridShape) (ls : List TextLine) (fixed begun : List (Option Site)) (before : List TextLine) (l : TextLine) (after : List TextLine) → IsLocated d g ls fixed begun → block_lines ls ≡ before ++ l ∷ after
    → (p : Locates d l) → is_repeated d before p.block ≡ false → given_at fixed begun p.block ≡ Some p.site
given_here d g ls fixed begun before l after t whole p new =
    let mine = own_line d p.block p.site (without_free l) (same_block d l ∙ p.named) p.given in
    elim (cases_Bool (is_free l)) [
      | inl y ↦
          let by : begun_by d p.block l ≡ Some p.site = ap (λ f. cond f (site_for d p.block (without_free l)) None) y ∙ mine in
          let at : fixed_at begun p.block ≡ Some p.site = t.begun_sites p.block ∙ ap (first_given (begun_by d p.block)) whole
          ∙ own_site d p.block p.site (begun_by d p.block) before l after (λ k h. none_else (is_free k) (site_for d p.block (without_free k)) (not_for d p.block k h)) new by in
          let none = not_both (fixed_at fixed p.block) (fixed_at begun p.block) p.site (t.lawful.once p.block) at in
          ap (λ o. either_site o (fixed_at begun p.block)) none ∙ at
      | inr n ↦
          let by : fixed_by d p.block l ≡ Some p.site = ap (λ f. cond f None (site_for d p.block (without_free l))) n ∙ mine in
          let at : fixed_at fixed p.block ≡ Some p.site = t.fixed_sites p.block ∙ ap (first_given (fixed_by d p.block)) whole
          ∙ own_site d p.block p.site (fixed_by d p.block) before l after (λ k h. none_if (is_free k) (site_for d p.block (without_free k)) (not_for d p.block k h)) new by in
          ap (λ o. either_site o (fixed_at begun p.block)) at
    ]

-- a text that stands for sites has no fault

before_distinct : (xs : List (List ℕ)) (y : List ℕ) (ys : List (List ℕ)) → AllDistinct (xs ++ y ∷ ys) → list_any (bytes_eq y) xs ≡ false
before_distinct [] y ys h = refl
before_distinct (x ∷ xs) y ys h =
    let parts = or_neither (list_any (bytes_eq x) xs) (bytes_eq x y || list_any (bytes_eq x) ys) (sym (list_any-append (bytes_eq x) xs (y ∷ ys)) ∙ h.0) in
    let head = or_neither (bytes_eq x y) (list_any (bytes_eq x) ys) parts.1 in
    rw (other_way x y head.0) (before_distinct xs y ys h.1)

not_repeated : (d : Netlist) (fixed begun : List (Option Site)) (l : TextLine) (b : ℕ) (before : List TextLine) → block_in d l ≡ Some b → AllByRecursion (Stands d fixed begun) before → list_any (bytes_eq (first_word l)) (map first_word before) ≡ false → is_repeated d before b ≡ false
not_repeated d fixed begun l b [] named h none = refl
not_repeated d fixed begun l b (k ∷ before) named h none =
    let parts = or_neither (bytes_eq (first_word l) (first_word k)) (list_any (bytes_eq (first_word l)) (map first_word before)) none in
    elim (cases_Bool (eqb h.0.block b)) [
      | inl y ↦
          let one = name_at_number (first_word l) d.names b named in
          let two = name_at_number (first_word k) d.names h.0.block h.0.named in
          let same : first_word l ≡ first_word k = sym one.1 ∙ ap (λ i. get_or d.names i []) (sym (eqb-true h.0.block b y)) ∙ two.1 in
          absurd (false≢true (sym parts.0 ∙ ap (λ w. bytes_eq (first_word l) w) (sym same) ∙ itself (first_word l)))
      | inr n ↦ rw (h.0.named, n) (not_repeated d fixed begun l b before named h.1 parts.1)
    ]

not_taken : (d : Netlist) (g : GridShape) (fixed begun : List (Option Site)) (b : ℕ) (s : Site) (before : List TextLine) → ArePins d g fixed begun → given_at fixed begun b ≡ Some s → AllByRecursion (Stands d fixed begun) before → is_repeated d before b ≡ false
    → list_any (same_site s) (sites_given (map without_free before)) ≡ false
not_taken d g fixed begun b s [] law at h none = refl
not_taken d g fixed begun b s (k ∷ before) law at h none =
    let parts = or_neither (is_block b (block_in d k)) (is_repeated d before b) none in
    elim (cases_Bool (same_site s h.0.site)) [
      | inl y ↦
          let same : b ≡ h.0.block = law.apart b h.0.block s at (h.0.there ∙ ap (λ x. Some x) (sym (same_is s h.0.site y))) in
          absurd (false≢true (sym parts.0 ∙ ap (is_block b) h.0.named ∙ eq-eqb h.0.block b (sym same)))
      | inr n ↦ rw (h.0.given, n) (not_taken d g fixed begun b s before law at h.1 parts.1)
    ]

kind_is : (a : SiteKind) → same_kind a a ≡ true
kind_is site_kind.Logic = refl
kind_is site_kind.Pad = refl

no_pin_fault : (d : Netlist) (g : GridShape) (fixed begun : List (Option Site)) (before : List TextLine) (l : TextLine) → ArePins d g fixed begun → AllByRecursion (Stands d fixed begun) before → (p : Stands d fixed begun l) → is_repeated d before p.block ≡ false
    → pin_fault d g before l ≡ None
no_pin_fault d g fixed begun before l law h p new =
    let once : is_repeated d (map without_free before) p.block ≡ false = same_repeated d before p.block ∙ new in
    let named : block_in d (without_free l) ≡ Some p.block = same_block d l ∙ p.named in
    let free = not_taken d g fixed begun p.block p.site before law p.there h new in
    let fit = law.fit p.block p.site p.there in
    rw (p.given, named, once, fit, kind_is (kind_wanted d p.block), free) refl

no_fault_behind : (d : Netlist) (g : GridShape) (ls : List TextLine) (fixed begun : List (Option Site)) (before after : List TextLine) → IsLocated d g ls fixed begun → block_lines ls ≡ before ++ after → AllByRecursion (Stands d fixed begun) before → AllByRecursion (Locates d) after
    → AllDistinct (map first_word (before ++ after)) → fault_behind (pin_fault d g) no_text_fault before after ≡ None
no_fault_behind d g ls fixed begun before [] t whole h k distinct = refl
no_fault_behind d g ls fixed begun before (l ∷ after) t whole h k distinct =
    let words : AllDistinct (map first_word before ++ first_word l ∷ map first_word after) = rw (← map-append first_word before (l ∷ after)) distinct in
    let new = not_repeated d fixed begun l k.0.block before k.0.named h (before_distinct (map first_word before) (first_word l) (map first_word after) words) in
    let here : Stands d fixed begun l = record { block = k.0.block; site = k.0.site; named = k.0.named; given = k.0.given; there = given_here d g ls fixed begun before l after t whole k.0 new } in
    let none = no_pin_fault d g fixed begun before l t.lawful h here new in
    let same : (before ++ l ∷ []) ++ after ≡ before ++ l ∷ after = append_assoc before (l ∷ []) after in
    rw none (no_fault_behind d g ls fixed begun (before ++ l ∷ []) after t (whole ∙ sym same) (all_push (Stands d fixed begun) before l h here) k.1 (rw same distinct))

pub no_header_fault : (d : Netlist) (g : GridShape) (ls : List TextLine) (fixed begun : List (Option Site)) → IsLocated d g ls fixed begun → header_fault g ls ≡ None
no_header_fault d g ls fixed begun t = elim (cases_Bool (has_header ls)) [
  | inl y ↦ rw (y, t.header y, eq-eqb g.nx g.nx refl, eq-eqb g.ny g.ny refl) refl
  | inr n ↦ rw n refl
]

pub no_fault_in : (d : Netlist) (g : GridShape) (ls : List TextLine) (fixed begun : List (Option Site)) → IsLocated d g ls fixed begun → pins_fault d g ls ≡ None
no_fault_in d g ls fixed begun t = behind_lawful_header d g ls (no_header_fault d g ls fixed begun t) ∙ no_fault_behind d g ls fixed begun [] (block_lines ls) t refl tt t.lines t.distinct
