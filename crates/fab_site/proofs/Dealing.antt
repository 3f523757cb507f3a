-- The start placement is legal.
use Rattle.std.proofs.Common.{◌≡◌, ℕ, ◌+◌, ◌*◌, ◌^◌, ◌<◌, ◌≤◌, Bool, true, false, not, cond, ◌⊎◌, List, [], ◌∷◌, Option, Some, None, length, map, zero, suc, refl, sym, ap, ◌∙◌, inl, inr, arith}
use Rattle.std.specs.Prelude.{slice_get, slice_index_or, is_some}
use Rattle.std.specs.List.{range_with_len}
use Rattle.std.proofs.lemmas.Bool.{cases_Bool}
use Rattle.std.proofs.lemmas.List.FromFn.{length-map-range_with_len, get_or-map-range_with_len}
use Rattle.std.proofs.lemmas.Option.{slice_get-get_or, slice_get_within}
use Rattle.fab_arch.specs.declared.array.Site.{Site}
use Rattle.fab_arch.specs.declared.array.SiteKind.{SiteKind}
use Rattle.fab_arch.specs.declared.array.SiteKind.TheVariants as site_kind
use Rattle.fab_arch.specs.Grid.{GridShape, kind_at, Holds}
use Rattle.fab_net.specs.declared.netlist_types.BlockKind.{BlockKind}
use Rattle.fab_net.specs.declared.netlist_types.BlockKind.TheVariants.{Logic}
use Rattle.fab_net.specs.Netlist.{Netlist, is_logic, logic_count, pad_count}
use Rattle.fab_site.specs.Placement.{site_of, fixed_at, AreApart, IsLegal}
use Rattle.fab_site.specs.Draft.{NoneShared}
use Rattle.fab_site.specs.Pins.{either_site, given_at, ArePins}
use Rattle.fab_site.specs.Start.{logic_sites, pad_sites, given_sites, sites_left, entry_of, without, deal, waiting, is_pad, drawing, start_sites}
use Rattle.fab_site.proofs.AllSites.{logic_run, logic_len, pads_run, pads_length, run_distinct, run_logic, run_pad}
use Rattle.fab_site.proofs.Stock.{IsStock, stock_of, without_len, came, stock_without, pick_below, Fitting, enough}

none_some : {X : Type 0} (x : X) → None ≡ Some x → ⊥
none_some x h = cc

some_same : {X : Type 0} (x y : X) → Some x ≡ Some y → x ≡ y
some_same x y h = cc

kinds_differ : Some site_kind.Logic ≡ Some site_kind.Pad → ⊥
kinds_differ h = cc

-- a site of a list
pub record Among (s : Site) (sites : List Site) : Type 0 where
  pub place : ℕ
  pub below : place < length sites
  pub is : site_of sites place ≡ s

-- the site was given to the block, or comes from the list of its kind
abbrev pub IsFrom : List Site → List Site → List (Option Site) → List BlockKind → List Site → ℕ → Type 0
IsFrom logic pads given kinds out b = (slice_get given b ≡ Some (Some (site_of out b))) ⊎ Among (site_of out b) (cond (is_logic (slice_index_or kinds b Logic)) logic pads)

pub record AreDealt (logic pads : List Site) (given : List (Option Site)) (kinds : List BlockKind) (out : List Site) : Type 0 where
  pub long : length out ≡ length kinds
  pub from : (b : ℕ) → b < length out → IsFrom logic pads given kinds out b
  pub apart : AreApart out
  pub kept : (b : ℕ) (s : Site) → slice_get given b ≡ Some (Some s) → slice_get out b ≡ Some s

head_apart : (s : Site) (rest : List Site) → ((b : ℕ) → b < length rest → s ≡ site_of rest b → ⊥) → AreApart rest → AreApart (s ∷ rest)
head_apart s rest h apart zero zero la lb e = refl
head_apart s rest h apart zero (suc b) la lb e = absurd (h b (omega arith) e)
head_apart s rest h apart (suc a) zero la lb e = absurd (h a (omega arith) (sym e))
head_apart s rest h apart (suc a) (suc b) la lb e = ap suc (apart a b (omega arith) (omega arith) e)

shared_tail : (o : Option Site) (given : List (Option Site)) → NoneShared (o ∷ given) → NoneShared given
shared_tail o given h a b s p q = let e : suc a ≡ suc b = h (suc a) (suc b) s p q in omega (arith, e)

stock_tail : (g : GridShape) (kind : SiteKind) (o : Option Site) (given : List (Option Site)) (left : List Site) → IsStock g kind (o ∷ given) left → IsStock g kind given left
stock_tail g kind o given left s = record { kinds = s.kinds; apart = s.apart; free = λ i b lt h. s.free i (suc b) lt h }

-- a site of either list is given to nobody
among_free : (g : GridShape) (given : List (Option Site)) (logic pads : List Site) (c : Bool) (t : Site) (b : ℕ) → IsStock g site_kind.Logic given logic → IsStock g site_kind.Pad given pads → Among t (cond c logic pads) → slice_get given b ≡ Some (Some t) → ⊥
among_free g given logic pads true t b l p a h = l.free a.place b a.below (h ∙ ap (λ x. Some (Some x)) (sym a.is))
among_free g given logic pads false t b l p a h = p.free a.place b a.below (h ∙ ap (λ x. Some (Some x)) (sym a.is))

dealt_given : (g : GridShape) (logic pads : List Site) (s : Site) (given : List (Option Site)) (k : BlockKind) (kinds : List BlockKind) (rest : List Site) → NoneShared (Some s ∷ given) → IsStock g site_kind.Logic (Some s ∷ given) logic → IsStock g site_kind.Pad (Some s ∷ given) pads
    → AreDealt logic pads given kinds rest → AreDealt logic pads (Some s ∷ given) (k ∷ kinds) (s ∷ rest)
dealt_given g logic pads s given k kinds rest shared l p r = record { long = omega (arith, r.long); from = from; apart = head_apart s rest again r.apart; kept = kept }
  where
    from : (b : ℕ) → b < length (s ∷ rest) → IsFrom logic pads (Some s ∷ given) (k ∷ kinds) (s ∷ rest) b
    from zero lt = inl refl
    from (suc b) lt = r.from b (omega (arith, lt))

    again : (b : ℕ) → b < length rest → s ≡ site_of rest b → ⊥
    again b lt e = elim (r.from b lt) [
      | inl q ↦ let n : 0 ≡ suc b = shared 0 (suc b) s refl (q ∙ ap (λ x. Some (Some x)) (sym e)) in omega (arith, n)
      | inr a ↦ among_free g (Some s ∷ given) logic pads (is_logic (slice_index_or kinds b Logic)) (site_of rest b) 0 l p a (ap (λ x. Some (Some x)) e)
    ]

    kept : (b : ℕ) (t : Site) → slice_get (Some s ∷ given) b ≡ Some (Some t) → slice_get (s ∷ rest) b ≡ Some t
    kept zero t h = some_same (Some s) (Some t) h
    kept (suc b) t h = r.kept b t h

among_more : (logic pads less_logic less_pads : List Site) (c : Bool) (t : Site) → (Among t less_logic → Among t logic) → (Among t less_pads → Among t pads) → Among t (cond c less_logic less_pads) → Among t (cond c logic pads)
among_more logic pads less_logic less_pads true t l p a = l a
among_more logic pads less_logic less_pads false t l p a = p a

among_not : (logic pads : List Site) (c : Bool) (s t : Site) → (Among t logic → s ≡ t → ⊥) → (Among t pads → s ≡ t → ⊥) → Among t (cond c logic pads) → s ≡ t → ⊥
among_not logic pads true s t l p a e = l a e
among_not logic pads false s t l p a e = p a e

among_without : (left : List Site) (j : ℕ) (t : Site) → j < length left → Among t (without left j) → Among t left
among_without left j t hj a =
    let n = without_len left j (omega (arith, hj)) in
    let p = came left j a.place hj (omega (arith, a.below, n)) in
    record { place = p.was; below = p.below; is = sym p.same ∙ a.is }

-- the entry drawn is not left
drawn_not : (g : GridShape) (kind : SiteKind) (given : List (Option Site)) (left : List Site) (j : ℕ) (t : Site) → IsStock g kind given left → j < length left → Among t (without left j) → site_of left j ≡ t → ⊥
drawn_not g kind given left j t s hj a e =
    let n = without_len left j (omega (arith, hj)) in
    let p = came left j a.place hj (omega (arith, a.below, n)) in
    p.other (s.apart p.was j p.below hj (sym p.same ∙ a.is ∙ sym e))

kinds_apart : (g : GridShape) (given : List (Option Site)) (logic pads : List Site) (i : ℕ) (t : Site) → IsStock g site_kind.Logic given logic → IsStock g site_kind.Pad given pads → i < length logic → Among t pads → site_of logic i ≡ t → ⊥
kinds_apart g given logic pads i t l p lt a e = kinds_differ (sym (l.kinds i lt) ∙ ap (kind_at g) (e ∙ sym a.is) ∙ p.kinds a.place a.below)

-- one block draws
dealt_drawn : (logic pads less_logic less_pads : List Site) (s : Site) (given : List (Option Site)) (k : BlockKind) (kinds : List BlockKind) (rest : List Site)
    → Among s (cond (is_logic k) logic pads)
    → ((t : Site) → Among t less_logic → Among t logic) → ((t : Site) → Among t less_pads → Among t pads)
    → ((t : Site) → Among t less_logic → s ≡ t → ⊥) → ((t : Site) → Among t less_pads → s ≡ t → ⊥)
    → ((b : ℕ) → slice_get given b ≡ Some (Some s) → ⊥)
    → AreDealt less_logic less_pads given kinds rest → AreDealt logic pads (None ∷ given) (k ∷ kinds) (s ∷ rest)
dealt_drawn logic pads less_logic less_pads s given k kinds rest mine l p nl np free r = record { long = omega (arith, r.long); from = from; apart = head_apart s rest again r.apart; kept = kept }
  where
    from : (b : ℕ) → b < length (s ∷ rest) → IsFrom logic pads (None ∷ given) (k ∷ kinds) (s ∷ rest) b
    from zero lt = inr mine
    from (suc b) lt = elim (r.from b (omega (arith, lt))) [
      | inl q ↦ inl q
      | inr a ↦ inr (among_more logic pads less_logic less_pads (is_logic (slice_index_or kinds b Logic)) (site_of rest b) (l (site_of rest b)) (p (site_of rest b)) a)
    ]

    again : (b : ℕ) → b < length rest → s ≡ site_of rest b → ⊥
    again b lt e = elim (r.from b lt) [
      | inl q ↦ free b (q ∙ ap (λ x. Some (Some x)) (sym e))
      | inr a ↦ among_not less_logic less_pads (is_logic (slice_index_or kinds b Logic)) s (site_of rest b) (nl (site_of rest b)) (np (site_of rest b)) a e
    ]

    kept : (b : ℕ) (t : Site) → slice_get (None ∷ given) b ≡ Some (Some t) → slice_get (s ∷ rest) b ≡ Some t
    kept zero t h = absurd (none_some t (some_same None (Some t) h))
    kept (suc b) t h = r.kept b t h

dealt : (g : GridShape) (word : ℕ → ℕ) (i : ℕ) (logic pads : List Site) (given : List (Option Site)) (kinds : List BlockKind) → length given ≡ length kinds → NoneShared given → IsStock g site_kind.Logic given logic → IsStock g site_kind.Pad given pads
    → waiting is_logic given kinds ≤ length logic → waiting is_pad given kinds ≤ length pads → ((j : ℕ) → i ≤ j → j < i + drawing given kinds → word j < 2 ^ 32) → AreDealt logic pads given kinds (deal word i logic pads given kinds)
dealt g word i logic pads [] [] e shared l p el ep h = record { long = refl; from = λ b lt. absurd (omega (arith, lt)); apart = λ a b la lb same. absurd (omega (arith, la)); kept = λ b s k. absurd (none_some (Some s) k) }
dealt g word i logic pads [] (k ∷ kinds) e shared l p el ep h = absurd (omega arith)
dealt g word i logic pads (o ∷ given) [] e shared l p el ep h = absurd (omega arith)
dealt g word i logic pads (Some s ∷ given) (k ∷ kinds) e shared l p el ep h =
    dealt_given g logic pads s given k kinds (deal word i logic pads given kinds) shared l p
    (dealt g word i logic pads given kinds (omega (arith, e)) (shared_tail (Some s) given shared) (stock_tail g site_kind.Logic (Some s) given logic l) (stock_tail g site_kind.Pad (Some s) given pads p) el ep h)
dealt g word i logic pads (None ∷ given) (k ∷ kinds) e shared l p el ep h = elim (cases_Bool (is_logic k)) [
  | inl y ↦
      let el' : cond true 1 0 + waiting is_logic given kinds ≤ length logic = rw y at el in
      let ep' : cond (not true) 1 0 + waiting is_pad given kinds ≤ length pads = rw y at ep in
      let h' : (j : ℕ) → i ≤ j → j < i + (cond true 1 0 + waiting is_logic given kinds + (cond (not true) 1 0 + waiting is_pad given kinds)) → word j < 2 ^ 32 = rw y at h in
      let some : 0 < length logic = omega (arith, el') in
      let below : entry_of (word i) logic < length logic = pick_below (word i) (length logic) (h' i (omega arith) (omega arith)) some in
      let n = without_len logic (entry_of (word i) logic) some in
      let j = entry_of (word i) logic in
      let less = stock_without g site_kind.Logic (None ∷ given) logic j below l in
      let r = dealt g word (i + 1) (without logic j) pads given kinds (omega (arith, e)) (shared_tail None given shared) (stock_tail g site_kind.Logic None given (without logic j) less) (stock_tail g site_kind.Pad None given pads p) (omega (arith, el', n)) (omega (arith, ep')) (λ m lo hi. h' m (omega (arith, lo)) (omega (arith, hi))) in
      let mine : Among (site_of logic j) (cond (is_logic k) logic pads) = rw y (record { place = j; below = below; is = refl }) in
      rw y (dealt_drawn logic pads (without logic j) pads (site_of logic j) given k kinds (deal word (i + 1) (without logic j) pads given kinds) mine
      (λ t a. among_without logic j t below a) (λ t a. a)
      (λ t a same. drawn_not g site_kind.Logic (None ∷ given) logic j t l below a same)
      (λ t a same. kinds_apart g (None ∷ given) logic pads j t l p below a same)
      (λ b q. l.free j (suc b) below q) r)
  | inr n ↦
      let el' : cond false 1 0 + waiting is_logic given kinds ≤ length logic = rw n at el in
      let ep' : cond (not false) 1 0 + waiting is_pad given kinds ≤ length pads = rw n at ep in
      let h' : (j : ℕ) → i ≤ j → j < i + (cond false 1 0 + waiting is_logic given kinds + (cond (not false) 1 0 + waiting is_pad given kinds)) → word j < 2 ^ 32 = rw n at h in
      let some : 0 < length pads = omega (arith, ep') in
      let below : entry_of (word i) pads < length pads = pick_below (word i) (length pads) (h' i (omega arith) (omega arith)) some in
      let m = without_len pads (entry_of (word i) pads) some in
      let j = entry_of (word i) pads in
      let less = stock_without g site_kind.Pad (None ∷ given) pads j below p in
      let r = dealt g word (i + 1) logic (without pads j) given kinds (omega (arith, e)) (shared_tail None given shared) (stock_tail g site_kind.Logic None given logic l) (stock_tail g site_kind.Pad None given (without pads j) less) (omega (arith, el')) (omega (arith, ep', m)) (λ m lo hi. h' m (omega (arith, lo)) (omega (arith, hi))) in
      let mine : Among (site_of pads j) (cond (is_logic k) logic pads) = rw n (record { place = j; below = below; is = refl }) in
      rw n (dealt_drawn logic pads logic (without pads j) (site_of pads j) given k kinds (deal word (i + 1) logic (without pads j) given kinds) mine
      (λ t a. a) (λ t a. among_without pads j t below a)
      (λ t a same. kinds_apart g (None ∷ given) logic pads a.place (site_of pads j) l p a.below (record { place = j; below = below; is = refl }) (a.is ∙ sym same))
      (λ t a same. drawn_not g site_kind.Pad (None ∷ given) pads j t p below a same)
      (λ b q. p.free j (suc b) below q) r)
]

-- what is given

pub given_get : (d : Netlist) (fixed begun : List (Option Site)) (b : ℕ) → b < length d.kinds → slice_get (given_sites d fixed begun) b ≡ Some (given_at fixed begun b)
given_get d fixed begun b lt =
    let n = length-map-range_with_len (given_at fixed begun) 0 (length d.kinds) in
    slice_get-get_or (given_sites d fixed begun) b None (omega (arith, n, lt)) ∙ ap (λ x. Some x) (get_or-map-range_with_len (given_at fixed begun) 0 (length d.kinds) b b None lt (omega arith))

given_is : (d : Netlist) (fixed begun : List (Option Site)) (b : ℕ) (s : Site) → slice_get (given_sites d fixed begun) b ≡ Some (Some s) → (b < length d.kinds) × (given_at fixed begun b ≡ Some s)
given_is d fixed begun b s h =
    let n = length-map-range_with_len (given_at fixed begun) 0 (length d.kinds) in
    let lt : b < length d.kinds = omega (arith, n, slice_get_within (given_sites d fixed begun) b (Some s) h) in
    (lt, some_same (given_at fixed begun b) (Some s) (sym (given_get d fixed begun b lt) ∙ h))

logic_or_other : (g : GridShape) (s : Site) (c : Bool) → kind_at g s ≡ Some (cond c site_kind.Logic site_kind.Pad) → (c ≡ true) ⊎ ((other : SiteKind) × (kind_at g s ≡ Some other) × (Some other ≡ Some site_kind.Logic → ⊥))
logic_or_other g s true h = inl refl
logic_or_other g s false h = inr (site_kind.Pad, h, λ e. kinds_differ (sym e))

pad_or_other : (g : GridShape) (s : Site) (c : Bool) → kind_at g s ≡ Some (cond c site_kind.Logic site_kind.Pad) → (not c ≡ true) ⊎ ((other : SiteKind) × (kind_at g s ≡ Some other) × (Some other ≡ Some site_kind.Pad → ⊥))
pad_or_other g s true h = inr (site_kind.Logic, h, kinds_differ)
pad_or_other g s false h = inl refl

-- given sites fit their blocks
Fits_from : GridShape → (ℕ → Option Site) → ℕ → List BlockKind → Type 0
Fits_from g f a kinds = (b : ℕ) (s : Site) → b < length kinds → f (a + b) ≡ Some s → kind_at g s ≡ Some (cond (is_logic (slice_index_or kinds b Logic)) site_kind.Logic site_kind.Pad)

fits_tail : (g : GridShape) (f : ℕ → Option Site) (a : ℕ) (k : BlockKind) (kinds : List BlockKind) → Fits_from g f a (k ∷ kinds) → Fits_from g f (a + 1) kinds
unfolding Fits_from
fits_tail g f a k kinds h b s lt e = let same : a + 1 + b ≡ a + suc b = omega arith in h (suc b) s (omega (arith, lt)) (ap f (sym same) ∙ e)

fits_head : (g : GridShape) (f : ℕ → Option Site) (a : ℕ) (k : BlockKind) (kinds : List BlockKind) (s : Site) → Fits_from g f a (k ∷ kinds) → f a ≡ Some s → kind_at g s ≡ Some (cond (is_logic k) site_kind.Logic site_kind.Pad)
unfolding Fits_from
fits_head g f a k kinds s h e = let same : a + 0 ≡ a = omega arith in h 0 s (omega arith) (ap f same ∙ e)

fitting : (g : GridShape) (kind : SiteKind) (p : BlockKind → Bool) (f : ℕ → Option Site) (a : ℕ) (kinds : List BlockKind)
    → ((s : Site) (k : BlockKind) → kind_at g s ≡ Some (cond (is_logic k) site_kind.Logic site_kind.Pad) → (p k ≡ true) ⊎ ((other : SiteKind) × (kind_at g s ≡ Some other) × (Some other ≡ Some kind → ⊥)))
    → Fits_from g f a kinds → Fitting g kind p (map f (range_with_len a (length kinds))) kinds
fitting g kind p f a [] c h = tt
fitting g kind p f a (k ∷ kinds) c h = by_option (f a) refl (fitting g kind p f (a + 1) kinds c (fits_tail g f a k kinds h))
  where
    by_option : (o : Option Site) → f a ≡ o → Fitting g kind p (map f (range_with_len (a + 1) (length kinds))) kinds → Fitting g kind p (o ∷ map f (range_with_len (a + 1) (length kinds))) (k ∷ kinds)
    by_option None e rest = rest
    by_option (Some s) e rest = (c s k (fits_head g f a k kinds s h e), rest)

fits_all : (d : Netlist) (g : GridShape) (fixed begun : List (Option Site)) → ArePins d g fixed begun → Fits_from g (given_at fixed begun) 0 d.kinds
unfolding Fits_from
fits_all d g fixed begun pins b s lt e = let same : 0 + b ≡ b = omega arith in pins.fit b s (ap (given_at fixed begun) (sym same) ∙ e)

either_fixed : (o q : Option Site) (s : Site) → o ≡ Some s → either_site o q ≡ Some s
either_fixed o q s h = rw h refl

-- each block that draws finds a site
pub start_room : (d : Netlist) (g : GridShape) (fixed begun : List (Option Site)) → Holds g (logic_count d) (pad_count d) → ArePins d g fixed begun
    → (waiting is_logic (given_sites d fixed begun) d.kinds ≤ length (sites_left (given_sites d fixed begun) (logic_sites g))) × (waiting is_pad (given_sites d fixed begun) d.kinds ≤ length (sites_left (given_sites d fixed begun) (pad_sites g)))
start_room d g fixed begun room pins =
    let given = given_sites d fixed begun in
    let long : length given ≡ length d.kinds = length-map-range_with_len (given_at fixed begun) 0 (length d.kinds) in
    let ld = run_distinct g 0 (logic_sites g) (logic_run g) in
    let pd = run_distinct g (g.nx * g.ny) (pad_sites g) (pads_run g) in
    let lk = run_logic g 0 (logic_sites g) (omega (arith, logic_len g)) (logic_run g) in
    let pk = run_pad g (g.nx * g.ny) (pad_sites g) (omega arith) (pads_run g) in
    let fits = fits_all d g fixed begun pins in
    let lf = fitting g site_kind.Logic is_logic (given_at fixed begun) 0 d.kinds (λ s k e. logic_or_other g s (is_logic k) e) fits in
    let pf = fitting g site_kind.Pad is_pad (given_at fixed begun) 0 d.kinds (λ s k e. pad_or_other g s (is_logic k) e) fits in (
      enough g site_kind.Logic is_logic given d.kinds (logic_sites g) long ld lk lf (omega (arith, logic_len g, room.0)),
      enough g site_kind.Pad is_pad given d.kinds (pad_sites g) long pd pk pf (omega (arith, pads_length g, room.1)),
    )

-- what the sites of a start placement are
start_dealt : (d : Netlist) (g : GridShape) (fixed begun : List (Option Site)) (word : ℕ → ℕ) → Holds g (logic_count d) (pad_count d) → ArePins d g fixed begun → ((j : ℕ) → j < drawing (given_sites d fixed begun) d.kinds → word j < 2 ^ 32)
    → AreDealt (sites_left (given_sites d fixed begun) (logic_sites g)) (sites_left (given_sites d fixed begun) (pad_sites g)) (given_sites d fixed begun) d.kinds (start_sites d g fixed begun word)
start_dealt d g fixed begun word room pins h =
    let given = given_sites d fixed begun in
    let long : length given ≡ length d.kinds = length-map-range_with_len (given_at fixed begun) 0 (length d.kinds) in
    let ld = run_distinct g 0 (logic_sites g) (logic_run g) in
    let pd = run_distinct g (g.nx * g.ny) (pad_sites g) (pads_run g) in
    let lk = run_logic g 0 (logic_sites g) (omega (arith, logic_len g)) (logic_run g) in
    let pk = run_pad g (g.nx * g.ny) (pad_sites g) (omega arith) (pads_run g) in
    let enough = start_room d g fixed begun room pins in
    let shared : NoneShared given = λ a b s p q. pins.apart a b s (given_is d fixed begun a s p).1 (given_is d fixed begun b s q).1 in
    let l = stock_of g site_kind.Logic given (logic_sites g) ld lk in
    let p = stock_of g site_kind.Pad given (pad_sites g) pd pk in
    dealt g word 0 (sites_left given (logic_sites g)) (sites_left given (pad_sites g)) given d.kinds long shared l p enough.0 enough.1 (λ j lo hi. h j (omega (arith, hi)))

-- a given block is at its site
start_given : (d : Netlist) (g : GridShape) (fixed begun : List (Option Site)) (word : ℕ → ℕ) → Holds g (logic_count d) (pad_count d) → ArePins d g fixed begun → ((j : ℕ) → j < drawing (given_sites d fixed begun) d.kinds → word j < 2 ^ 32)
    → (b : ℕ) (s : Site) → given_at fixed begun b ≡ Some s → slice_get (start_sites d g fixed begun word) b ≡ Some s
start_given d g fixed begun word room pins h b s there =
    (start_dealt d g fixed begun word room pins h).kept b s (given_get d fixed begun b (pins.within b s there) ∙ ap (λ x. Some x) there)

pub start_legal : (d : Netlist) (g : GridShape) (fixed begun : List (Option Site)) (word : ℕ → ℕ) → Holds g (logic_count d) (pad_count d) → ArePins d g fixed begun → ((j : ℕ) → j < drawing (given_sites d fixed begun) d.kinds → word j < 2 ^ 32) → IsLegal d g fixed (start_sites d g fixed begun word)
start_legal d g fixed begun word room pins h =
    let given = given_sites d fixed begun in
    let ld = run_distinct g 0 (logic_sites g) (logic_run g) in
    let pd = run_distinct g (g.nx * g.ny) (pad_sites g) (pads_run g) in
    let lk = run_logic g 0 (logic_sites g) (omega (arith, logic_len g)) (logic_run g) in
    let pk = run_pad g (g.nx * g.ny) (pad_sites g) (omega arith) (pads_run g) in
    let l = stock_of g site_kind.Logic given (logic_sites g) ld lk in
    let p = stock_of g site_kind.Pad given (pad_sites g) pd pk in
    let r = start_dealt d g fixed begun word room pins h in
    record {
      all = r.long;
      fit = λ b lt. elim (r.from b lt) [
        | inl q ↦ pins.fit b _ (given_is d fixed begun b _ q).1
        | inr a ↦ kind_of_list g given (sites_left given (logic_sites g)) (sites_left given (pad_sites g)) (is_logic (slice_index_or d.kinds b Logic)) _ l p a
      ];
      apart = r.apart;
      stay = λ b s e. start_given d g fixed begun word room pins h b s (either_fixed (fixed_at fixed b) (fixed_at begun b) s e);
    }
  where
    kind_of_list : (g : GridShape) (given : List (Option Site)) (logic pads : List Site) (c : Bool) (t : Site) → IsStock g site_kind.Logic given logic → IsStock g site_kind.Pad given pads → Among t (cond c logic pads) → kind_at g t ≡ Some (cond c site_kind.Logic site_kind.Pad)
    kind_of_list g given logic pads true t l p a = ap (kind_at g) (sym a.is) ∙ l.kinds a.place a.below
    kind_of_list g given logic pads false t l p a = ap (kind_at g) (sym a.is) ∙ p.kinds a.place a.below

not_fixed : (fixed begun : Option Site) (s : Site) → (is_some fixed ≡ true → begun ≡ None) → begun ≡ Some s → either_site fixed begun ≡ Some s
not_fixed None begun s once h = h
not_fixed (Some f) begun s once h = absurd (none_some s (sym (once refl) ∙ h))

-- a begun block is at its site
pub start_begun : (d : Netlist) (g : GridShape) (fixed begun : List (Option Site)) (word : ℕ → ℕ) → Holds g (logic_count d) (pad_count d) → ArePins d g fixed begun → ((j : ℕ) → j < drawing (given_sites d fixed begun) d.kinds → word j < 2 ^ 32)
    → (b : ℕ) (s : Site) → fixed_at begun b ≡ Some s → slice_get (start_sites d g fixed begun word) b ≡ Some s
start_begun d g fixed begun word room pins h b s e = start_given d g fixed begun word room pins h b s (not_fixed (fixed_at fixed b) (fixed_at begun b) s (pins.once b) e)

pub given_long : (d : Netlist) (fixed begun : List (Option Site)) → length (given_sites d fixed begun) ≡ length d.kinds
given_long d fixed begun = length-map-range_with_len (given_at fixed begun) 0 (length d.kinds)

-- a placement that is legal for fixed blocks is legal where none is fixed
pub legal_free : (d : Netlist) (g : GridShape) (fixed : List (Option Site)) (sites : List Site) → IsLegal d g fixed sites → IsLegal d g [] sites
legal_free d g fixed sites h = record { all = h.all; fit = h.fit; apart = h.apart; stay = λ b s k. absurd (none_some s k) }
