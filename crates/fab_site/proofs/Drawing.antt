-- The loops that make a start placement, one turn on.
use Rattle.std.proofs.Common.{◌≡◌, ◌≢◌, ℕ, ◌+◌, ◌*◌, ◌^◌, ◌<◌, ◌≤◌, Bool, true, false, not, cond, ltb, List, [], ◌∷◌, ◌++◌, Option, Some, None, length, map, get_or, set, take, drop, replicate, zero, suc, refl, sym, ap, ◌∙◌, inl, inr, arith}
use Rattle.std.specs.Prelude.{slice_get, is_some, filter}
use Rattle.std.specs.List.{range_with_len, flat_map}
use Rattle.std.proofs.lemmas.Bool.{cases_Bool, cases_eq, false≢true, ltb-true}
use Rattle.std.proofs.lemmas.Bool.Decides.{nat_tests}
use Rattle.std.proofs.lemmas.List.{append-nil, append_assoc, length-take, map-append, length-set, length-replicate, take_more, ext_get_or}
use Rattle.std.proofs.lemmas.List.Elements.{filter-append}
use Rattle.std.proofs.lemmas.List.FromFn.{length-map-range_with_len, get_or-map-range_with_len}
use Rattle.std.proofs.lemmas.Option.{slice_get-get_or, slice_get_within}
use Rattle.std.proofs.lemmas.Grind.{flat_map-append}
use Rattle.std.proofs.lemmas.List.Sums.{length-filter, count_by-le-length}
use Rattle.std.proofs.Math.Nat.{mul-le-mul_right}
use Rattle.fab_arch.specs.declared.array.Site.{Site}
use Rattle.fab_arch.specs.Grid.{GridShape, perimeter}
use Rattle.fab_net.specs.declared.netlist_types.BlockKind.{BlockKind}
use Rattle.fab_net.specs.Netlist.{Netlist, is_logic}
use Rattle.fab_site.specs.Placement.{site, same_site, site_of}
use Rattle.fab_site.specs.Draft.{holder_from, holder_of}
use Rattle.fab_site.specs.Pins.{given_at}
use Rattle.fab_site.specs.Start.{given_sites, sites_left, entry_of, without, deal, waiting, is_pad, drawing}
use Rattle.fab_site.proofs.Tables.{same_is}
use Rattle.fab_site.proofs.Drafting.{get_set_same, get_set_other}
use Rattle.fab_arch.proofs.Perimeter.{perimeter_len}
use Rattle.fab_site.proofs.AllSites.{row, pads_at, rows_len, pads_len}
use Rattle.fab_site.proofs.Stock.{without_len}

none_some : {X : Type 0} (x : X) → None ≡ Some x → ⊥
none_some x h = cc

pub some_none : {X : Type 0} (x : X) → Some x ≡ None → ⊥
some_none x h = cc

some_same : {X : Type 0} (x y : X) → Some x ≡ Some y → x ≡ y
some_same x y h = cc

-- lists of sites that are left

range_push : (a n : ℕ) → range_with_len a (n + 1) ≡ range_with_len a n ++ (a + n) ∷ []
range_push a zero = let e : a + 0 ≡ a = omega arith in rw e refl
range_push a (suc n) =
    let e : a + 1 + n ≡ a + suc n = omega arith in
    let f : suc n + 1 ≡ suc (n + 1) = omega arith in
    rw (f, ← e) (ap (λ xs. a ∷ xs) (range_push (a + 1) n))

-- one more site
pub left_step : (given : List (Option Site)) (f : ℕ → Site) (a n : ℕ) (start old new : List Site) → old ≡ start ++ sites_left given (map f (range_with_len a n)) → new ≡ old ++ sites_left given (f (a + n) ∷ []) → new ≡ start ++ sites_left given (map f (range_with_len a (n + 1)))
left_step given f a n start old new h k =
    let test : Site → Bool = λ s. not (is_some (holder_of given s)) in
    let more : map f (range_with_len a (n + 1)) ≡ map f (range_with_len a n) ++ f (a + n) ∷ [] = ap (map f) (range_push a n) ∙ map-append f (range_with_len a n) ((a + n) ∷ []) in
    k ∙ ap (λ xs. xs ++ filter test (f (a + n) ∷ [])) h ∙ append_assoc start (filter test (map f (range_with_len a n))) (filter test (f (a + n) ∷ []))
    ∙ ap (λ xs. start ++ xs) (sym (ap (filter test) more ∙ filter-append test (map f (range_with_len a n)) (f (a + n) ∷ [])))

-- the sites of one more row, or of one more position
rows_step : {X : Type 0} (given : List (Option Site)) (f : X → List Site) (xs : List X) (x : X) (old new : List Site) → old ≡ sites_left given (flat_map f xs) → new ≡ old ++ sites_left given (f x) → new ≡ sites_left given (flat_map f (xs ++ x ∷ []))
rows_step given f xs x old new h k =
    let test : Site → Bool = λ s. not (is_some (holder_of given s)) in
    let more : flat_map f (xs ++ x ∷ []) ≡ flat_map f xs ++ f x = flat_map-append f xs (x ∷ []) ∙ ap (λ ys. flat_map f xs ++ ys) (append-nil (f x)) in
    k ∙ ap (λ ys. ys ++ filter test (f x)) h ∙ sym (ap (filter test) more ∙ filter-append test (flat_map f xs) (f x))

pub row_step : (given : List (Option Site)) (f : ℕ → List Site) (a n : ℕ) (old new : List Site) → old ≡ sites_left given (flat_map f (range_with_len a n)) → new ≡ old ++ sites_left given (f (a + n)) → new ≡ sites_left given (flat_map f (range_with_len a (n + 1)))
row_step given f a n old new h k = let test : Site → Bool = λ s. not (is_some (holder_of given s)) in rows_step given f (range_with_len a n) (a + n) old new h k ∙ ap (λ xs. filter test (flat_map f xs)) (sym (range_push a n))

pub position_step : (given : List (Option Site)) (f : ℕ × ℕ → List Site) (ps : List (ℕ × ℕ)) (i : ℕ) (at : ℕ × ℕ) (old new : List Site) → slice_get ps i ≡ Some at → old ≡ sites_left given (flat_map f (take i ps)) → new ≡ old ++ sites_left given (f at) → new ≡ sites_left given (flat_map f (take (i + 1) ps))
position_step given f ps i at old new there h k =
    let test : Site → Bool = λ s. not (is_some (holder_of given s)) in
    let lt = slice_get_within ps i at there in
    let is : get_or ps i at ≡ at = some_same (get_or ps i at) at (sym (slice_get-get_or ps i at lt) ∙ there) in
    rows_step given f (take i ps) at old new h k ∙ ap (λ xs. filter test (flat_map f xs)) (sym (take_more ps i at lt ∙ ap (λ x. take i ps ++ x ∷ []) is))

-- so few that their numbers fit 32 bits

left_less : (given : List (Option Site)) (xs : List Site) → length (sites_left given xs) ≤ length xs
left_less given xs = let test : Site → Bool = λ s. not (is_some (holder_of given s)) in omega (arith, length-filter test xs, count_by-le-length test xs)

pub few_rows : (g : GridShape) (given : List (Option Site)) (n : ℕ) (left : List Site) → left ≡ sites_left given (flat_map (row g) (range_with_len 1 n)) → n ≤ 1000 → g.nx ≤ 1000 → length left < 2 ^ 32
few_rows g given n left h a b =
    let room : n * g.nx ≤ 1000 * g.nx = mul-le-mul_right g.nx a in
    rw h (omega (arith, left_less given (flat_map (row g) (range_with_len 1 n)), rows_len g 1 n, room, b))

pub few_pads : (g : GridShape) (given : List (Option Site)) (i : ℕ) (left : List Site) → left ≡ sites_left given (flat_map (pads_at g) (take i (perimeter g))) → g.nx ≤ 1000 → g.ny ≤ 1000 → g.io_rat ≤ 64 → length left < 2 ^ 32
few_pads g given i left h a b c =
    let ps = take i (perimeter g) in
    let short : length ps ≤ 4000 = omega (arith, length-take i (perimeter g), perimeter_len g, a, b) in
    let room : length ps * g.io_rat ≤ 4000 * g.io_rat = mul-le-mul_right g.io_rat short in
    rw h (omega (arith, left_less given (flat_map (pads_at g) ps), pads_len g ps, room, c))

-- blocks that are given

-- the first blocks have their given sites, the others have none yet
pub record AreGiven (f : ℕ → Option Site) (n i : ℕ) (sites : List (Option Site)) : Type 0 where
  pub long : length sites ≡ n
  pub before : (b : ℕ) → b < i → b < n → slice_get sites b ≡ Some (f b)
  pub after : (b : ℕ) → i ≤ b → b < n → slice_get sites b ≡ Some None

get_none : (n b : ℕ) (o : Option Site) → o ≡ None → b < n → slice_get (replicate n None) b ≡ Some o
get_none zero b o e h = absurd (omega arith)
get_none (suc n) zero o e h = ap (λ x. Some x) (sym e)
get_none (suc n) (suc b) o e h = get_none n b o e (omega arith)

pub none_given : (f : ℕ → Option Site) (n : ℕ) → AreGiven f n 0 (replicate n None)
none_given f n = record { long = length-replicate n None; before = λ b lt below. absurd (omega arith); after = λ b le lt. get_none n b None refl lt }

pub one_given : (f : ℕ → Option Site) (n i : ℕ) (sites : List (Option Site)) (s : Site) → i < n → f i ≡ Some s → AreGiven f n i sites → AreGiven f n (i + 1) (set sites i (Some s))
one_given f n i sites s lt e g =
    record {
      long = length-set sites i (Some s) ∙ g.long;
      before = before;
      after = λ b le below. let other : b ≢ i = λ k. omega (arith, k, le) in get_set_other sites i b (Some s) other ∙ g.after b (omega arith) below;
    }
  where
    before : (b : ℕ) → b < i + 1 → b < n → slice_get (set sites i (Some s)) b ≡ Some (f b)
    before b h below = elim (cases_eq b i) [
      | inl k ↦ ap (slice_get (set sites i (Some s))) k ∙ get_set_same sites i None (Some s) (g.after i (omega arith) lt) ∙ ap (λ x. Some x) (sym (ap f k ∙ e))
      | inr k ↦ get_set_other sites i b (Some s) k ∙ g.before b (omega (arith, h, k)) below
    ]

pub not_given : (f : ℕ → Option Site) (n i : ℕ) (sites : List (Option Site)) → i < n → f i ≡ None → AreGiven f n i sites → AreGiven f n (i + 1) sites
not_given f n i sites lt e g = record { long = g.long; before = before; after = λ b le below. g.after b (omega arith) below }
  where
    before : (b : ℕ) → b < i + 1 → b < n → slice_get sites b ≡ Some (f b)
    before b h below = elim (cases_eq b i) [
      | inl k ↦ ap (slice_get sites) k ∙ g.after i (omega arith) lt ∙ ap (λ x. Some x) (sym (ap f k ∙ e))
      | inr k ↦ g.before b (omega (arith, h, k)) below
    ]

nobody : (n : ℕ) (sites : List (Option Site)) (s : Site) → ((b : ℕ) → slice_get sites b ≡ Some (Some s) → ⊥) → holder_from n sites s ≡ None
nobody n [] s h = refl
nobody n (None ∷ sites) s h = nobody (n + 1) sites s (λ b k. h (suc b) k)
nobody n (Some t ∷ sites) s h = elim (cases_Bool (same_site t s)) [
  | inl y ↦ absurd (h 0 (ap (λ x. Some (Some x)) (same_is t s y)))
  | inr k ↦ rw k (nobody (n + 1) sites s (λ b k. h (suc b) k))
]

-- a site of the next given block is still free
pub still_free : (f : ℕ → Option Site) (n i : ℕ) (sites : List (Option Site)) (s : Site) → i < n → f i ≡ Some s → ((a b : ℕ) → f a ≡ Some s → f b ≡ Some s → a ≡ b) → AreGiven f n i sites → holder_of sites s ≡ None
still_free f n i sites s lt e apart g = nobody 0 sites s (λ b h.
    let below : b < n = omega (arith, slice_get_within sites b (Some s) h, g.long) in
    elim (cases_Bool (ltb b i)) [
      | inl y ↦
          let less : b < i = ltb-true b i y in
          let there : f b ≡ Some s = some_same (f b) (Some s) (sym (g.before b less below) ∙ h) in
          omega (arith, apart b i there e, less)
      | inr k ↦ none_some s (some_same None (Some s) (sym (g.after b (not_below b i k) below) ∙ h))
    ])
  where
    not_below : (b i : ℕ) → ltb b i ≡ false → i ≤ b
    not_below b i h = grind (arith, nat_tests)

pub all_given : (d : Netlist) (fixed begun : List (Option Site)) (n : ℕ) (sites : List (Option Site)) → n ≡ length d.kinds → AreGiven (given_at fixed begun) n n sites → sites ≡ given_sites d fixed begun
all_given d fixed begun n sites e g =
    let m = length-map-range_with_len (given_at fixed begun) 0 (length d.kinds) in
    ext_get_or None sites (given_sites d fixed begun) (omega (arith, g.long, m, e)) (λ i lt.
    let below : i < n = omega (arith, lt, g.long) in
    some_same (get_or sites i None) (given_at fixed begun i) (sym (slice_get-get_or sites i None lt) ∙ g.before i below below)
    ∙ sym (get_or-map-range_with_len (given_at fixed begun) 0 (length d.kinds) i i None (omega (arith, below, e)) (omega arith)))

-- blocks that draw

drop_get : {X : Type 0} (xs : List X) (b : ℕ) (x : X) → slice_get xs b ≡ Some x → drop b xs ≡ x ∷ drop (b + 1) xs
drop_get [] b x h = absurd (none_some x h)
drop_get (y ∷ xs) zero x h = ap (λ v. v ∷ xs) (some_same y x h)
drop_get (y ∷ xs) (suc b) x h = let e : suc b + 1 ≡ suc (b + 1) = omega arith in rw e (drop_get xs b x h)

drop_past : {X : Type 0} (xs : List X) (b : ℕ) → length xs ≤ b → drop b xs ≡ []
drop_past [] zero h = refl
drop_past [] (suc b) h = refl
drop_past (x ∷ xs) zero h = absurd (omega arith)
drop_past (x ∷ xs) (suc b) h = drop_past xs b (omega arith)

-- the first blocks have their sites, and the others draw from what is left
pub record Drawing (word : ℕ → ℕ) (whole : List Site) (given : List (Option Site)) (kinds : List BlockKind) (b drawn : ℕ) (logic pads sites : List Site) : Type 0 where
  pub so_far : sites ++ deal word drawn logic pads (drop b given) (drop b kinds) ≡ whole
  pub logic_enough : waiting is_logic (drop b given) (drop b kinds) ≤ length logic
  pub pads_enough : waiting is_pad (drop b given) (drop b kinds) ≤ length pads
  pub count : drawn + drawing (drop b given) (drop b kinds) ≡ drawing given kinds
  pub few : drawn ≤ b
  pub words : (j : ℕ) → j < drawn → word j < 2 ^ 32
  pub logic_few : length logic < 2 ^ 32
  pub pads_few : length pads < 2 ^ 32

pub no_turn : (word : ℕ → ℕ) (given : List (Option Site)) (kinds : List BlockKind) (logic pads : List Site) → waiting is_logic given kinds ≤ length logic → waiting is_pad given kinds ≤ length pads → length logic < 2 ^ 32 → length pads < 2 ^ 32 → Drawing word (deal word 0 logic pads given kinds) given kinds 0 0 logic pads []
no_turn word given kinds logic pads el ep fl fp = record { so_far = refl; logic_enough = el; pads_enough = ep; count = omega arith; few = omega arith; words = λ j lt. absurd (omega arith); logic_few = fl; pads_few = fp }

kind_there : (kinds : List BlockKind) (b : ℕ) (given : List (Option Site)) → length given ≡ length kinds → b < length given → (k : BlockKind) × (slice_get kinds b ≡ Some k)
kind_there [] b given e lt = absurd (omega (arith, e))
kind_there (k ∷ kinds) zero given e lt = (k, refl)
kind_there (k ∷ kinds) (suc b) [] e lt = absurd (omega arith)
kind_there (k ∷ kinds) (suc b) (o ∷ given) e lt = kind_there kinds b given (omega (arith, e)) (omega arith)

-- one more block is looked at, which draws or not
pub draws_more : (given : List (Option Site)) (kinds : List BlockKind) (b count : ℕ) → length given ≡ length kinds → slice_get given b ≡ Some None → count + drawing (drop b given) (drop b kinds) ≡ drawing given kinds
    → count + 1 + drawing (drop (b + 1) given) (drop (b + 1) kinds) ≡ drawing given kinds
draws_more given kinds b count e h c =
    let k = kind_there kinds b given e (slice_get_within given b None h) in
    let all : count + (cond (is_logic k.0) 1 0 + waiting is_logic (drop (b + 1) given) (drop (b + 1) kinds) + (cond (is_pad k.0) 1 0 + waiting is_pad (drop (b + 1) given) (drop (b + 1) kinds))) ≡ drawing given kinds = rw (drop_get given b None h, drop_get kinds b k.0 k.1) at c in
    let one = either (is_logic k.0) in
    omega (arith, all, one)
  where
    either : (x : Bool) → cond x 1 0 + cond (not x) 1 0 ≡ 1
    either true = refl
    either false = refl

pub draws_as_many : (given : List (Option Site)) (kinds : List BlockKind) (b count : ℕ) (s : Site) → length given ≡ length kinds → slice_get given b ≡ Some (Some s) → count + drawing (drop b given) (drop b kinds) ≡ drawing given kinds
    → count + drawing (drop (b + 1) given) (drop (b + 1) kinds) ≡ drawing given kinds
draws_as_many given kinds b count s e h c =
    let k = kind_there kinds b given e (slice_get_within given b (Some s) h) in
    rw (drop_get given b (Some s) h, drop_get kinds b k.0 k.1) at c

pub draws_none_left : (given : List (Option Site)) (kinds : List BlockKind) (b count : ℕ) → length given ≡ length kinds → length kinds ≤ b → count + drawing (drop b given) (drop b kinds) ≡ drawing given kinds → count ≡ drawing given kinds
draws_none_left given kinds b count e h c =
    let g : drop b given ≡ [] = drop_past given b (omega (arith, e, h)) in
    let d : count + drawing [] (drop b kinds) ≡ drawing given kinds = rw g at c in
    omega (arith, d)

-- a block that draws has a word
pub draws_within : (given : List (Option Site)) (kinds : List BlockKind) (b drawn : ℕ) → length given ≡ length kinds → slice_get given b ≡ Some None → drawn + drawing (drop b given) (drop b kinds) ≡ drawing given kinds → drawn < drawing given kinds
draws_within given kinds b drawn e h c = omega (arith, draws_more given kinds b drawn e h c)

-- a given block
pub turn_given : (word : ℕ → ℕ) (whole : List Site) (given : List (Option Site)) (kinds : List BlockKind) (b drawn : ℕ) (logic pads sites : List Site) (s : Site) → length given ≡ length kinds → slice_get given b ≡ Some (Some s)
    → Drawing word whole given kinds b drawn logic pads sites → Drawing word whole given kinds (b + 1) drawn logic pads (sites ++ s ∷ [])
turn_given word whole given kinds b drawn logic pads sites s e h t =
    let k = kind_there kinds b given e (slice_get_within given b (Some s) h) in
    let g : drop b given ≡ Some s ∷ drop (b + 1) given = drop_get given b (Some s) h in
    let n : drop b kinds ≡ k.0 ∷ drop (b + 1) kinds = drop_get kinds b k.0 k.1 in
    let so_far : sites ++ s ∷ deal word drawn logic pads (drop (b + 1) given) (drop (b + 1) kinds) ≡ whole = rw (g, n) at t.so_far in
    let el : waiting is_logic (drop (b + 1) given) (drop (b + 1) kinds) ≤ length logic = rw (g, n) at t.logic_enough in
    let ep : waiting is_pad (drop (b + 1) given) (drop (b + 1) kinds) ≤ length pads = rw (g, n) at t.pads_enough in
    let count : drawn + drawing (drop (b + 1) given) (drop (b + 1) kinds) ≡ drawing given kinds = rw (g, n) at t.count in
    record {
      so_far = append_assoc sites (s ∷ []) (deal word drawn logic pads (drop (b + 1) given) (drop (b + 1) kinds)) ∙ so_far;
      logic_enough = el;
      pads_enough = ep;
      count = count;
      few = omega (arith, t.few);
      words = t.words;
      logic_few = t.logic_few;
      pads_few = t.pads_few;
    }

last_word : (word : ℕ → ℕ) (drawn : ℕ) → ((j : ℕ) → j < drawn → word j < 2 ^ 32) → word drawn < 2 ^ 32 → (j : ℕ) → j < drawn + 1 → word j < 2 ^ 32
last_word word drawn h k j lt = elim (cases_eq j drawn) [ inl e ↦ rw e k | inr n ↦ h j (omega (arith, n)) ]

pub not_pad : (b : Bool) → not b ≡ true → b ≡ false
not_pad true h = absurd (false≢true h)
not_pad false h = refl

-- a logic block draws
pub logic_some : (word : ℕ → ℕ) (whole : List Site) (given : List (Option Site)) (kinds : List BlockKind) (b drawn : ℕ) (logic pads sites : List Site) (k : BlockKind) → slice_get given b ≡ Some None → slice_get kinds b ≡ Some k → is_logic k ≡ true
    → Drawing word whole given kinds b drawn logic pads sites → 0 < length logic
logic_some word whole given kinds b drawn logic pads sites k h e is t =
    let el : cond true 1 0 + waiting is_logic (drop (b + 1) given) (drop (b + 1) kinds) ≤ length logic = rw (drop_get given b None h, drop_get kinds b k e, is) at t.logic_enough in
    omega (arith, el)

pub turn_logic : (word : ℕ → ℕ) (whole : List Site) (given : List (Option Site)) (kinds : List BlockKind) (b drawn : ℕ) (logic pads sites : List Site) (k : BlockKind) (s : Site) (less : List Site) → slice_get given b ≡ Some None → slice_get kinds b ≡ Some k → is_logic k ≡ true → word drawn < 2 ^ 32
    → s ≡ site_of logic (entry_of (word drawn) logic) → less ≡ without logic (entry_of (word drawn) logic) → Drawing word whole given kinds b drawn logic pads sites → Drawing word whole given kinds (b + 1) (drawn + 1) less pads (sites ++ s ∷ [])
turn_logic word whole given kinds b drawn logic pads sites k s less h e is small site rest t =
    let g : drop b given ≡ None ∷ drop (b + 1) given = drop_get given b None h in
    let n : drop b kinds ≡ k ∷ drop (b + 1) kinds = drop_get kinds b k e in
    let j = entry_of (word drawn) logic in
    let so_far : sites ++ site_of logic j ∷ deal word (drawn + 1) (without logic j) pads (drop (b + 1) given) (drop (b + 1) kinds) ≡ whole = rw (g, n, is) at t.so_far in
    let el : cond true 1 0 + waiting is_logic (drop (b + 1) given) (drop (b + 1) kinds) ≤ length logic = rw (g, n, is) at t.logic_enough in
    let ep : cond (not true) 1 0 + waiting is_pad (drop (b + 1) given) (drop (b + 1) kinds) ≤ length pads = rw (g, n, is) at t.pads_enough in
    let count : drawn + (cond true 1 0 + waiting is_logic (drop (b + 1) given) (drop (b + 1) kinds) + (cond (not true) 1 0 + waiting is_pad (drop (b + 1) given) (drop (b + 1) kinds))) ≡ drawing given kinds = rw (g, n, is) at t.count in
    let m = without_len logic j (omega (arith, el)) in
    let few = t.logic_few in
    rw (site, rest) (record {
      so_far = append_assoc sites (site_of logic j ∷ []) (deal word (drawn + 1) (without logic j) pads (drop (b + 1) given) (drop (b + 1) kinds)) ∙ so_far;
      logic_enough = omega (arith, el, m);
      pads_enough = omega (arith, ep);
      count = omega (arith, count);
      few = omega (arith, t.few);
      words = last_word word drawn t.words small;
      logic_few = omega (arith, m, few);
      pads_few = t.pads_few;
    })

-- a pad draws
pub pads_some : (word : ℕ → ℕ) (whole : List Site) (given : List (Option Site)) (kinds : List BlockKind) (b drawn : ℕ) (logic pads sites : List Site) (k : BlockKind) → slice_get given b ≡ Some None → slice_get kinds b ≡ Some k → is_logic k ≡ false
    → Drawing word whole given kinds b drawn logic pads sites → 0 < length pads
pads_some word whole given kinds b drawn logic pads sites k h e is t =
    let ep : cond (not false) 1 0 + waiting is_pad (drop (b + 1) given) (drop (b + 1) kinds) ≤ length pads = rw (drop_get given b None h, drop_get kinds b k e, is) at t.pads_enough in
    omega (arith, ep)

pub turn_pad : (word : ℕ → ℕ) (whole : List Site) (given : List (Option Site)) (kinds : List BlockKind) (b drawn : ℕ) (logic pads sites : List Site) (k : BlockKind) (s : Site) (less : List Site) → slice_get given b ≡ Some None → slice_get kinds b ≡ Some k → is_logic k ≡ false → word drawn < 2 ^ 32
    → s ≡ site_of pads (entry_of (word drawn) pads) → less ≡ without pads (entry_of (word drawn) pads) → Drawing word whole given kinds b drawn logic pads sites → Drawing word whole given kinds (b + 1) (drawn + 1) logic less (sites ++ s ∷ [])
turn_pad word whole given kinds b drawn logic pads sites k s less h e is small site rest t =
    let g : drop b given ≡ None ∷ drop (b + 1) given = drop_get given b None h in
    let n : drop b kinds ≡ k ∷ drop (b + 1) kinds = drop_get kinds b k e in
    let j = entry_of (word drawn) pads in
    let so_far : sites ++ site_of pads j ∷ deal word (drawn + 1) logic (without pads j) (drop (b + 1) given) (drop (b + 1) kinds) ≡ whole = rw (g, n, is) at t.so_far in
    let el : cond false 1 0 + waiting is_logic (drop (b + 1) given) (drop (b + 1) kinds) ≤ length logic = rw (g, n, is) at t.logic_enough in
    let ep : cond (not false) 1 0 + waiting is_pad (drop (b + 1) given) (drop (b + 1) kinds) ≤ length pads = rw (g, n, is) at t.pads_enough in
    let count : drawn + (cond false 1 0 + waiting is_logic (drop (b + 1) given) (drop (b + 1) kinds) + (cond (not false) 1 0 + waiting is_pad (drop (b + 1) given) (drop (b + 1) kinds))) ≡ drawing given kinds = rw (g, n, is) at t.count in
    let m = without_len pads j (omega (arith, ep)) in
    let few = t.pads_few in
    rw (site, rest) (record {
      so_far = append_assoc sites (site_of pads j ∷ []) (deal word (drawn + 1) logic (without pads j) (drop (b + 1) given) (drop (b + 1) kinds)) ∙ so_far;
      logic_enough = omega (arith, el);
      pads_enough = omega (arith, ep, m);
      count = omega (arith, count);
      few = omega (arith, t.few);
      words = last_word word drawn t.words small;
      logic_few = t.logic_few;
      pads_few = omega (arith, m, few);
    })

-- all blocks have their sites
pub all_dealt : (word : ℕ → ℕ) (whole : List Site) (given : List (Option Site)) (kinds : List BlockKind) (b drawn : ℕ) (logic pads sites : List Site) → length kinds ≤ b → length given ≡ length kinds → Drawing word whole given kinds b drawn logic pads sites
    → (sites ≡ whole) × ((j : ℕ) → j < drawing given kinds → word j < 2 ^ 32)
all_dealt word whole given kinds b drawn logic pads sites le e t =
    let g : drop b given ≡ [] = drop_past given b (omega (arith, le, e)) in
    let so_far : sites ++ [] ≡ whole = rw g at t.so_far in
    let count : drawn + (0 + 0) ≡ drawing given kinds = rw g at t.count in
    (sym (append-nil sites) ∙ so_far, λ j lt. t.words j (omega (arith, lt, count)))
