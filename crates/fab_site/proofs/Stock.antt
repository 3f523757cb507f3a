-- The sites that are left for blocks to draw from: of one kind, no two alike, none given, and enough of them.
use Rattle.std.proofs.Common.{◌≡◌, ◌≢◌, ℕ, ◌+◌, ◌-◌, ◌*◌, ◌^◌, ◌<◌, ◌≤◌, Bool, true, false, not, cond, ◌||◌, ◌⊎◌, List, [], ◌∷◌, Option, Some, None, length, set, zero, suc, refl, sym, ap, ◌∙◌, inl, inr, arith}
use Rattle.std.specs.Prelude.{slice_get, is_some, filter}
use Rattle.std.specs.List.{list_any, count_by, AllByRecursion}
use Rattle.std.proofs.lemmas.Bool.{cases_Bool, cases_eq, false≢true}
use Rattle.std.proofs.lemmas.List.{length-set, length-take-le, get_or-take, get_or-set_same, get_or-set_other}
use Rattle.std.proofs.lemmas.List.Sums.{sum_by-cons, length-filter}
use Rattle.std.proofs.lemmas.List.Filters.{length-filter_both}
use Rattle.std.proofs.Math.Nat.{div-lt_iff_lt-mul, mul-lt-mul_of_pos_left}
use Rattle.fab_arch.specs.declared.array.Site.{Site}
use Rattle.fab_arch.specs.declared.array.SiteKind.{SiteKind}
use Rattle.fab_arch.specs.Grid.{GridShape, kind_at}
use Rattle.fab_net.specs.declared.netlist_types.BlockKind.{BlockKind}
use Rattle.fab_site.specs.Placement.{nowhere, same_site, site_of, AreApart}
use Rattle.fab_site.specs.Draft.{is_site, holder_from, holder_of}
use Rattle.fab_site.specs.Words.{pick_of}
use Rattle.fab_site.specs.Start.{sites_left, without, waiting}
use Rattle.fab_site.proofs.Tables.{same_is, itself}
use Rattle.fab_site.proofs.Drafting.{held_by}
use Rattle.fab_site.proofs.AllSites.{Distinct}

-- filtering

any_kept : (p q : Site → Bool) (xs : List Site) → list_any p xs ≡ false → list_any p (filter q xs) ≡ false
any_kept p q [] h = refl
any_kept p q (x ∷ xs) h = elim (cases_Bool (p x)) [
  | inl k ↦ let t : true ≡ false = rw k at h in absurd (false≢true (sym t))
  | inr k ↦
      let rest : list_any p xs ≡ false = rw k at h in
      elim (cases_Bool (q x)) [ inl y ↦ rw (y, k) (any_kept p q xs rest) | inr n ↦ rw n (any_kept p q xs rest) ]
]

distinct_filter : (q : Site → Bool) (xs : List Site) → Distinct xs → Distinct (filter q xs)
distinct_filter q [] h = tt
distinct_filter q (x ∷ xs) h = elim (cases_Bool (q x)) [
  | inl y ↦ rw y (any_kept (same_site x) q xs h.0, distinct_filter q xs h.1)
  | inr n ↦ rw n (distinct_filter q xs h.1)
]

all_filter : (P : Site → Type 0) (q : Site → Bool) (xs : List Site) → AllByRecursion P xs → AllByRecursion P (filter q xs)
all_filter P q [] h = tt
all_filter P q (x ∷ xs) h = elim (cases_Bool (q x)) [
  | inl y ↦ rw y (h.0, all_filter P q xs h.1)
  | inr n ↦ rw n (all_filter P q xs h.1)
]

all_pass : (q : Site → Bool) (xs : List Site) → AllByRecursion (λ s. q s ≡ true) (filter q xs)
all_pass q [] = tt
all_pass q (x ∷ xs) = elim (cases_Bool (q x)) [ inl y ↦ rw y (y, all_pass q xs) | inr n ↦ rw n (all_pass q xs) ]

all_at : (P : Site → Type 0) (xs : List Site) (i : ℕ) → i < length xs → AllByRecursion P xs → P (site_of xs i)
all_at P [] i lt h = absurd (omega arith)
all_at P (x ∷ xs) zero lt h = h.0
all_at P (x ∷ xs) (suc i) lt h = all_at P xs i (omega arith) h.1

any_here : (s : Site) (xs : List Site) (i : ℕ) → i < length xs → s ≡ site_of xs i → list_any (same_site s) xs ≡ true
any_here s [] i lt e = absurd (omega arith)
any_here s (x ∷ xs) zero lt e = let y : same_site s x ≡ true = ap (same_site s) (sym e) ∙ itself s in rw y refl
any_here s (x ∷ xs) (suc i) lt e = rw (any_here s xs i (omega arith) e) (or_true (same_site s x))
  where
    or_true : (b : Bool) → (b || true) ≡ true
    or_true true = refl
    or_true false = refl

apart_of : (xs : List Site) → Distinct xs → AreApart xs
apart_of [] h a b la lb e = absurd (omega arith)
apart_of (x ∷ xs) h zero zero la lb e = refl
apart_of (x ∷ xs) h zero (suc b) la lb e = absurd (false≢true (sym h.0 ∙ any_here x xs b (omega arith) e))
apart_of (x ∷ xs) h (suc a) zero la lb e = absurd (false≢true (sym h.0 ∙ any_here x xs a (omega arith) (sym e)))
apart_of (x ∷ xs) h (suc a) (suc b) la lb e = ap suc (apart_of xs h.1 a b (omega arith) (omega arith) e)

-- a list of sites to draw from
pub record IsStock (g : GridShape) (kind : SiteKind) (given : List (Option Site)) (left : List Site) : Type 0 where
  pub kinds : (i : ℕ) → i < length left → kind_at g (site_of left i) ≡ Some kind
  pub apart : AreApart left
  pub free : (i b : ℕ) → i < length left → slice_get given b ≡ Some (Some (site_of left i)) → ⊥

nobody : (o : Bool) (p : Bool) → not p ≡ true → p ≡ false
nobody o true h = absurd (false≢true h)
nobody o false h = refl

none_of : {X : Type 0} (o : Option X) → is_some o ≡ false → o ≡ None
none_of None h = refl
none_of (Some x) h = absurd (false≢true (sym h))

pub stock_of : (g : GridShape) (kind : SiteKind) (given : List (Option Site)) (xs : List Site) → Distinct xs → AllByRecursion (λ s. kind_at g s ≡ Some kind) xs → IsStock g kind given (sites_left given xs)
stock_of g kind given xs distinct kinds =
    let test : Site → Bool = λ s. not (is_some (holder_of given s)) in
    record {
      kinds = λ i lt. all_at (λ s. kind_at g s ≡ Some kind) (filter test xs) i lt (all_filter (λ s. kind_at g s ≡ Some kind) test xs kinds);
      apart = apart_of (filter test xs) (distinct_filter test xs distinct);
      free = λ i b lt h.
          let s = site_of (filter test xs) i in
          let free : not (is_some (holder_of given s)) ≡ true = all_at (λ s. test s ≡ true) (filter test xs) i lt (all_pass test xs) in
          held_by 0 given b s h (none_of (holder_of given s) (nobody true (is_some (holder_of given s)) free));
    }

-- drawing an entry

pub without_len : (xs : List Site) (j : ℕ) → 0 < length xs → length (without xs j) + 1 ≡ length xs
without_len xs j some =
    let n = length-set xs j (site_of xs (length xs - 1)) in
    let t = length-take-le (length xs - 1) (set xs j (site_of xs (length xs - 1))) (omega (arith, n)) in
    omega (arith, t, some)

-- where an entry of the shorter list was
pub record Came (xs : List Site) (j i : ℕ) : Type 0 where
  pub was : ℕ
  pub below : was < length xs
  pub other : was ≢ j
  pub from : (was ≡ i) ⊎ ((i ≡ j) × (was ≡ length xs - 1))
  pub same : site_of (without xs j) i ≡ site_of xs was

pub came : (xs : List Site) (j i : ℕ) → j < length xs → i + 1 < length xs → Came xs j i
came xs j i hj hi =
    let last = site_of xs (length xs - 1) in
    let front : site_of (without xs j) i ≡ site_of (set xs j last) i = get_or-take (length xs - 1) (set xs j last) i nowhere (omega arith) in
    elim (cases_eq i j) [
      | inl e ↦
          record {
            was = length xs - 1;
            below = omega arith;
            other = λ k. omega (arith, k, e, hi);
            from = inr (e, refl);
            same = front ∙ ap (site_of (set xs j last)) e ∙ get_or-set_same xs j last nowhere hj;
          }
      | inr n ↦ record { was = i; below = omega arith; other = n; from = inl refl; same = front ∙ get_or-set_other xs j i last nowhere n }
    ]

without_apart : (xs : List Site) (j : ℕ) → j < length xs → AreApart xs → AreApart (without xs j)
without_apart xs j hj apart a b la lb e =
    let n = without_len xs j (omega (arith, hj)) in
    let p = came xs j a hj (omega (arith, la, n)) in
    let q = came xs j b hj (omega (arith, lb, n)) in
    let same : p.was ≡ q.was = apart p.was q.was p.below q.below (sym p.same ∙ e ∙ q.same) in
    elim p.from [
      | inl x ↦ elim q.from [
        | inl y ↦ omega (arith, x, y, same)
        | inr y ↦ absurd (omega (arith, x, y.1, same, la, n))
      ]
      | inr x ↦ elim q.from [
        | inl y ↦ absurd (omega (arith, x.1, y, same, lb, n))
        | inr y ↦ omega (arith, x.0, y.0)
      ]
    ]

pub stock_without : (g : GridShape) (kind : SiteKind) (given : List (Option Site)) (left : List Site) (j : ℕ) → j < length left → IsStock g kind given left → IsStock g kind given (without left j)
stock_without g kind given left j hj s =
    let n = without_len left j (omega (arith, hj)) in
    record {
      kinds = λ i lt. let p = came left j i hj (omega (arith, lt, n)) in ap (kind_at g) p.same ∙ s.kinds p.was p.below;
      apart = without_apart left j hj s.apart;
      free = λ i b lt h. let p = came left j i hj (omega (arith, lt, n)) in s.free p.was b p.below (h ∙ ap (λ x. Some (Some x)) p.same);
    }

pub pick_below : (w n : ℕ) → w < 2 ^ 32 → 0 < n → pick_of w n < n
pick_below w n h some =
    let room : n * w < n * 2 ^ 32 = mul-lt-mul_of_pos_left {m = w} {n = 2 ^ 32} {k = n} h some in
    let k : 0 < 2 ^ 32 = omega arith in
    (div-lt_iff_lt-mul {k = 2 ^ 32} {x = w * n} {y = n} k).1 (omega (arith, room))

-- how many sites are left

held_any : (n : ℕ) (given : List (Option Site)) (s : Site) → is_some (holder_from n given s) ≡ list_any (λ o. is_site o s) given
held_any n [] s = refl
held_any n (o ∷ given) s = elim (cases_Bool (is_site o s)) [ inl y ↦ rw y refl | inr k ↦ rw k (held_any (n + 1) given s) ]

count_or : (p q : Site → Bool) (xs : List Site) → count_by (λ s. p s || q s) xs ≤ count_by p xs + count_by q xs
count_or p q [] = omega arith
count_or p q (x ∷ xs) =
    let a = sum_by-cons (λ s. cond (p s || q s) 1 0) x xs in
    let b = sum_by-cons (λ s. cond (p s) 1 0) x xs in
    let c = sum_by-cons (λ s. cond (q s) 1 0) x xs in
    omega (arith, a, b, c, one (p x) (q x), count_or p q xs)
  where
    one : (a b : Bool) → cond (a || b) 1 0 ≤ cond a 1 0 + cond b 1 0
    one true true = omega arith
    one true false = omega arith
    one false true = omega arith
    one false false = omega arith

count_none : (p : Site → Bool) (xs : List Site) → list_any p xs ≡ false → count_by p xs ≡ 0
count_none p [] h = refl
count_none p (x ∷ xs) h = elim (cases_Bool (p x)) [
  | inl k ↦ let t : true ≡ false = rw k at h in absurd (false≢true (sym t))
  | inr k ↦
      let rest : list_any p xs ≡ false = rw k at h in
      let a = sum_by-cons (λ s. cond (p s) 1 0) x xs in
      let z : ◌≡◌ {A = ℕ} (cond (p x) 1 0) 0 = rw k refl in
      omega (arith, a, z, count_none p xs rest)
]

count_once : (t : Site) (xs : List Site) → Distinct xs → count_by (same_site t) xs ≤ 1
count_once t [] h = omega arith
count_once t (x ∷ xs) h =
    let a = sum_by-cons (λ s. cond (same_site t s) 1 0) x xs in
    elim (cases_Bool (same_site t x)) [
      | inl y ↦
          let z : ◌≡◌ {A = ℕ} (cond (same_site t x) 1 0) 1 = rw y refl in
          let none : list_any (same_site t) xs ≡ false = ap (λ v. list_any (same_site v) xs) (same_is t x y) ∙ h.0 in
          omega (arith, a, z, count_none (same_site t) xs none)
      | inr n ↦
          let z : ◌≡◌ {A = ℕ} (cond (same_site t x) 1 0) 0 = rw n refl in
          omega (arith, a, z, count_once t xs h.1)
    ]

none_alike : (g : GridShape) (t : Site) (k other : SiteKind) (xs : List Site) → kind_at g t ≡ Some other → (Some other ≡ Some k → ⊥) → AllByRecursion (λ s. kind_at g s ≡ Some k) xs → list_any (same_site t) xs ≡ false
none_alike g t k other [] h ne all = refl
none_alike g t k other (x ∷ xs) h ne all = elim (cases_Bool (same_site t x)) [
  | inl y ↦ absurd (ne (sym h ∙ ap (kind_at g) (same_is t x y) ∙ all.0))
  | inr n ↦ rw n (none_alike g t k other xs h ne all.1)
]

-- how many given blocks pass a test
pub given_count : (BlockKind → Bool) → List (Option Site) → List BlockKind → ℕ
given_count p [] kinds = 0
given_count p (o ∷ given) [] = 0
given_count p (None ∷ given) (k ∷ kinds) = given_count p given kinds
given_count p (Some s ∷ given) (k ∷ kinds) = cond (p k) 1 0 + given_count p given kinds

-- each given site is of this kind where its block passes the test, and of another where it does not
abbrev pub Fitting : GridShape → SiteKind → (BlockKind → Bool) → List (Option Site) → List BlockKind → Type 0
Fitting g kind p [] kinds = Unit {0}
Fitting g kind p (o ∷ given) [] = Unit {0}
Fitting g kind p (None ∷ given) (k ∷ kinds) = Fitting g kind p given kinds
Fitting g kind p (Some s ∷ given) (k ∷ kinds) = ((p k ≡ true) ⊎ ((other : SiteKind) × (kind_at g s ≡ Some other) × (Some other ≡ Some kind → ⊥))) × Fitting g kind p given kinds

nobody_any : (xs : List Site) → count_by (λ s. false) xs ≡ 0
nobody_any xs = count_none (λ s. false) xs (none xs)
  where
    none : (xs : List Site) → list_any (λ s. false) xs ≡ false
    none [] = refl
    none (x ∷ xs) = none xs

taken_few : (g : GridShape) (kind : SiteKind) (p : BlockKind → Bool) (given : List (Option Site)) (kinds : List BlockKind) (xs : List Site) → length given ≡ length kinds → Distinct xs → AllByRecursion (λ s. kind_at g s ≡ Some kind) xs → Fitting g kind p given kinds
    → count_by (λ s. list_any (λ o. is_site o s) given) xs ≤ given_count p given kinds
unfolding given_count
taken_few g kind p [] [] xs e distinct all fits = omega (arith, nobody_any xs)
taken_few g kind p [] (k ∷ kinds) xs e distinct all fits = absurd (omega arith)
taken_few g kind p (o ∷ given) [] xs e distinct all fits = absurd (omega arith)
taken_few g kind p (None ∷ given) (k ∷ kinds) xs e distinct all fits = taken_few g kind p given kinds xs (omega (arith, e)) distinct all fits
taken_few g kind p (Some t ∷ given) (k ∷ kinds) xs e distinct all fits =
    let rest = taken_few g kind p given kinds xs (omega (arith, e)) distinct all fits.1 in
    let both = count_or (same_site t) (λ s. list_any (λ o. is_site o s) given) xs in
    elim fits.0 [
      | inl y ↦
          let z : ◌≡◌ {A = ℕ} (cond (p k) 1 0) 1 = rw y refl in
          omega (arith, rest, both, z, count_once t xs distinct)
      | inr n ↦ omega (arith, rest, both, count_none (same_site t) xs (none_alike g t kind n.0 xs n.1 n.2 all))
    ]

waiting_is : (p : BlockKind → Bool) (given : List (Option Site)) (kinds : List BlockKind) → length given ≡ length kinds → given_count p given kinds + waiting p given kinds ≡ count_by p kinds
unfolding given_count
waiting_is p [] [] e = refl
waiting_is p [] (k ∷ kinds) e = absurd (omega arith)
waiting_is p (o ∷ given) [] e = absurd (omega arith)
waiting_is p (None ∷ given) (k ∷ kinds) e = omega (arith, sum_by-cons (λ k. cond (p k) 1 0) k kinds, waiting_is p given kinds (omega (arith, e)))
waiting_is p (Some s ∷ given) (k ∷ kinds) e = omega (arith, sum_by-cons (λ k. cond (p k) 1 0) k kinds, waiting_is p given kinds (omega (arith, e)))

twice : (b : Bool) → b ≡ not (not b)
twice true = refl
twice false = refl

-- each block that draws finds a site
pub enough : (g : GridShape) (kind : SiteKind) (p : BlockKind → Bool) (given : List (Option Site)) (kinds : List BlockKind) (xs : List Site) → length given ≡ length kinds → Distinct xs → AllByRecursion (λ s. kind_at g s ≡ Some kind) xs → Fitting g kind p given kinds
    → count_by p kinds ≤ length xs → waiting p given kinds ≤ length (sites_left given xs)
enough g kind p given kinds xs e distinct all fits room =
    let held : Site → Bool = λ s. is_some (holder_of given s) in
    let both = length-filter_both (λ s. not (held s)) held (λ s. twice (held s)) xs in
    let taken : length (filter held xs) ≡ count_by held xs = length-filter held xs in
    let same : count_by held xs ≡ count_by (λ s. list_any (λ o. is_site o s) given) xs = alike held (λ s. list_any (λ o. is_site o s) given) (λ s. held_any 0 given s) xs in
    omega (arith, both, taken, same, taken_few g kind p given kinds xs e distinct all fits, waiting_is p given kinds e, room)
  where
    alike : (p q : Site → Bool) → ((s : Site) → p s ≡ q s) → (xs : List Site) → count_by p xs ≡ count_by q xs
    alike p q h [] = refl
    alike p q h (x ∷ xs) =
        let a = sum_by-cons (λ s. cond (p s) 1 0) x xs in
        let b = sum_by-cons (λ s. cond (q s) 1 0) x xs in
        let c : ◌≡◌ {A = ℕ} (cond (p x) 1 0) (cond (q x) 1 0) = ap (λ t. cond t 1 0) (h x) in
        omega (arith, a, b, c, alike p q h xs)
