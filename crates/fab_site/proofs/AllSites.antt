-- The lists of all sites are in the order of their places in the table, so no site occurs twice.
use Rattle.std.proofs.Common.{◌≡◌, ℕ, ◌+◌, ◌-◌, ◌*◌, ◌<◌, ◌≤◌, true, false, List, [], ◌∷◌, ◌++◌, Some, None, length, map, get_or, zero, suc, refl, sym, ap, ◌∙◌, inl, inr, arith}
use Rattle.std.specs.Prelude.{nat_lt, is_some}
use Rattle.std.specs.List.{list_any, AllByRecursion, range_with_len, flat_map}
use Rattle.std.proofs.lemmas.Bool.{cases_Bool, false≢true}
use Rattle.std.proofs.lemmas.Bool.Decides.{nat_tests}
use Rattle.std.proofs.lemmas.List.{length-append}
use Rattle.std.proofs.lemmas.List.FromFn.{length-map-range_with_len}
use Rattle.std.proofs.lemmas.Option.{slice_get-get_or}
use Rattle.fab_arch.specs.declared.array.Site.{Site}
use Rattle.fab_arch.specs.declared.array.SiteKind.{SiteKind}
use Rattle.fab_arch.specs.declared.array.SiteKind.TheVariants as site_kind
use Rattle.fab_arch.specs.Grid.{GridShape, perimeter, is_logic_site, is_pad_site, kind_at}
use Rattle.fab_arch.proofs.Perimeter.{perimeter_len, at_left, at_top, at_right, at_bottom}
use Rattle.fab_site.specs.Placement.{site, same_site}
use Rattle.fab_site.specs.Index.{place_of, index_of}
use Rattle.fab_site.specs.Start.{logic_sites, pad_sites}
use Rattle.fab_site.proofs.Sites.{logic_bounds, site_from}
use Rattle.fab_site.proofs.Tables.{place_is, index_is, logic_below, same_is, false_of}

-- sites whose places in the table go up by one from this one
abbrev pub Run : GridShape → ℕ → List Site → Type 0
Run g lo [] = Unit {0}
Run g lo (s ∷ sites) = (index_of g s ≡ Some lo) × Run g (lo + 1) sites

pub run_append : (g : GridShape) (lo mid : ℕ) (xs ys : List Site) → lo + length xs ≡ mid → Run g lo xs → Run g mid ys → Run g lo (xs ++ ys)
run_append g lo mid [] ys e h k = let same : lo ≡ mid = omega (arith, e) in rw same k
run_append g lo mid (x ∷ xs) ys e h k = (h.0, run_append g (lo + 1) mid xs ys (omega (arith, e)) h.1 k)

run_map : (g : GridShape) (f : ℕ → Site) (a n lo : ℕ) → ((i : ℕ) → i < n → index_of g (f (a + i)) ≡ Some (lo + i)) → Run g lo (map f (range_with_len a n))
run_map g f a zero lo h = tt
run_map g f a (suc n) lo h =
    let here : index_of g (f (a + 0)) ≡ Some (lo + 0) = h 0 (omega arith) in
    let x : a + 0 ≡ a = omega arith in
    let y : lo + 0 ≡ lo = omega arith in (
      rw (← x, ← y) here,
      run_map g f (a + 1) n (lo + 1) (λ i lt.
          let u : a + 1 + i ≡ a + suc i = omega arith in
          let v : lo + 1 + i ≡ lo + suc i = omega arith in
          rw (u, v) (h (suc i) (omega arith))),
    )

-- logic sites

logic_index : (g : GridShape) (x y : ℕ) → x < g.nx → y < g.ny → index_of g (site (1 + x) (1 + y) 0) ≡ Some (y * g.nx + x)
unfolding index_of
logic_index g x y hx hy =
    let a : is_logic_site g (site (1 + x) (1 + y) 0) ≡ true = grind (arith, nat_tests) in
    let u : 1 + y - 1 ≡ y = omega arith in
    let v : 1 + x - 1 ≡ x = omega arith in
    rw (a, u, v) refl

abbrev pub row : GridShape → ℕ → List Site
row g y = map (λ x. site x y 0) (range_with_len 1 g.nx)

run_rows : (g : GridShape) (y a n : ℕ) → 1 + y ≡ a → y + n ≤ g.ny → Run g (y * g.nx) (flat_map (row g) (range_with_len a n))
run_rows g y a zero e h = tt
run_rows g y a (suc n) e h =
    let long : length (row g a) ≡ g.nx = length-map-range_with_len (λ x. site x a 0) 1 g.nx in
    let first : Run g (y * g.nx) (row g a) = run_map g (λ x. site x a 0) 1 g.nx (y * g.nx) (λ i lt. rw (← e) (logic_index g i y lt (omega (arith, h)))) in
    let rest : Run g ((y + 1) * g.nx) (flat_map (row g) (range_with_len (a + 1) n)) = run_rows g (y + 1) (a + 1) n (omega (arith, e)) (omega (arith, h)) in
    run_append g (y * g.nx) ((y + 1) * g.nx) (row g a) (flat_map (row g) (range_with_len (a + 1) n)) (omega (arith, long)) first rest

pub rows_len : (g : GridShape) (y n : ℕ) → length (flat_map (row g) (range_with_len y n)) ≡ n * g.nx
rows_len g y zero = omega arith
rows_len g y (suc n) =
    let long : length (row g y) ≡ g.nx = length-map-range_with_len (λ x. site x y 0) 1 g.nx in
    omega (arith, long, rows_len g (y + 1) n, length-append (row g y) (flat_map (row g) (range_with_len (y + 1) n)))

pub logic_run : (g : GridShape) → Run g 0 (logic_sites g)
logic_run g = moved g (0 * g.nx) 0 (logic_sites g) (omega arith) (run_rows g 0 1 g.ny refl (omega arith))
  where
    moved : (g : GridShape) (lo from : ℕ) (sites : List Site) → lo ≡ from → Run g lo sites → Run g from sites
    moved g lo from sites e r = rw (← e) r

pub logic_len : (g : GridShape) → length (logic_sites g) ≡ g.nx * g.ny
logic_len g = omega (arith, rows_len g 1 g.ny)

-- pad sites

not_logic : (g : GridShape) (x y sub k : ℕ) → place_of g.nx g.ny x y ≡ Some k → is_logic_site g (site x y sub) ≡ false
not_logic g x y sub k h = false_of (is_logic_site g (site x y sub)) (λ t.
    let b = logic_bounds g (site x y sub) t in
    let p = place_is g.nx g.ny x y k h in
    elim p.is [
      | inl q ↦ omega (arith, q.0, b.x_low)
      | inr q ↦ elim q [
        | inl r ↦ omega (arith, r.0, b.y_high)
        | inr r ↦ elim r [ inl s ↦ omega (arith, s.0, b.x_high) | inr s ↦ omega (arith, s.0, b.y_low) ]
      ]
    ])

pad_at_index : (g : GridShape) (x y sub k : ℕ) → place_of g.nx g.ny x y ≡ Some k → sub < g.io_rat → index_of g (site x y sub) ≡ Some (g.nx * g.ny + (k * g.io_rat + sub))
unfolding index_of
pad_at_index g x y sub k h lt =
    let a = not_logic g x y sub k h in
    let b : nat_lt sub g.io_rat ≡ true = grind (arith, nat_tests) in
    rw (a, h, b) refl

abbrev pub pads_at : GridShape → ℕ × ℕ → List Site
pads_at g at = map (λ sub. site at.0 at.1 sub) (range_with_len 0 g.io_rat)

-- positions whose numbers go up by one from this one
abbrev PlaceRun : GridShape → ℕ → List (ℕ × ℕ) → Type 0
PlaceRun g k [] = Unit {0}
PlaceRun g k (p ∷ ps) = (place_of g.nx g.ny p.0 p.1 ≡ Some k) × PlaceRun g (k + 1) ps

run_pads : (g : GridShape) (k : ℕ) (ps : List (ℕ × ℕ)) → PlaceRun g k ps → Run g (g.nx * g.ny + k * g.io_rat) (flat_map (pads_at g) ps)
run_pads g k [] h = tt
run_pads g k (p ∷ ps) h =
    let lo = g.nx * g.ny + k * g.io_rat in
    let long : length (pads_at g p) ≡ g.io_rat = length-map-range_with_len (λ sub. site p.0 p.1 sub) 0 g.io_rat in
    let first : Run g lo (pads_at g p) = run_map g (λ sub. site p.0 p.1 sub) 0 g.io_rat lo (λ i lt.
    let z : 0 + i ≡ i = omega arith in
    let e : g.nx * g.ny + (k * g.io_rat + i) ≡ lo + i = omega arith in
    rw (z, ← e) (pad_at_index g p.0 p.1 i k h.0 lt)) in
    run_append g lo (g.nx * g.ny + (k + 1) * g.io_rat) (pads_at g p) (flat_map (pads_at g) ps) (omega (arith, long)) first (run_pads g (k + 1) ps h.1)

pub pads_len : (g : GridShape) (ps : List (ℕ × ℕ)) → length (flat_map (pads_at g) ps) ≡ length ps * g.io_rat
pads_len g [] = omega arith
pads_len g (p ∷ ps) =
    let long : length (pads_at g p) ≡ g.io_rat = length-map-range_with_len (λ sub. site p.0 p.1 sub) 0 g.io_rat in
    omega (arith, long, pads_len g ps, length-append (pads_at g p) (flat_map (pads_at g) ps))

place_left : (nx ny i : ℕ) → i < ny → place_of nx ny 0 (i + 1) ≡ Some i
place_left nx ny i h = grind (arith, nat_tests)

place_top : (nx ny j : ℕ) → j < nx → place_of nx ny (j + 1) (ny + 1) ≡ Some (ny + j)
place_top nx ny j h = grind (arith, nat_tests)

place_right : (nx ny j y : ℕ) → j < ny → j + y ≡ ny → place_of nx ny (nx + 1) y ≡ Some (ny + nx + j)
place_right nx ny j y h e = grind (arith, nat_tests)

place_bottom : (nx ny j x : ℕ) → j < nx → j + x ≡ nx → place_of nx ny x 0 ≡ Some (ny + nx + ny + j)
place_bottom nx ny j x h e = grind (arith, nat_tests)

-- the number of a position that was found at this number
found_place : (g : GridShape) (i : ℕ) (p q : ℕ × ℕ) → Some p ≡ Some q → place_of g.nx g.ny q.0 q.1 ≡ Some i → place_of g.nx g.ny p.0 p.1 ≡ Some i
found_place g i p q e h = let same : p ≡ q = inner p q e in rw same h
  where
    inner : (p q : ℕ × ℕ) → Some p ≡ Some q → p ≡ q
    inner p q h = cc

numbered : (g : GridShape) (i : ℕ) → i < g.ny + g.nx + g.ny + g.nx → place_of g.nx g.ny (get_or (perimeter g) i (0, 0)).0 (get_or (perimeter g) i (0, 0)).1 ≡ Some i
numbered g i lt =
    let there = slice_get-get_or (perimeter g) i (0, 0) (omega (arith, perimeter_len g, lt)) in
    elim (cases_Bool (nat_lt i g.ny)) [
      | inl a ↦ let h : i < g.ny = grind (arith, nat_tests) in found_place g i (get_or (perimeter g) i (0, 0)) (0, i + 1) (sym there ∙ at_left g i h) (place_left g.nx g.ny i h)
      | inr a ↦
          let above : g.ny ≤ i = grind (arith, nat_tests) in
          elim (cases_Bool (nat_lt i (g.ny + g.nx))) [
            | inl b ↦
                let h : i < g.ny + g.nx = grind (arith, nat_tests) in
                let same : g.ny + (i - g.ny) ≡ i = omega arith in
                found_place g i (get_or (perimeter g) i (0, 0)) (i - g.ny + 1, g.ny + 1) (sym there ∙ at_top g i (i - g.ny) same (omega arith)) (place_top g.nx g.ny (i - g.ny) (omega arith) ∙ ap (λ v. Some v) same)
            | inr b ↦
                let further : g.ny + g.nx ≤ i = grind (arith, nat_tests) in
                elim (cases_Bool (nat_lt i (g.ny + g.nx + g.ny))) [
                  | inl c ↦
                      let h : i < g.ny + g.nx + g.ny = grind (arith, nat_tests) in
                      let j = i - (g.ny + g.nx) in
                      let same : g.ny + g.nx + j ≡ i = omega arith in
                      let y : j + (g.ny - j) ≡ g.ny = omega arith in
                      found_place g i (get_or (perimeter g) i (0, 0)) (g.nx + 1, g.ny - j) (sym there ∙ at_right g i j (g.ny - j) same (omega arith) y) (place_right g.nx g.ny j (g.ny - j) (omega arith) y ∙ ap (λ v. Some v) same)
                  | inr c ↦
                      let last : g.ny + g.nx + g.ny ≤ i = grind (arith, nat_tests) in
                      let j = i - (g.ny + g.nx + g.ny) in
                      let same : g.ny + g.nx + g.ny + j ≡ i = omega arith in
                      let x : j + (g.nx - j) ≡ g.nx = omega arith in
                      found_place g i (get_or (perimeter g) i (0, 0)) (g.nx - j, 0) (sym there ∙ at_bottom g i j (g.nx - j) same (omega arith) x) (place_bottom g.nx g.ny j (g.nx - j) (omega arith) x ∙ ap (λ v. Some v) same)
                ]
          ]
    ]

place_run_from : (g : GridShape) (k : ℕ) (ps : List (ℕ × ℕ)) → ((i : ℕ) → i < length ps → place_of g.nx g.ny (get_or ps i (0, 0)).0 (get_or ps i (0, 0)).1 ≡ Some (k + i)) → PlaceRun g k ps
place_run_from g k [] h = tt
place_run_from g k (p ∷ ps) h =
    let z : k + 0 ≡ k = omega arith in
    let first : place_of g.nx g.ny p.0 p.1 ≡ Some (k + 0) = h 0 (omega arith) in (
      rw (← z) first,
      place_run_from g (k + 1) ps (λ i lt.
          let e : k + 1 + i ≡ k + suc i = omega arith in
          rw e (h (suc i) (omega arith))),
    )

pub pads_run : (g : GridShape) → Run g (g.nx * g.ny) (pad_sites g)
pads_run g =
    let z : g.nx * g.ny + 0 * g.io_rat ≡ g.nx * g.ny = omega arith in
    let places = place_run_from g 0 (perimeter g) (λ i lt. let e : 0 + i ≡ i = omega arith in rw e (numbered g i (omega (arith, perimeter_len g, lt)))) in
    rw (← z) (run_pads g 0 (perimeter g) places)

pub pads_length : (g : GridShape) → length (pad_sites g) ≡ (g.ny + g.nx + g.ny + g.nx) * g.io_rat
pads_length g = pads_len g (perimeter g) ∙ ap (λ n. n * g.io_rat) (perimeter_len g)

-- what is true of runs

-- no site of the list is another of it
abbrev pub Distinct : List Site → Type 0
Distinct [] = Unit {0}
Distinct (s ∷ sites) = (list_any (same_site s) sites ≡ false) × Distinct sites

some_same : (a b : ℕ) → Some a ≡ Some b → a ≡ b
some_same a b h = cc

none_above : (g : GridShape) (s : Site) (m lo : ℕ) (sites : List Site) → index_of g s ≡ Some m → m < lo → Run g lo sites → list_any (same_site s) sites ≡ false
none_above g s m lo [] h lt r = refl
none_above g s m lo (t ∷ sites) h lt r = elim (cases_Bool (same_site s t)) [
  | inl y ↦
      let same : s ≡ t = same_is s t y in
      let e : m ≡ lo = some_same m lo (sym h ∙ ap (index_of g) same ∙ r.0) in
      absurd (omega (arith, e, lt))
  | inr n ↦ rw n (none_above g s m (lo + 1) sites h (omega (arith, lt)) r.1)
]

pub run_distinct : (g : GridShape) (lo : ℕ) (sites : List Site) → Run g lo sites → Distinct sites
run_distinct g lo [] r = tt
run_distinct g lo (s ∷ sites) r = (none_above g s lo (lo + 1) sites r.0 (omega arith) r.1, run_distinct g (lo + 1) sites r.1)

kind_logic : (g : GridShape) (s : Site) (i : ℕ) → index_of g s ≡ Some i → i < g.nx * g.ny → kind_at g s ≡ Some site_kind.Logic
kind_logic g s i h lt = elim (index_is g s i h) [
  | inl a ↦ rw a.logic refl
  | inr a ↦ absurd (omega (arith, a.is, lt))
]

pad_or_none : (g : GridShape) (s : Site) → is_logic_site g s ≡ false → is_some (kind_at g s) ≡ true → kind_at g s ≡ Some site_kind.Pad
pad_or_none g s h k = elim (cases_Bool (is_pad_site g s)) [
  | inl y ↦ rw (h, y) refl
  | inr n ↦ let e : is_some {T = SiteKind} None ≡ true = rw (h, n) at k in absurd (false≢true e)
]

kind_pad : (g : GridShape) (s : Site) (i : ℕ) → index_of g s ≡ Some i → g.nx * g.ny ≤ i → kind_at g s ≡ Some site_kind.Pad
kind_pad g s i h le =
    let there : is_some (kind_at g s) ≡ true = site_from g s (ap is_some h) in
    elim (index_is g s i h) [
      | inl a ↦ let below = logic_below g s i a in absurd (omega (arith, below, le))
      | inr a ↦ pad_or_none g s (false_of (is_logic_site g s) (λ t.
          let b = logic_bounds g s t in
          elim a.there.is [
            | inl q ↦ omega (arith, q.0, b.x_low)
            | inr q ↦ elim q [
              | inl r ↦ omega (arith, r.0, b.y_high)
              | inr r ↦ elim r [ inl s ↦ omega (arith, s.0, b.x_high) | inr s ↦ omega (arith, s.0, b.y_low) ]
            ]
          ])) there
    ]

pub run_logic : (g : GridShape) (lo : ℕ) (sites : List Site) → lo + length sites ≤ g.nx * g.ny → Run g lo sites → AllByRecursion (λ s. kind_at g s ≡ Some site_kind.Logic) sites
run_logic g lo [] h r = tt
run_logic g lo (s ∷ sites) h r = (kind_logic g s lo r.0 (omega (arith, h)), run_logic g (lo + 1) sites (omega (arith, h)) r.1)

pub run_pad : (g : GridShape) (lo : ℕ) (sites : List Site) → g.nx * g.ny ≤ lo → Run g lo sites → AllByRecursion (λ s. kind_at g s ≡ Some site_kind.Pad) sites
run_pad g lo [] h r = tt
run_pad g lo (s ∷ sites) h r = (kind_pad g s lo r.0 h, run_pad g (lo + 1) sites (omega (arith, h)) r.1)
