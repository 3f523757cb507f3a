-- The positions round an array, one by one and as a set.
use Rattle.std.proofs.Common.{◌≡◌, ℕ, ◌+◌, ◌-◌, ◌<◌, ◌≤◌, ◌&&◌, ◌||◌, ◌==◌, List, [], ◌∷◌, ◌++◌, Some, None, length, map, get_or, zero, suc, refl, sym, ap, ◌∙◌, arith}
use Rattle.std.specs.Prelude.{nat_le, nat_lt, slice_get, reverse}
use Rattle.std.specs.List.{range_with_len, list_any}
use Rattle.std.proofs.lemmas.Bool.Decides.{nat_tests}
use Rattle.std.proofs.lemmas.List.{get_or-reverse, length-append, length-reverse}
use Rattle.std.proofs.lemmas.List.FromFn.{length-map-range_with_len, get_or-map-range_with_len}
use Rattle.std.proofs.lemmas.List.Folds.{list_any-append}
use Rattle.std.proofs.lemmas.List.Sorted.{list_any-IsPermutation, IsPermutation-reverse}
use Rattle.std.proofs.lemmas.Option.{slice_get_past, slice_get-get_or}
use Rattle.fab_arch.specs.declared.array.Site.{Site}
use Rattle.fab_arch.specs.Grid.{GridShape, shape, perimeter, is_position}

get-front : {X : Type 0} (xs ys : List X) (i : ℕ) (x : X) → slice_get xs i ≡ Some x → slice_get (xs ++ ys) i ≡ Some x
get-front [] ys i x h = elim (none_some x h) [ ]
  where
    none_some : {X : Type 0} (x : X) → None ≡ Some x → ⊥
    none_some x h = cc
get-front (y ∷ xs) ys zero x h = h
get-front (y ∷ xs) ys (suc i) x h = get-front xs ys i x h

get-back : {X : Type 0} (xs ys : List X) (i j : ℕ) → length xs + j ≡ i → slice_get (xs ++ ys) i ≡ slice_get ys j
get-back [] ys i j h = let e : j ≡ i = omega arith in rw e refl
get-back (x ∷ xs) ys zero j h = absurd (omega arith)
get-back (x ∷ xs) ys (suc i) j h = get-back xs ys i j (omega arith)

get_part : {X : Type 0} (f : ℕ → X) (a n i j : ℕ) → i < n → a + i ≡ j → slice_get (map f (range_with_len a n)) i ≡ Some (f j)
get_part f a n i j lt e =
    let n' = length-map-range_with_len f a n in
    slice_get-get_or (map f (range_with_len a n)) i (f j) (omega arith) ∙ ap Some (get_or-map-range_with_len f a n i j (f j) lt e)

get_part_back : {X : Type 0} (f : ℕ → X) (n i j : ℕ) → i < n → i + j ≡ n → slice_get (reverse (map f (range_with_len 1 n))) i ≡ Some (f j)
get_part_back f n i j lt e =
    let xs = map f (range_with_len 1 n) in
    let n' : length xs ≡ n = length-map-range_with_len f 1 n in
    let m : length (reverse xs) ≡ length xs = length-reverse xs in
    let front : get_or (reverse xs) i (f j) ≡ get_or xs (length xs - 1 - i) (f j) = get_or-reverse xs i (f j) (omega arith) in
    let there : get_or xs (length xs - 1 - i) (f j) ≡ f j = get_or-map-range_with_len f 1 n (length xs - 1 - i) j (f j) (omega arith) (omega arith) in
    slice_get-get_or (reverse xs) i (f j) (omega arith) ∙ ap Some (front ∙ there)

abbrev left_side : GridShape → List (ℕ × ℕ)
left_side g = map (λ i. (0, i)) (range_with_len 1 g.ny)

abbrev top_side : GridShape → List (ℕ × ℕ)
top_side g = map (λ i. (i, g.ny + 1)) (range_with_len 1 g.nx)

abbrev right_side : GridShape → List (ℕ × ℕ)
right_side g = reverse (map (λ i. (g.nx + 1, i)) (range_with_len 1 g.ny))

abbrev bottom_side : GridShape → List (ℕ × ℕ)
bottom_side g = reverse (map (λ i. (i, 0)) (range_with_len 1 g.nx))

left_len : (g : GridShape) → length (left_side g) ≡ g.ny
left_len g = length-map-range_with_len (λ i. (0, i)) 1 g.ny

top_len : (g : GridShape) → length (left_side g ++ top_side g) ≡ g.ny + g.nx
top_len g = let a = left_len g in let b : length (top_side g) ≡ g.nx = length-map-range_with_len (λ i. (i, g.ny + 1)) 1 g.nx in omega (arith, length-append (left_side g) (top_side g))

right_len : (g : GridShape) → length (left_side g ++ top_side g ++ right_side g) ≡ g.ny + g.nx + g.ny
right_len g =
    let a = top_len g in
    let b : length (right_side g) ≡ g.ny = length-reverse (map (λ i. (g.nx + 1, i)) (range_with_len 1 g.ny)) ∙ length-map-range_with_len (λ i. (g.nx + 1, i)) 1 g.ny in
    omega (arith, length-append (left_side g ++ top_side g) (right_side g))

pub perimeter_len : (g : GridShape) → length (perimeter g) ≡ g.ny + g.nx + g.ny + g.nx
perimeter_len g =
    let a = right_len g in
    let b : length (bottom_side g) ≡ g.nx = length-reverse (map (λ i. (i, 0)) (range_with_len 1 g.nx)) ∙ length-map-range_with_len (λ i. (i, 0)) 1 g.nx in
    omega (arith, length-append (left_side g ++ top_side g ++ right_side g) (bottom_side g))

pub at_left : (g : GridShape) (i : ℕ) → i < g.ny → slice_get (perimeter g) i ≡ Some (0, i + 1)
at_left g i lt =
    get-front (left_side g ++ top_side g ++ right_side g) (bottom_side g) i (0, i + 1)
    (get-front (left_side g ++ top_side g) (right_side g) i (0, i + 1)
    (get-front (left_side g) (top_side g) i (0, i + 1) (get_part (λ i. (0, i)) 1 g.ny i (i + 1) lt (omega arith))))

pub at_top : (g : GridShape) (i j : ℕ) → g.ny + j ≡ i → j < g.nx → slice_get (perimeter g) i ≡ Some (j + 1, g.ny + 1)
at_top g i j e lt =
    let n = left_len g in
    let here : slice_get (left_side g ++ top_side g) i ≡ Some (j + 1, g.ny + 1) = get-back (left_side g) (top_side g) i j (omega arith) ∙ get_part (λ i. (i, g.ny + 1)) 1 g.nx j (j + 1) lt (omega arith) in
    get-front (left_side g ++ top_side g ++ right_side g) (bottom_side g) i (j + 1, g.ny + 1)
    (get-front (left_side g ++ top_side g) (right_side g) i (j + 1, g.ny + 1) here)

pub at_right : (g : GridShape) (i j y : ℕ) → g.ny + g.nx + j ≡ i → j < g.ny → j + y ≡ g.ny → slice_get (perimeter g) i ≡ Some (g.nx + 1, y)
at_right g i j y e lt k =
    let n = top_len g in
    let here : slice_get (left_side g ++ top_side g ++ right_side g) i ≡ Some (g.nx + 1, y) = get-back (left_side g ++ top_side g) (right_side g) i j (omega arith) ∙ get_part_back (λ i. (g.nx + 1, i)) g.ny j y lt k in
    get-front (left_side g ++ top_side g ++ right_side g) (bottom_side g) i (g.nx + 1, y) here

pub at_bottom : (g : GridShape) (i j x : ℕ) → g.ny + g.nx + g.ny + j ≡ i → j < g.nx → j + x ≡ g.nx → slice_get (perimeter g) i ≡ Some (x, 0)
at_bottom g i j x e lt k =
    let n = right_len g in
    get-back (left_side g ++ top_side g ++ right_side g) (bottom_side g) i j (omega arith) ∙ get_part_back (λ i. (i, 0)) g.nx j x lt k

pub past_all : (g : GridShape) (i : ℕ) → g.ny + g.nx + g.ny + g.nx ≤ i → slice_get (perimeter g) i ≡ None
past_all g i le = let n = perimeter_len g in slice_get_past (perimeter g) i (omega arith)

-- a column of positions holds a site's
in_column : (s : Site) (c a n : ℕ) → list_any (is_position s) (map (λ i. (c, i)) (range_with_len a n)) ≡ (c == s.x && (nat_le a s.y && nat_lt s.y (a + n)))
in_column s c a zero = grind (arith, nat_tests)
in_column s c a (suc n) = let rest = in_column s c (a + 1) n in rw rest (step c s.x a s.y n)
  where
    step : (c x a y n : ℕ) → ((c == x && a == y) || (c == x && (nat_le (a + 1) y && nat_lt y (a + 1 + n)))) ≡ (c == x && (nat_le a y && nat_lt y (a + suc n)))
    step c x a y n = grind (arith, nat_tests)

-- a row of positions does
in_row : (s : Site) (c a n : ℕ) → list_any (is_position s) (map (λ i. (i, c)) (range_with_len a n)) ≡ (c == s.y && (nat_le a s.x && nat_lt s.x (a + n)))
in_row s c a zero = grind (arith, nat_tests)
in_row s c a (suc n) = let rest = in_row s c (a + 1) n in rw rest (step c s.y a s.x n)
  where
    step : (c y a x n : ℕ) → ((a == x && c == y) || (c == y && (nat_le (a + 1) x && nat_lt x (a + 1 + n)))) ≡ (c == y && (nat_le a x && nat_lt x (a + suc n)))
    step c y a x n = grind (arith, nat_tests)

backwards : (s : Site) (xs : List (ℕ × ℕ)) → list_any (is_position s) (reverse xs) ≡ list_any (is_position s) xs
backwards s xs = sym (list_any-IsPermutation (is_position s) xs (reverse xs) (IsPermutation-reverse xs))

-- a site's position is one of those round the array
pub on_perimeter : (g : GridShape) (s : Site) → list_any (is_position s) (perimeter g)
    ≡ ((((0 == s.x && (nat_le 1 s.y && nat_lt s.y (1 + g.ny))) || (g.ny + 1 == s.y && (nat_le 1 s.x && nat_lt s.x (1 + g.nx)))) || (g.nx + 1 == s.x && (nat_le 1 s.y && nat_lt s.y (1 + g.ny)))) || (0 == s.y && (nat_le 1 s.x && nat_lt s.x (1 + g.nx))))
on_perimeter g s =
    rw (
      list_any-append (is_position s) (left_side g ++ top_side g ++ right_side g) (bottom_side g),
      list_any-append (is_position s) (left_side g ++ top_side g) (right_side g),
      list_any-append (is_position s) (left_side g) (top_side g),
      backwards s (map (λ i. (g.nx + 1, i)) (range_with_len 1 g.ny)),
      backwards s (map (λ i. (i, 0)) (range_with_len 1 g.nx)),
      in_column s 0 1 g.ny,
      in_row s (g.ny + 1) 1 g.nx,
      in_column s (g.nx + 1) 1 g.ny,
      in_row s 0 1 g.nx,
    )
    refl

-- the same, as a side's two coordinates say it
pub round_is : (nx ny io_rat : ℕ) (s : Site) → list_any (is_position s) (perimeter (shape nx ny io_rat))
    ≡ (((nat_le 1 s.y && nat_le s.y ny) && (s.x == 0 || s.x == nx + 1)) || ((nat_le 1 s.x && nat_le s.x nx) && (s.y == 0 || s.y == ny + 1)))
round_is nx ny io_rat s = on_perimeter (shape nx ny io_rat) s ∙ as_sides nx ny s.x s.y
  where
    as_sides : (nx ny x y : ℕ) → ((((0 == x && (nat_le 1 y && nat_lt y (1 + ny))) || (ny + 1 == y && (nat_le 1 x && nat_lt x (1 + nx)))) || (nx + 1 == x && (nat_le 1 y && nat_lt y (1 + ny)))) || (0 == y && (nat_le 1 x && nat_lt x (1 + nx))))
        ≡ (((nat_le 1 y && nat_le y ny) && (x == 0 || x == nx + 1)) || ((nat_le 1 x && nat_le x nx) && (y == 0 || y == ny + 1)))
    as_sides nx ny x y = grind (arith, nat_tests)
