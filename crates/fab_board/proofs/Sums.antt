-- Sums over the views.
use Rattle.std.proofs.Common.{◌≡◌, ◌≢◌, ℕ, zero, suc, ◌+◌, ◌<◌, ◌≤◌, List, [], ◌∷◌, ◌++◌, set, get_or, sum_by, All, refl, sym, ap, arith, eq-eqb, ne_eqb, lt_of_not-le}
use Rattle.std.proofs.lemmas.List.Sums.{sum_by-cons, sum_by-append, sum_by_push, get_or-le-sum_by}
use Rattle.std.proofs.lemmas.Bool.{lt-ltb, le-ltb}
use mathlib.Core.Option.{some, some-ne-none, some-injective}
use mathlib.Core.Logic.{dite}
use native.Mathlib.Decide.{dec_le, ℕ_discrete}
use lib.ListN.{get_elem?}
use Rattle.fab_board.specs.Counts.{hit, times, once_below}

module _ {V : Type 0} where
  pub sum_set : (f : V → ℕ) (vs : List V) (id : ℕ) (v w : V) → get_elem? vs id ≡ some v → sum_by f (set vs id w) + f v ≡ sum_by f vs + f w
  sum_set f [] id v w e = absurd (some-ne-none v (sym e))
  sum_set f (x ∷ xs) zero v w e = let is : f x ≡ f v = ap f (some-injective x v e) in omega (arith, sum_by-cons f w xs, sum_by-cons f x xs)
  sum_set f (x ∷ xs) (suc id) v w e = omega (arith, sum_by-cons f x (set xs id w), sum_by-cons f x xs, sum_set f xs id v w e)

  pub sum_le : (f g : V → ℕ) (vs : List V) → ((i : ℕ) (v : V) → get_elem? vs i ≡ some v → f v ≤ g v) → sum_by f vs ≤ sum_by g vs
  sum_le f g [] h = omega arith
  sum_le f g (x ∷ xs) h = let a = h 0 x refl in let b = sum_le f g xs (λ i v e. h (suc i) v e) in omega (arith, sum_by-cons f x xs, sum_by-cons g x xs)

  -- where f is 0 of each view but one
  pub sum_zero : (f : V → ℕ) (vs : List V) → ((i : ℕ) (v : V) → get_elem? vs i ≡ some v → f v ≡ 0) → sum_by f vs ≡ 0
  sum_zero f [] h = refl
  sum_zero f (x ∷ xs) h = let a = h 0 x refl in let b = sum_zero f xs (λ i v e. h (suc i) v e) in omega (arith, sum_by-cons f x xs)

  pub part_le : (f : V → ℕ) (vs : List V) (id : ℕ) (v : V) → get_elem? vs id ≡ some v → f v ≤ sum_by f vs
  part_le f [] id v e = absurd (some-ne-none v (sym e))
  part_le f (x ∷ xs) zero v e = let is : f x ≡ f v = ap f (some-injective x v e) in omega (arith, sum_by-cons f x xs)
  part_le f (x ∷ xs) (suc id) v e = let r = part_le f xs id v e in omega (arith, sum_by-cons f x xs)

module _ {V : Type 0} where
  pub split_sum : (f : V → ℕ) (vs : List V) (id : ℕ) (v l o : V) → get_elem? vs id ≡ some v → f l + f o ≡ f v → sum_by f (set vs id l ++ o ∷ []) ≡ sum_by f vs
  split_sum f vs id v l o at e = omega (arith, sum_by_push f (set vs id l) o, sum_set f vs id v l at)

  pub join_sum : (f : V → ℕ) (vs : List V) (id other : ℕ) (v w b z : V) → get_elem? vs id ≡ some v → get_elem? (set vs id b) other ≡ some w → f b + f z ≡ f v + f w → sum_by f (set (set vs id b) other z) ≡ sum_by f vs
  join_sum f vs id other v w b z at there e = omega (arith, sum_set f (set vs id b) other w z there, sum_set f vs id v b at)

pub times_push : (x : ℕ) (xs : List ℕ) (y : ℕ) → times x (xs ++ y ∷ []) ≡ times x xs + hit x y
times_push x xs y = sum_by_push (hit x) xs y

pub times_append : (x : ℕ) (xs ys : List ℕ) → times x (xs ++ ys) ≡ times x xs + times x ys
times_append x xs ys = sum_by-append (hit x) xs ys

pub hit_self : (x : ℕ) → hit x x ≡ 1
hit_self x = rw (eq-eqb x x refl) refl

pub hit_other : (x y : ℕ) → x ≢ y → hit x y ≡ 0
hit_other x y ne = rw (ne_eqb x y ne) refl

pub once_more : (x n : ℕ) → once_below x (n + 1) ≡ once_below x n + hit x n
once_more x n = dite (ℕ_discrete x n) (λ e. rw (eq-eqb x n e, lt-ltb x (n + 1) (omega arith), le-ltb x n (omega arith)) refl)
    (λ ne. dite (dec_le x n)
    (λ l. rw (ne_eqb x n ne, lt-ltb x (n + 1) (omega arith), lt-ltb x n (omega arith)) refl)
    (λ g. rw (ne_eqb x n ne, le-ltb x (n + 1) (omega arith), le-ltb x n (omega arith)) refl))

-- a list whose members are all given has all members below
pub all_below : (xs : List ℕ) (n : ℕ) → ((x : ℕ) → times x xs ≤ once_below x n) → All (λ x. x < n) xs
all_below xs n h k d l =
    let y : ℕ = get_or xs k d in
    let a = get_or-le-sum_by (hit y) xs k d l in
    let b : hit y y ≤ times y xs = a in
    let c = hit_self y in
    let e = h y in
    dite (dec_le n y) (λ g. let z : once_below y n ≡ 0 = rw (le-ltb y n g) refl in absurd (omega arith)) (λ g. lt_of_not-le g)
