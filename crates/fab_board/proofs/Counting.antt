-- Lists in which each number occurs as often as in another.
use Rattle.std.proofs.Common.{◌≡◌, ℕ, zero, suc, ◌+◌, ◌<◌, List, [], ◌∷◌, length, get_or, sum_by, refl, sym, ap, arith}
use Rattle.std.specs.Prelude.{IsPermutation, remove}
use Rattle.std.specs.List.{range_with_len}
use Rattle.std.proofs.lemmas.List.Sums.{sum_by-cons, sum_by-remove}
use Rattle.std.proofs.lemmas.List.Sorted.{IsPermutation-refl, IsPermutation-sym, IsPermutation-cons, IsPermutation-trans, IsPermutation-remove}
use Rattle.std.proofs.lemmas.Bool.{le-ltb}
use mathlib.Core.Logic.{dite}
use native.Mathlib.Decide.{ℕ_discrete}
use Rattle.fab_board.specs.Counts.{hit, times, once_below}
use Rattle.fab_board.specs.Views.{SeatModel, all_numbers}
use Rattle.fab_board.proofs.Sums.{times_append, once_more, hit_self, hit_other}

-- a number that is counted occurs somewhere
abbrev At : ℕ → List ℕ → Type 0
At x xs = (i : ℕ) × (i < length xs) × (get_or xs i x ≡ x)

place_of : (x : ℕ) (xs : List ℕ) → 0 < times x xs → At x xs
place_of x [] l = absurd (omega arith)
place_of x (y ∷ ys) l = dite (ℕ_discrete x y) (λ e. (0, omega arith, sym e))
    (λ ne. let r = place_of x ys (let e = hit_other x y ne in omega (arith, sum_by-cons (hit x) y ys)) in let i = r.1 in (suc r.0, omega arith, r.2))

pub same_counts : (xs ys : List ℕ) → ((x : ℕ) → times x xs ≡ times x ys) → IsPermutation xs ys
same_counts [] [] h = IsPermutation-refl []
same_counts [] (y ∷ ys) h = absurd (let e = h y in let s = hit_self y in omega (arith, sum_by-cons (hit y) y ys))
same_counts (x ∷ xs) ys h =
    let p = place_of x ys (let e = h x in let s = hit_self x in omega (arith, sum_by-cons (hit x) x xs)) in
    let rest = same_counts xs (remove ys p.0) (λ z. let e = h z in let a : hit z (get_or ys p.0 x) ≡ hit z x = ap (hit z) p.2 in let c = sum_by-cons (hit z) x xs in let r = sum_by-remove (hit z) ys p.0 x p.1 in omega arith) in
    IsPermutation-trans (x ∷ xs) (x ∷ remove ys p.0) ys (IsPermutation-cons x xs (remove ys p.0) rest)
    (IsPermutation-sym ys (x ∷ remove ys p.0) (IsPermutation-remove ys p.0 x p.1 (sym p.2)))

times_range : (x a n : ℕ) → times x (range_with_len a n) + once_below x a ≡ once_below x (a + n)
times_range x a zero = let e : once_below x (a + 0) ≡ once_below x a = ap (once_below x) (omega arith) in omega arith
times_range x a (suc n) = let m = once_more x a in let r = times_range x (a + 1) n in let e : once_below x (a + 1 + n) ≡ once_below x (a + suc n) = ap (once_below x) (omega arith) in omega (arith, sum_by-cons (hit x) a (range_with_len (a + 1) n))

times_all : (x : ℕ) (seats : List SeatModel) → times x (all_numbers seats) ≡ sum_by (λ s. times x s.list) seats
times_all x [] = refl
times_all x (s ∷ ss) = omega (arith, times_append x s.list (all_numbers ss), sum_by-cons (λ (s : SeatModel). times x s.list) s ss, times_all x ss)

-- seats that together have each number below n once have these numbers in some order
pub dealt_once : (n : ℕ) (seats : List SeatModel) → ((x : ℕ) → sum_by (λ s. times x s.list) seats ≡ once_below x n) → IsPermutation (range_with_len 0 n) (all_numbers seats)
dealt_once n seats h = same_counts (range_with_len 0 n) (all_numbers seats) (λ x. let r = times_range x 0 n in let a = times_all x seats in let e = h x in let z : once_below x 0 ≡ 0 = rw (le-ltb x 0 (omega arith)) refl in let s : once_below x (0 + n) ≡ once_below x n = ap (once_below x) (omega arith) in omega arith)
