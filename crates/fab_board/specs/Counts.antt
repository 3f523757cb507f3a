-- How often a number occurs in a list. Our own.
use Rattle.std.specs.Prelude.{ℕ, List, count_by, if◌then◌else◌, nat_lt, ◌==◌}

-- 1 if the two numbers are equal, otherwise 0
abbrev pub hit : ℕ → ℕ → ℕ
hit x y = if x == y then 1 else 0

-- how often x occurs in the list
abbrev pub times : ℕ → List ℕ → ℕ
times x xs = count_by (λ y. x == y) xs

-- 1 if x is below n, otherwise 0
abbrev pub once_below : ℕ → ℕ → ℕ
once_below x n = if nat_lt x n then 1 else 0
