-- The number of moves of a stage: VPR's inner_num · blocks^(4/3), rounded down (VPR manual), and at least 1 (our own).
-- It is found by its cube, which is a whole number.
use Rattle.std.specs.Prelude.{ℕ, ◌+◌, ◌*◌, ◌<◌, ◌≤◌, max}

-- n to the third power
abbrev pub cube : ℕ → ℕ
cube n = n * n * n

-- m is the whole part of the cube root of n
pub record IsCubeRoot (n m : ℕ) : Type 0 where
  pub low : cube m ≤ n
  pub high : n < cube (m + 1)

-- the cube of inner_num · blocks^(4/3), or 1 where that is 0
abbrev pub cubed_moves : ℕ → ℕ → ℕ
cubed_moves inner blocks = max 1 (inner * inner * inner * (blocks * blocks * blocks * blocks))

-- m is the number of moves of a stage in a design of `blocks` blocks; inner_num and m are within their limits
pub record AreMoves (inner_num blocks m : ℕ) : Type 0 where
  pub inner : (1 ≤ inner_num) × (inner_num ≤ 10000)
  pub root : IsCubeRoot (cubed_moves inner_num blocks) m
  pub limit : m ≤ 1073741824
