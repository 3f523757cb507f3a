-- Cubes grow, so a cube root is one number.
use Rattle.std.proofs.Common.{◌≡◌, ℕ, ◌+◌, ◌*◌, ◌<◌, ◌≤◌, ◌^◌, arith, inl, inr}
use Rattle.std.proofs.lemmas.Nat.{mul-le}
use Rattle.std.proofs.lemmas.Bool.{cases_order}
use Rattle.fab_sched.specs.Roots.{cube, IsCubeRoot, cubed_moves, AreMoves}

cubes_grow : (a b : ℕ) → a ≤ b → cube a ≤ cube b
cubes_grow a b le = mul-le (a * a) a (b * b) b (mul-le a a b b le le) le

not_below : (n a b : ℕ) → IsCubeRoot n a → IsCubeRoot n b → b ≤ a
not_below n a b r s =
    elim (cases_order a b) [
      | inl e ↦ omega arith
      | inr k ↦ elim k [ inl lt ↦ (let grown = cubes_grow (a + 1) b (omega arith) in absurd (omega (arith, r.high, s.low, grown))) | inr lt ↦ omega arith ]
    ]

one_root : (n a b : ℕ) → IsCubeRoot n a → IsCubeRoot n b → a ≡ b
one_root n a b r s = omega (arith, not_below n a b r s, not_below n b a s r)

pub moves_are : (inner blocks m found : ℕ) → IsCubeRoot (cubed_moves inner blocks) found → AreMoves inner blocks m → found ≡ m
moves_are inner blocks m found root are = one_root (cubed_moves inner blocks) found m root are.root

pub moves_below : (inner blocks m : ℕ) → AreMoves inner blocks m → cubed_moves inner blocks < cube 1073741825
moves_below inner blocks m are =
    let limit = are.limit in
    let grown = cubes_grow (m + 1) 1073741825 (omega arith) in
    omega (arith, are.root.high, grown)

-- the cube of the moves, before it is rounded, is small
pub cube_small : (inner c : ℕ) → inner ≤ 10000 → c ≡ cube inner → c ≤ 1000000000000
cube_small inner c few e = omega (arith, cubes_grow inner 10000 few, e)

pub product_fits : (c rest : ℕ) → c ≤ 1000000000000 → rest < 2 ^ 64 → c * rest < 2 ^ 128
product_fits c rest few fits =
    let p = mul-le c rest 1000000000000 18446744073709551615 few (omega arith) in
    omega (arith, p)

pub square_small : (n s : ℕ) → n ≤ 65535 → s ≡ n * n → s ≤ 4294836225
square_small n s few e = omega (arith, mul-le n n 65535 65535 few few, e)

pub fourth_small : (s : ℕ) → s ≤ 4294836225 → s * s < 2 ^ 64
fourth_small s few = let p = mul-le s s 4294836225 4294836225 few few in omega (arith, p)
