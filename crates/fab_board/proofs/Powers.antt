-- Powers of two, and how units of them share numbers out.
use Rattle.std.proofs.Common.{◌≡◌, ℕ, zero, suc, ◌+◌, ◌*◌, ◌/◌, ◌%◌, ◌^◌, ◌≤◌, ◌<◌, max, min, ap, subst, sym, ◌∙◌, arith}
use Rattle.std.proofs.Math.Nat.{mul-le-mul, mul_comm, div-mul-le_self, le_of_mul-le-mul_right, lt_of_not-le, le-mul_of_pos_right}
use Rattle.std.proofs.Math.Pow.{pow_mono, pow_pos}
use Rattle.std.proofs.lemmas.Grind.{div_ceil_times}
use Rattle.fab_board.specs.Plans.{IsCutInto}

pub exponent_below : (e k n : ℕ) → 2 ^ e ≤ n → n < 2 ^ k → e < k
exponent_below e k n low high = lt_of_not-le (λ above. let m = pow_mono above in omega arith)

-- a quotient that is rounded up is at most what was divided
pub ceil_within : (x p : ℕ) → 0 < p → x / p + min 1 (x % p) ≤ x
ceil_within x p pos = let u = x / p + min 1 (x % p) in
    let below : u < x + 1 = lt_of_not-le (λ above. let t = (div_ceil_times x p pos).1 in let m : (x + 1) * p ≤ u * p = mul-le-mul above (omega arith) in
    let n : x ≤ x * p = le-mul_of_pos_right x pos in omega arith) in omega arith

-- `units` units of `p` numbers have room for the batch, so have as many as a power of two that reaches them
pub room_of : (batch p units r : ℕ) → batch ≤ units * p → units ≤ 2 ^ r → batch ≤ 2 ^ r * p
room_of batch p units r all enough = let m : units * p ≤ 2 ^ r * p = mul-le-mul enough (omega arith) in omega arith

reach : (q batch workers units p : ℕ) → batch ≤ units * p → p ≤ max 1 q → q * max workers 1 ≤ batch → min workers batch ≤ units
reach zero batch workers units p all within low = let m : units * p ≤ units * 1 = mul-le-mul (omega arith) (omega arith) in omega arith
reach (suc k) batch workers units p all within low =
    let m : units * p ≤ units * suc k = mul-le-mul (omega arith) (omega arith) in
    let c = mul_comm (suc k) (max workers 1) in
    let s : max workers 1 * suc k ≤ units * suc k = omega arith in
    let r : max workers 1 ≤ units = le_of_mul-le-mul_right s (omega arith) in omega arith

-- there is a unit for each worker, if units have at most the numbers of a share
pub units_reach : (batch workers units p share : ℕ) → batch ≤ units * p → p ≤ max 1 share → share ≤ batch / max workers 1 → min workers batch ≤ units
units_reach batch workers units p share all within few = reach (batch / max workers 1) batch workers units p all (omega arith) (div-mul-le_self batch (max workers 1))

-- a power of two whose logarithm is `log`
pub power_of_log : (k log n : ℕ) → n ≡ 2 ^ k → 2 ^ log ≤ n → n < 2 * 2 ^ log → n ≡ 2 ^ log
power_of_log k log n is low high = let a : k < suc log = exponent_below k (suc log) n (omega (arith, is)) (omega (arith, high)) in
    let b : log < suc k = exponent_below log (suc k) n low (omega (arith, is)) in
    is ∙ ap (λ x. 2 ^ x) (omega (arith, a, b))

-- fewer units than a quotient that is rounded up have no room for what was divided
half_lacks : (few p h : ℕ) → 0 < p → h < max 1 (few / p + min 1 (few % p)) → h * p < max 1 few
half_lacks few p zero pos below = omega arith
half_lacks few p (suc h) pos below = let u = few / p + min 1 (few % p) in
    let m : suc (suc h) * p ≤ u * p = mul-le-mul (omega arith) (omega arith) in let t = (div_ceil_times few p pos).1 in omega arith

-- the exponents of a cut are small
pub small_exponents : (size units clamped numbers few divided next : ℕ) → clamped ≤ 32 → 2 ^ size ≤ clamped → few ≤ 4096 → divided ≡ few / numbers + min 1 (few % numbers) →
    0 < numbers → next / 2 < max 1 divided → 2 ^ units ≤ next → (size < 6) × (units < 14)
small_exponents size units clamped numbers few divided next small low fits is pos below log = let within = ceil_within few numbers pos in
    (exponent_below size 6 clamped low (omega (arith, small)), exponent_below units 14 next log (omega (arith, within, is, fits, below)))

-- a batch is cut as `IsCutInto` says
pub cut_into : (batch numbers clamped size few one divided next units : ℕ) → 1 ≤ clamped → clamped ≤ 32 → (numbers ≤ 32 → numbers ≤ clamped) → clamped ≤ max 1 numbers →
    2 ^ size ≤ clamped → clamped < 2 * 2 ^ size → one ≡ 2 ^ size → few ≡ min batch 4096 → divided ≡ few / one + min 1 (few % one) → (k : ℕ) → next ≡ 2 ^ k → divided ≤ next →
    next / 2 < max 1 divided → 2 ^ units ≤ next → next < 2 * 2 ^ units → batch ≤ 4096 → numbers ≤ 32 → IsCutInto (record { size = size; units = units }) batch numbers
cut_into batch numbers clamped size few one divided next units first last kept most low high is_one is_few is_divided k power enough below log above fits small =
    let p : next ≡ 2 ^ units = power_of_log k units next power log above in
    let positive : 0 < one = omega (arith, is_one, pow_pos size) in
    let all : few ≤ divided * one = subst (λ x. few ≤ x * one) (sym is_divided) (div_ceil_times few one positive).0 in
    let more : divided * one ≤ next * one = mul-le-mul enough (omega arith) in
    let half : next / 2 * one < max 1 few = half_lacks few one (next / 2) positive (omega (arith, below, is_divided)) in
    record {
      within = omega (arith, low, most);
      greatest = omega (arith, high, kept small);
      room = subst (λ x. batch ≤ x * 2 ^ size) p (subst (λ x. batch ≤ next * x) is_one (omega (arith, all, is_few, fits, more)));
      least = subst (λ x. x / 2 * 2 ^ size < max 1 batch) p (subst (λ x. next / 2 * x < max 1 batch) is_one (omega (arith, half, is_few)));
    }
