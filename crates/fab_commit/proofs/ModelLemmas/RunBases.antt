-- Where turns of one batch begin, and what their moves are first judged on: arithmetic.
use Rattle.std.proofs.Common.{◌≡◌, ℕ, ◌+◌, ◌-◌, ◌*◌, ◌/◌, ◌%◌, ◌<◌, ◌≤◌, max, sym, ap, ◌∙◌, arith}
use Rattle.std.proofs.lemmas.Nat.{div-mul-add, mod-mul-add}
use Rattle.std.proofs.Math.Nat.{mod-add-div, mod-add-div', mul-mod_left}
use Rattle.fab_commit.specs.Model.Turns.{base_of, cut_of, part_of}

-- i numbers on within a stage
mod_ahead : (n i m : ℕ) → n % m + i < m → (n + i) % m ≡ n % m + i
mod_ahead n i m h =
    let split = mod-add-div n m in
    let e : n + i ≡ n / m * m + (n % m + i) = turned (n % m) (n / m) m n i split in
    ap (λ k. k % m) e ∙ mod-mul-add (n / m) m (n % m + i) h
  where
    turned : (a b m n i : ℕ) → a + m * b ≡ n → n + i ≡ b * m + (a + i)
    turned a b m n i e = grind (arith, e)

-- at a stage's end
end_mod : (n m : ℕ) → 0 < m → (n + (m - n % m)) % m ≡ 0
end_mod n m pos =
    let split = mod-add-div' n m in
    let below : n % m < m = omega (arith, pos) in
    let e : n + (m - n % m) ≡ (n / m + 1) * m = turned (n % m) (n / m) m n split below in
    ap (λ k. k % m) e ∙ mul-mod_left (n / m + 1) m
  where
    turned : (a b m n : ℕ) → a + b * m ≡ n → a < m → n + (m - a) ≡ (b + 1) * m
    turned a b m n e l = grind (arith, e, l)

-- a stage's moves have one part
pub part_within : (m first n i : ℕ) → n % m + i < m → part_of m first (n + i) ≡ part_of m first n
part_within m first n i h =
    let e = mod_ahead n i m h in
    let same : n + i - (n + i) % m ≡ n - n % m = omega (arith, e) in
    ap (λ k. max first k) same

-- where the run begins
pub part_first : (m first : ℕ) → part_of m first first ≡ first
part_first m first = omega arith

-- where the next stage begins
pub part_next : (m first n : ℕ) → 0 < m → first ≤ n → part_of m first (n + (m - n % m)) ≡ n + (m - n % m)
part_next m first n pos low = (let e = end_mod n m pos in omega (arith, e, low))

-- a turn that begins at n begins there for each of its moves
pub cut_at : (m first batch n cuts i : ℕ) → n ≡ part_of m first n + cuts * batch → i < batch → n % m + i < m → cut_of m first batch (n + i) ≡ n
cut_at m first batch n cuts i at low h =
    let part = part_of m first n in
    let e : n + i - part ≡ cuts * batch + i = past n part (cuts * batch) i at in
    ap (λ p. p + (n + i - p) / batch * batch) (part_within m first n i h)
    ∙ ap (λ k. part + k / batch * batch) e
    ∙ ap (λ k. part + k * batch) (div-mul-add cuts batch i low)
    ∙ sym at
  where
    past : (n p q i : ℕ) → n ≡ p + q → n + i - p ≡ q + i
    past n p q i e = omega (arith, e)

-- its moves are first judged one batch before, but not before the stage
pub base_at : (m first batch n cuts i : ℕ) → n ≡ part_of m first n + cuts * batch → i < batch → n % m + i < m → base_of m first batch (n + i) ≡ max (part_of m first n) (n - batch)
base_at m first batch n cuts i at low h =
    λ v. max (part_within m first n i h v) (cut_at m first batch n cuts i at low h v - batch)
