-- How the numbers of a turn are shared out among the workers of a crew (our own rule).
use Rattle.std.specs.Prelude.{ℕ, ◌≡◌, ◌^◌, ◌*◌, ◌/◌, ◌<◌, ◌≤◌, min, max, nat_le, if◌then◌else◌, refl}

-- how the numbers of a turn are cut into units of equally many numbers; both counts are powers of two, given by their exponents
pub record Cut : Type 0 where
  pub size : ℕ
  pub units : ℕ

-- how many units a turn has
abbrev pub units_of : Cut → ℕ
units_of c = 2 ^ c.units

-- how many numbers a unit has; the last ones of a turn may have fewer
abbrev pub numbers_of : Cut → ℕ
numbers_of c = 2 ^ c.size

-- the units of a turn have room for a batch. There is at least one for each worker, or for each number of a smaller batch
pub record IsSharedOut (c : Cut) (batch workers : ℕ) : Type 0 where
  pub room : batch ≤ units_of c * numbers_of c
  pub each : min workers batch ≤ units_of c

-- the numbers of a batch for each worker, but at most 16, or 32 of a batch above 128
abbrev pub share_of : ℕ → ℕ → ℕ
share_of batch workers = min (batch / max workers 1) (if nat_le batch 128 then 16 else 32)

-- a unit has the greatest power of two that is at most `numbers`, and at least one number. The units have room for a batch, and half as many
-- would not
pub record IsCutInto (c : Cut) (batch numbers : ℕ) : Type 0 where
  pub within : numbers_of c ≤ max 1 numbers
  pub greatest : numbers < 2 * numbers_of c
  pub room : batch ≤ units_of c * numbers_of c
  pub least : units_of c / 2 * numbers_of c < max 1 batch

-- a batch of 64 numbers for four workers is cut into four units of 16
abbrev four_units : Cut
four_units = record { size = 4; units = 2 }

pub share_of_four : share_of 64 4 ≡ 16
share_of_four = refl

pub share_of_many : share_of 4096 4 ≡ 32
share_of_many = refl

pub four_units_of : units_of four_units ≡ 4
four_units_of = refl

pub sixteen_numbers_of : numbers_of four_units ≡ 16
sixteen_numbers_of = refl
