-- How a writer counts its failures (our own).
use Rattle.std.specs.Prelude.{ℕ, ◌≡◌, ◌+◌, ◌-◌, ◌^◌, ◌==◌, Bool, false, true, not, ◌&&◌, min, List, [], ◌∷◌, length, Option, Result, Ok, Err, if◌then◌else◌, refl}
use Rattle.fab_text.specs.declared.output.WriteFault.{WriteFault}

-- a writer: what it has taken, if that is known, and how many of its writes failed
pub record Written : Type 0 where
  pub contents : Option (List ℕ)
  pub failures : ℕ

-- one more, up to the greatest number of 64 bits
abbrev pub grown : ℕ → ℕ
grown n = min (n + 1) (2 ^ 64 - 1)

-- a write failed if it returned a fault, or took no byte though there were some
abbrev pub is_failure : List ℕ → Result ℕ WriteFault → Bool
is_failure bytes (Ok n) = n == 0 && not (length bytes == 0)
is_failure bytes (Err e) = true

-- the count after a write of these bytes with this result
abbrev pub failed_after : List ℕ → Result ℕ WriteFault → ℕ → ℕ
failed_after bytes result old = if is_failure bytes result then grown old else old

-- the count after a writer reported whether it is ready
abbrev pub failed_unless : Bool → ℕ → ℕ
failed_unless ready old = if ready then old else grown old

pub nothing_of_a_byte : failed_after (65 ∷ []) (Ok 0) 3 ≡ 4
nothing_of_a_byte = refl

pub nothing_of_nothing : failed_after [] (Ok 0) 3 ≡ 3
nothing_of_nothing = refl

pub not_ready : failed_unless false 3 ≡ 4
not_ready = refl
