-- Whole numbers of a small unit, printed with a point: costs and temperatures are in ten-thousandths,
-- ranges in thousandths (our own, instead of floating point).
use Rattle.std.specs.Prelude.{ℕ, ◌≡◌, ◌+◌, ◌/◌, ◌%◌, List, [], ◌∷◌, ◌++◌, decimal, codes, refl}
use Rattle.std.specs.Fmt.{digits}

-- the last decimal digit of a number, as a character
abbrev pub digit : ℕ → ℕ
digit n = 48 + n % 10

-- a number of ten-thousandths: its whole part, a point, and the remainder in four digits
abbrev pub fixed4 : ℕ → List ℕ
fixed4 n = decimal (n / 10000) ++ 46 ∷ digit (n / 1000) ∷ digit (n / 100) ∷ digit (n / 10) ∷ digit n ∷ []

-- a number of thousandths: its whole part, a point, and the remainder in three digits
abbrev pub fixed3 : ℕ → List ℕ
fixed3 n = decimal (n / 1000) ++ 46 ∷ digit (n / 100) ∷ digit (n / 10) ∷ digit n ∷ []

pub cost_of_the_first_example : fixed4 64968 ≡ codes "6.4968"
unfolding digits
cost_of_the_first_example = refl

pub one_ten_thousandth : fixed4 1 ≡ codes "0.0001"
unfolding digits
one_ten_thousandth = refl

pub range_after_a_stage : fixed3 1680 ≡ codes "1.680"
unfolding digits
range_after_a_stage = refl
