-- Whether a change of cost is accepted (after Betz, Rose and Marquardt, who accept with the chance exp(-change / t); the tables
-- that replace the exponential are our own).
use Rattle.std.specs.Prelude.{ℕ, ℤ, pos, negsuc, ◌≡◌, ◌*◌, ◌/◌, ◌%◌, ◌^◌, Bool, true, false, nat_lt, ◌&&◌, ◌||◌, int_le, nat_abs, List, [], ◌∷◌, slice_index, refl}

-- entry n: the chance of accepting a change of n temperatures, in millionths; 0 beyond the table
abbrev pub whole_chances : List ℕ
whole_chances =
    1000000 ∷ 367879 ∷ 135335 ∷ 49787 ∷ 18316 ∷ 6738 ∷ 2479 ∷ 912
    ∷ 335 ∷ 123 ∷ 45 ∷ 17 ∷ 6 ∷ 2 ∷ 1
    ∷ []

-- entry n: the factor for n more sixteenths of a temperature, in millionths
abbrev pub sixteenth_chances : List ℕ
sixteenth_chances =
    1000000 ∷ 939413 ∷ 882497 ∷ 829029 ∷ 778801 ∷ 731616 ∷ 687289 ∷ 645649
    ∷ 606531 ∷ 569783 ∷ 535261 ∷ 502832 ∷ 472367 ∷ 443747 ∷ 416862 ∷ 391606
    ∷ []

-- the chance of accepting a change of z sixteenths of a temperature, in millionths
unfoldable pub chance_of : ℕ → ℕ
chance_of z = slice_index whole_chances (z / 16) * slice_index sixteenth_chances (z % 16) / 1000000

-- a 32-bit word as a fraction of 2^32, in millionths, rounded down
abbrev pub millionths : ℕ → ℕ
millionths w = w * 1000000 / 2 ^ 32

-- whether the word `w` accepts a change of cost at temperature `t`. It always does if the change makes nothing worse; at temperature 0 only
-- then
unfoldable pub is_accepted : ℤ → ℕ → ℕ → Bool
is_accepted change t w =
    int_le change (pos 0) || (nat_lt 0 t && nat_lt (millionths w) (chance_of (16 * nat_abs change / t)))

pub a_quarter_of_the_temperature : chance_of 4 ≡ 778801
unfolding chance_of
a_quarter_of_the_temperature = refl

pub one_temperature : chance_of 16 ≡ 367879
unfolding chance_of
one_temperature = refl

-- a greater change may have a greater chance: rounding leaves a gap of zeros
pub fourteen_temperatures : chance_of 224 ≡ 1
unfolding chance_of
fourteen_temperatures = refl

pub a_little_less_than_fourteen : chance_of 223 ≡ 0
unfolding chance_of
a_little_less_than_fourteen = refl

pub fifteen_temperatures : chance_of 240 ≡ 0
unfolding chance_of
fifteen_temperatures = refl

pub the_last_word_that_is_accepted : is_accepted (pos 10000) 10000 1580028273 ≡ true
unfolding is_accepted chance_of
the_last_word_that_is_accepted = refl

pub the_first_word_that_is_not : is_accepted (pos 10000) 10000 1580028274 ≡ false
unfolding is_accepted chance_of
the_first_word_that_is_not = refl

pub nothing_worse_at_temperature_0 : is_accepted (pos 0) 0 4294967295 ≡ true
unfolding is_accepted
nothing_worse_at_temperature_0 = refl

pub something_worse_at_temperature_0 : is_accepted (pos 1) 0 0 ≡ false
unfolding is_accepted
something_worse_at_temperature_0 = refl

pub something_better : is_accepted (negsuc 4) 0 4294967295 ≡ true
unfolding is_accepted
something_better = refl

pub just_below_fifteen_temperatures : chance_of 239 ≡ 0
unfolding chance_of
just_below_fifteen_temperatures = refl

pub hardly_worse_at_the_highest_temperature : is_accepted (pos 1) 1073741824 4294967295 ≡ true
unfolding is_accepted chance_of
hardly_worse_at_the_highest_temperature = refl

-- one and a half temperatures are 24 sixteenths: the change itself is multiplied by 16, not its whole temperatures
pub one_temperature_and_a_half : chance_of 24 ≡ 223130
unfolding chance_of
one_temperature_and_a_half = refl

pub the_last_word_that_is_accepted_between_two_temperatures : is_accepted (pos 15) 10 958336052 ≡ true
unfolding is_accepted chance_of
the_last_word_that_is_accepted_between_two_temperatures = refl

pub the_first_word_that_is_not_between_two_temperatures : is_accepted (pos 15) 10 958336053 ≡ false
unfolding is_accepted chance_of
the_first_word_that_is_not_between_two_temperatures = refl
