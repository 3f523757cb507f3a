-- Random words, by which the start placement and the moves draw (our own). A word is below 2^32: the functions that return words have that
-- type.
use Rattle.std.specs.Prelude.{ℕ, ◌≡◌, ◌-◌, ◌*◌, ◌/◌, ◌^◌, List, [], ◌∷◌, slice_index_or, refl}

-- picks one of `n` choices by a word of 32 bits
abbrev pub pick_of : ℕ → ℕ → ℕ
pick_of w n = w * n / 2 ^ 32

-- word `i` of a list, or 0 past its end
abbrev pub word_at : List ℕ → ℕ → ℕ
word_at words i = slice_index_or words i 0

-- the words of move `k`, or all 0 past the end of the list
abbrev pub words_at : List (List ℕ) → ℕ → List ℕ
words_at moves k = slice_index_or moves k (0 ∷ 0 ∷ 0 ∷ 0 ∷ [])

pub the_middle_word : pick_of (2 ^ 31) 3 ≡ 1
the_middle_word = refl

pub the_last_word : pick_of (2 ^ 32 - 1) 3 ≡ 2
the_last_word = refl
