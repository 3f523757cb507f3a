-- The numbers of accepted moves, for an owner that keeps them and for one that only counts (our own).
use Rattle.std.specs.Prelude.{ℕ, ◌≡◌, ◌+◌, ◌≤◌, List, [], ◌∷◌, ◌++◌, Option, Some, None, vec_len, vec_capacity, refl}
use Rattle.std.specs.Global.{Vec}

-- the numbers that are kept; none if no numbers are kept
abbrev pub noted : Option (Vec ℕ) → Option (List ℕ)
noted None = None
noted (Some v) = Some v.items

-- the kept numbers with these added; none if no numbers are kept
abbrev pub noted_more : Option (List ℕ) → List ℕ → Option (List ℕ)
noted_more None more = None
noted_more (Some l) more = Some (l ++ more)

-- there is room for n more numbers, if they are kept
abbrev pub HasRoomFor : Option (Vec ℕ) → ℕ → Type 0
HasRoomFor None n = n ≡ n
HasRoomFor (Some v) n = vec_len v + n ≤ vec_capacity v

pub kept_numbers_grow : noted_more (Some (3 ∷ [])) (5 ∷ []) ≡ Some (3 ∷ 5 ∷ [])
kept_numbers_grow = refl

pub none_stay_none : noted_more None (5 ∷ []) ≡ None
none_stay_none = refl
