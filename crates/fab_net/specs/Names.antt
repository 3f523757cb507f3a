-- Names, numbered by first appearance (VPR manual).
use Rattle.std.specs.Prelude.{ℕ, ◌≡◌, Bool, false, not, List, [], ◌∷◌, ◌++◌, if◌then◌else◌, is_some, Option, Some, filter, position, codes, refl}
use Rattle.std.specs.List.{list_any}
use Rattle.std.specs.Str.{bytes_eq}

-- the first index of a name among names, from 0; none if it is absent
abbrev pub number_of : List ℕ → List (List ℕ) → Option ℕ
number_of name names = position (λ other. bytes_eq name other) names

-- the names, with `name` added at the end if it is new
abbrev pub with_name : List ℕ → List (List ℕ) → List (List ℕ)
with_name name names = if is_some (number_of name names) then names else names ++ name ∷ []

-- the two names differ
abbrev pub is_other : List ℕ → List ℕ → Bool
is_other name other = not (bytes_eq name other)

-- the distinct names, by first appearance
abbrev pub first_names : List (List ℕ) → List (List ℕ)
first_names [] = []
first_names (n ∷ ns) = n ∷ filter (is_other n) (first_names ns)

-- no name occurs twice
abbrev pub AllDistinct : List (List ℕ) → Type 0
AllDistinct [] = Unit {0}
AllDistinct (n ∷ ns) = (list_any (bytes_eq n) ns ≡ false) × AllDistinct ns

abbrev some_names : List (List ℕ)
some_names = codes "b" ∷ codes "a" ∷ codes "b" ∷ codes "c" ∷ codes "a" ∷ []

pub by_first_appearance : first_names some_names ≡ codes "b" ∷ codes "a" ∷ codes "c" ∷ []
by_first_appearance = refl

pub number_by_first_appearance : number_of (codes "c") (first_names some_names) ≡ Some 2
number_by_first_appearance = refl
