-- The nets of each block by size, in four tables. One table has where the rows of all four begin (our own).
use Rattle.std.specs.Prelude.{ℕ, ◌≡◌, ◌+◌, ◌<◌, ◌≤◌, List, [], ◌∷◌, length, map, slice_index, refl}
use Rattle.fab_cost.specs.declared.records.Record.{Record}

-- for each block, the records of its nets with 2 to 4, 5 to 8 and 9 to 16 terminals, and the places of those with more
pub record SizedRowsOf : Type 0 where
  pub small : List (List (Record 3))
  pub middle : List (List (Record 7))
  pub wide : List (List (Record 15))
  pub large : List (List ℕ)

-- where the rows of one kind begin: 0 is small, 1 middle, 2 wide, 3 large
abbrev pub column : ℕ → List (List ℕ) → List ℕ
column kind starts = map (λ four. slice_index four kind) starts

-- no row ends before it begins, or after the last item
abbrev pub AreStarts : {T : Type 0} → List ℕ → List T → Type 0
AreStarts starts items = (r : ℕ) → r + 1 < length starts → (slice_index starts r ≤ slice_index starts (r + 1)) × (slice_index starts (r + 1) ≤ length items)

-- the table of starts fits the items of each kind
pub record FitTogether (starts : List (List ℕ)) (small : List (Record 3)) (middle : List (Record 7)) (wide : List (Record 15)) (large : List ℕ) : Type 0 where
  pub some : 0 < length starts
  pub of_small : AreStarts (column 0 starts) small
  pub of_middle : AreStarts (column 1 starts) middle
  pub of_wide : AreStarts (column 2 starts) wide
  pub of_large : AreStarts (column 3 starts) large

-- the second of two kinds
pub a_column : column 1 ((0 ∷ 0 ∷ []) ∷ (2 ∷ 3 ∷ []) ∷ []) ≡ 0 ∷ 3 ∷ []
a_column = refl
