-- The rule of the board's word. It is that of a shared ticket counter, which each taker advances with one fetch_add. What the seats
-- know of it, and that it ends at the board's count, is our own.
use Rattle.std.specs.Prelude.{◌≡◌, ℕ, ◌+◌, ◌-◌, ◌^◌, ◌<◌, ◌≤◌, List, [], ◌∷◌, ◌++◌, length, sum_by, All, MatchBool, nat_lt}
use mathlib.Core.Option.{some}
use lib.ListN.{get_elem?}
use Rattle.atomic_table.specs.Table.{State, Me, Step}
use Rattle.fab_board.specs.declared.rule.View.{View}
use Rattle.fab_board.specs.declared.rule.Size.{Size}
use Rattle.fab_board.specs.Counts.{times, once_below}

abbrev pub sized : ℕ → ℕ → Size
sized count seats = record { count = count; seats = seats }

-- what a seat knows
abbrev pub knows : ℕ → ℕ → List ℕ → ℕ → View
knows count parts list told = record { count = count; parts = parts; list = list; told = told }

-- how many numbers the seats were given
abbrev pub given : List View → ℕ
given vs = sum_by (λ v. length v.list) vs

-- how often the seats found no number left, added up
abbrev pub tellings : List View → ℕ
tellings vs = sum_by (λ v. v.told) vs

-- how often x was given
abbrev pub drawn : ℕ → List View → ℕ
drawn x vs = sum_by (λ v. times x v.list) vs

-- the parts of the right to close that the seats have
abbrev pub parts : List View → ℕ
parts vs = sum_by (λ v. v.parts) vs

-- a seat has at least as many parts as tellings; without a part it has no number, and with one it knows the board's count
abbrev pub Fair : ℕ → View → Type 0
Fair count v = (v.told ≤ v.parts) × (v.parts ≡ 0 → v.list ≡ []) × (0 < v.parts → v.count ≡ count)

-- The word is the count of the numbers given plus the tellings. The numbers given are the first ones, each once. A seat gets None
-- only once all are given. There is one part for each seat of the board, so the word never wraps.
pub record Dealt (k : Size) (s : State (Unit {0}) View) : Type 0 where
  pub word : s.words ≡ (given s.views + tellings s.views) ∷ []
  pub below : given s.views ≤ k.count
  pub all_given : 0 < tellings s.views → given s.views ≡ k.count
  pub once : (x : ℕ) → drawn x s.views ≡ once_below x (given s.views)
  pub whole : parts s.views ≡ k.seats
  pub fits : k.count + k.seats < 2 ^ 63
  pub each : (i : ℕ) (v : View) → get_elem? s.views i ≡ some v → Fair k.count v

-- the first seat: it has all parts and no number
abbrev pub opened : Size → View
opened k = knows k.count k.seats [] 0

-- what a fetch_add shows: the number found is new for the seat, and above its others; or all numbers are given
abbrev pub Claimed : Step (Unit {0}) → Me (Unit {0}) View → ℕ → Me (Unit {0}) View → Type 0
Claimed st v found w = (w.1 ≡ v.1) × MatchBool (nat_lt found v.0.count)
    ((w.0 ≡ knows v.0.count v.0.parts (v.0.list ++ found ∷ []) v.0.told) × All (λ x. x < found) v.0.list)
    (w.0 ≡ knows v.0.count v.0.parts v.0.list (v.0.told + 1))

-- a split: one part goes to a new seat
abbrev pub kept_back : View → View
kept_back v = knows v.count (v.parts - 1) v.list v.told

-- what the new seat of a split knows
abbrev pub one_part : View → View
one_part v = knows v.count 1 [] 0

-- a join: one seat knows what both knew, and the other nothing
abbrev pub together : View → View → View
together v w = knows v.count (v.parts + w.parts) (v.list ++ w.list) (v.told + w.told)

-- what an empty seat knows
abbrev pub nothing : View
nothing = knows 0 0 [] 0
