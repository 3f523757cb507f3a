-- What contracts see of a board and of a seat. Our own: a seat is the list of numbers that it was given, and whether one of its claims
-- found no number left.
use Rattle.std.specs.Prelude.{ℕ, List, Bool, flat_map}
use Rattle.atomic_table.specs.Seated.{TableId}

-- which board it is, and how many numbers it has
pub record BoardName : Type 0 where
  pub table : TableId
  pub count : ℕ

-- the board of the seat, the numbers that it was given, in order, and whether one of its claims found no number left
pub record SeatModel : Type 0 where
  pub board : BoardName
  pub list : List ℕ
  pub told : Bool

-- a board, and how many seats it was made with
pub record BoardModel : Type 0 where
  pub name : BoardName
  pub seats : ℕ

-- the lists of all seats, joined
abbrev pub all_numbers : List SeatModel → List ℕ
all_numbers seats = flat_map (λ s. s.list) seats
