-- The array of sites, after the VPR manual: logic sites inside, pads around them, corners empty. Our own are the limits, and that a pad may
-- take any sub of its position, so that there may be gaps.
use Rattle.std.specs.Prelude.{ℕ, ◌≡◌, ◌+◌, ◌*◌, ◌<◌, ◌≤◌, Bool, if◌then◌else◌, nat_lt, nat_le, ◌&&◌, ◌==◌, List, [], ◌∷◌, ◌++◌, map, reverse, Option, Some, None, refl}
use Rattle.std.specs.List.{range_with_len, list_any}
use Rattle.fab_arch.specs.declared.array.Site.{Site}
use Rattle.fab_arch.specs.declared.array.SiteKind.{SiteKind}
use Rattle.fab_arch.specs.declared.array.SiteKind.TheVariants.{Logic, Pad}

-- an array: its columns, its rows, and how many pads each position has
pub record GridShape : Type 0 where
  pub nx : ℕ
  pub ny : ℕ
  pub io_rat : ℕ

abbrev pub shape : ℕ → ℕ → ℕ → GridShape
shape nx ny io_rat = record { nx = nx; ny = ny; io_rat = io_rat }

-- the limits of an array
pub record AreLimits (nx ny io_rat : ℕ) : Type 0 where
  pub columns : (1 ≤ nx) × (nx ≤ 1000)
  pub rows : (1 ≤ ny) × (ny ≤ 1000)
  pub ratio : (1 ≤ io_rat) × (io_rat ≤ 64)

-- the pad positions in perimeter order: up the left side, along the top, down the right side, and back
-- along the bottom
abbrev pub perimeter : GridShape → List (ℕ × ℕ)
perimeter g =
    map (λ i. (0, i)) (range_with_len 1 g.ny)
    ++ map (λ i. (i, g.ny + 1)) (range_with_len 1 g.nx)
    ++ reverse (map (λ i. (g.nx + 1, i)) (range_with_len 1 g.ny))
    ++ reverse (map (λ i. (i, 0)) (range_with_len 1 g.nx))

-- a site inside the array; its sub is 0
abbrev pub is_logic_site : GridShape → Site → Bool
is_logic_site g s = nat_le 1 s.x && nat_le s.x g.nx && (nat_le 1 s.y && nat_le s.y g.ny) && s.sub == 0

-- the site is at this position
abbrev pub is_position : Site → (ℕ × ℕ) → Bool
is_position s at = at.0 == s.x && at.1 == s.y

-- a pad site: a position of the perimeter, with a sub below io_rat
abbrev pub is_pad_site : GridShape → Site → Bool
is_pad_site g s = list_any (is_position s) (perimeter g) && nat_lt s.sub g.io_rat

-- the kind of a site, or none if the array has no such site
abbrev pub kind_at : GridShape → Site → Option SiteKind
kind_at g s = if is_logic_site g s then Some Logic else if is_pad_site g s then Some Pad else None

-- there are at least `logic` logic sites
abbrev pub HasLogicSites : GridShape → ℕ → Type 0
HasLogicSites g logic = logic ≤ g.nx * g.ny

-- there are at least `pads` pad sites
abbrev pub HasPadSites : GridShape → ℕ → Type 0
HasPadSites g pads = pads ≤ 2 * (g.nx + g.ny) * g.io_rat

-- there is a site for each of `logic` logic blocks and `pads` pads
abbrev pub Holds : GridShape → ℕ → ℕ → Type 0
Holds g logic pads = HasLogicSites g logic × HasPadSites g pads

abbrev pub square : ℕ → ℕ → GridShape
square n io_rat = shape n n io_rat

-- no square with a side of at least 1 and less than `below` holds `logic` logic blocks and `pads` pads
abbrev pub NoSquareHolds : ℕ → ℕ → ℕ → ℕ → Type 0
NoSquareHolds below logic pads io_rat = (n : ℕ) → 1 ≤ n → n < below → ¬ Holds (square n io_rat) logic pads

-- `g` is the smallest square array within the limits that has a site for each of `logic` logic blocks and `pads` pads
pub record IsLeastSquare (g : GridShape) (logic pads io_rat : ℕ) : Type 0 where
  pub is_square : g ≡ square g.nx io_rat
  pub limits : AreLimits g.nx g.nx io_rat
  pub enough : Holds g logic pads
  pub least : NoSquareHolds g.nx logic pads io_rat

pub perimeter_of_two_by_two : perimeter (square 2 1) ≡ (0, 1) ∷ (0, 2) ∷ (1, 3) ∷ (2, 3) ∷ (3, 2) ∷ (3, 1) ∷ (2, 0) ∷ (1, 0) ∷ []
perimeter_of_two_by_two = refl

pub a_corner_is_no_site : kind_at (square 2 1) (record { x = 0; y = 3; sub = 0 }) ≡ None
a_corner_is_no_site = refl

pub the_second_pad_of_a_position : kind_at (square 2 2) (record { x = 3; y = 1; sub = 1 }) ≡ Some Pad
the_second_pad_of_a_position = refl

pub a_logic_site_has_no_second_sub : kind_at (square 2 2) (record { x = 1; y = 1; sub = 1 }) ≡ None
a_logic_site_has_no_second_sub = refl
