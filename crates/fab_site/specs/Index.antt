-- The places of an array's sites in one flat table: logic sites by rows, then pad sites by position and sub (our own).
use Rattle.std.specs.Prelude.{ℕ, ◌≡◌, ◌+◌, ◌-◌, ◌*◌, ◌≤◌, if◌then◌else◌, nat_lt, nat_le, ◌&&◌, ◌==◌, List, length, Option, Some, None, slice_index, refl}
use Rattle.fab_arch.specs.declared.array.Site.{Site}
use Rattle.fab_arch.specs.Grid.{GridShape, shape, is_logic_site}
use Rattle.fab_net.specs.declared.netlist_types.BlockId.{BlockId}
use Rattle.fab_site.specs.Placement.{AreApart, at, site}

-- the number of the position at (x, y) in perimeter order
abbrev pub place_of : ℕ → ℕ → ℕ → ℕ → Option ℕ
place_of nx ny x y =
    if nat_le 1 y && nat_le y ny then (if x == 0 then Some (y - 1) else if x == nx + 1 then Some (ny + nx + (ny - y)) else None)
    else if nat_le 1 x && nat_le x nx then (if y == ny + 1 then Some (ny + (x - 1)) else if y == 0 then Some (ny + nx + ny + (nx - x)) else None)
    else None

-- the index of a pad site, from its position's place on the perimeter and its sub
abbrev pub pad_index : GridShape → ℕ → Option ℕ → Option ℕ
pad_index g sub None = None
pad_index g sub (Some place) = if nat_lt sub g.io_rat then Some (g.nx * g.ny + (place * g.io_rat + sub)) else None

-- the place of a site in the table, or none if the array has no such site
unfoldable pub index_of : GridShape → Site → Option ℕ
index_of g s = if is_logic_site g s then Some ((s.y - 1) * g.nx + (s.x - 1)) else pad_index g s.sub (place_of g.nx g.ny s.x s.y)

-- the number of sites of the array
abbrev pub site_count : GridShape → ℕ
site_count g = g.nx * g.ny + (g.ny + g.nx + g.ny + g.nx) * g.io_rat

-- the block of an entry n of the table: none if n is 0, else block n - 1
abbrev pub block_from : ℕ → Option BlockId
block_from n = if n == 0 then None else Some (record { 0 = n - 1 })

-- the block at a place of the table; an entry of 0 means none, and n means block n - 1
abbrev pub held : List ℕ → Option ℕ → Option BlockId
held holders None = None
held holders (Some i) = block_from (slice_index holders i)

-- the entry of the table for a block, or for none
abbrev pub number_for : Option BlockId → ℕ
number_for None = 0
number_for (Some b) = b.0 + 1

-- the table has an entry for each site, which is the block there. There are at most 65,535 blocks, and no two are on one site
pub record IsIndexed (g : GridShape) (sites : List Site) (holders : List ℕ) : Type 0 where
  pub size : length holders ≡ site_count g
  pub few : length sites ≤ 65535
  pub each : (s : Site) → held holders (index_of g s) ≡ at sites s
  pub apart : AreApart sites

pub first_pad_behind_the_logic_sites : index_of (shape 2 2 2) (site 0 1 1) ≡ Some 5
unfolding index_of
first_pad_behind_the_logic_sites = refl

pub last_pad : index_of (shape 2 2 2) (site 1 0 1) ≡ Some 19
unfolding index_of
last_pad = refl

pub a_logic_site : index_of (shape 2 2 2) (site 2 2 0) ≡ Some 3
unfolding index_of
a_logic_site = refl
