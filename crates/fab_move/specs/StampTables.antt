-- Stamps as they are kept: in flat tables by block, by the index of a site, and by net (our own).
use Rattle.std.specs.Prelude.{ℕ, ◌≡◌, ◌<◌, ◌≤◌, List, length, Option, Some, None, is_some, true, false, slice_index}
use Rattle.fab_arch.specs.Grid.{GridShape}
use Rattle.fab_net.specs.declared.netlist_types.BlockId.{BlockId}
use Rattle.fab_net.specs.Netlist.{Netlist, has_number}
use Rattle.fab_cost.specs.Runs.{is_large}
use Rattle.fab_cost.specs.Swapping.{blocks_of}
use Rattle.fab_site.specs.declared.placement_types.Swap.{Swap}
use Rattle.fab_site.specs.Index.{index_of, site_count}
use Rattle.fab_move.specs.declared.marks.Mark.{Mark}
use Rattle.fab_move.specs.declared.marks.Mark.TheVariants.{Block, Place, Net}
use Rattle.fab_move.specs.declared.stamps.Stamps.{Stamps}

-- the stamp of a site by its index; 0 of no site
abbrev pub at_place : List ℕ → Option ℕ → ℕ
at_place stamps None = 0
at_place stamps (Some i) = slice_index stamps i

-- the stamp of a mark in three tables
abbrev pub stamp_in : GridShape → List ℕ → List ℕ → List ℕ → Mark → ℕ
stamp_in g blocks places nets (Block b) = slice_index blocks b.0
stamp_in g blocks places nets (Place site) = at_place places (index_of g site)
stamp_in g blocks places nets (Net n) = slice_index nets n.0

-- the stamp that is kept of a mark
abbrev pub kept_stamp : GridShape → Stamps → Mark → ℕ
kept_stamp g s m = stamp_in g s.blocks.items s.places.items s.nets.items m

-- the `near` numbers of the blocks: if neither a block's number nor the floor is above a base, then no stamp of the block, or of one of its
-- nets with up to 16 terminals, is above it
pub record IsNear (d : Netlist) (blocks nets near : List ℕ) (floor : ℕ) : Type 0 where
  pub long : length near ≡ length d.kinds
  pub own : (b base : ℕ) → b < length d.kinds → slice_index near b ≤ base → floor ≤ base → slice_index blocks b ≤ base
  pub few : (b n base : ℕ) → b < length d.kinds → has_number b (blocks_of d n) ≡ true → is_large d n ≡ false → slice_index near b ≤ base → floor ≤ base → slice_index nets n ≤ base

-- there is a stamp for each block, site and net, and a `near` number for each block
pub record IsTable (d : Netlist) (g : GridShape) (s : Stamps) : Type 0 where
  pub blocks : length s.blocks.items ≡ length d.kinds
  pub places : length s.places.items ≡ site_count g
  pub nets : length s.nets.items ≡ length d.terminals
  pub near : IsNear d s.blocks.items s.nets.items s.near.items s.floor

-- the `near` number of a block, or 0 if there is no block
abbrev pub near_of : List ℕ → Option BlockId → ℕ
near_of near None = 0
near_of near (Some b) = slice_index near b.0

-- neither the floor, nor the stamp of a swap's target, nor the `near` numbers of its blocks are above a number
pub record IsQuiet (g : GridShape) (s : Stamps) (base : ℕ) (swap : Swap) : Type 0 where
  pub floor : s.floor ≤ base
  pub target : kept_stamp g s (Place swap.to) ≤ base
  pub block : slice_index s.near.items swap.block.0 ≤ base
  pub other : near_of s.near.items swap.other ≤ base

-- the block, if any, is one of the design's
abbrev pub IsBlock : Netlist → Option BlockId → Type 0
IsBlock d None = Unit {0}
IsBlock d (Some b) = b.0 < length d.kinds

-- a swap of blocks of the design between sites of the array
pub record IsWithin (d : Netlist) (g : GridShape) (s : Swap) : Type 0 where
  pub block : s.block.0 < length d.kinds
  pub other : IsBlock d s.other
  pub from : is_some (index_of g s.from) ≡ true
  pub to : is_some (index_of g s.to) ≡ true
