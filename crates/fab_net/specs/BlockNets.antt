-- The nets of blocks, and how many pins of a block are on each (our own).
use Rattle.std.specs.Prelude.{ℕ, ◌==◌, Bool, false, not, ◌&&◌, List, [], ◌∷◌, if◌then◌else◌, map, filter, count_by, length, slice_index_or}
use Rattle.std.specs.List.{list_any, range_with_len}
use Rattle.fab_net.specs.declared.netlist_types.NetId.{NetId}
use Rattle.fab_net.specs.declared.netlist_types.Terminal.{Terminal}

-- the terminal is on block b
abbrev pub is_at : ℕ → Terminal → Bool
is_at b t = t.block.0 == b

-- whether a net that is not global has a terminal on a block
abbrev pub touches : List (List Terminal) → List Bool → ℕ → ℕ → Bool
touches terminals globals b n = not (slice_index_or globals n false) && list_any (is_at b) (slice_index_or terminals n [])

-- net n
abbrev pub net_id : ℕ → NetId
net_id n = record { 0 = n }

-- the nets of a block, in ascending order, without global ones
abbrev pub nets_on : List (List Terminal) → List Bool → ℕ → List NetId
nets_on terminals globals b = map net_id (filter (touches terminals globals b) (range_with_len 0 (length terminals)))

-- the nets of each block, block by block
abbrev pub block_nets : ℕ → List (List Terminal) → List Bool → List (List NetId)
block_nets blocks terminals globals = map (nets_on terminals globals) (range_with_len 0 blocks)

-- the net `net`, if one of the terminals of `row` is on block b
abbrev pub net_where : ℕ → List Terminal → ℕ → List NetId
net_where net row b = if list_any (is_at b) row then net_id net ∷ [] else []

-- how many of the terminals of `row` are on block b
abbrev pub pins_at : ℕ → List Terminal → ℕ
pins_at b row = count_by (is_at b) row

-- how many pins of a block a net has
abbrev pub pins_of : List (List Terminal) → ℕ → ℕ → ℕ
pins_of terminals b n = pins_at b (slice_index_or terminals n [])

-- how many pins of a block each of its nets has, net by net
abbrev pub pins_on : List (List Terminal) → List Bool → ℕ → List ℕ
pins_on terminals globals b = map (pins_of terminals b) (filter (touches terminals globals b) (range_with_len 0 (length terminals)))

-- how many pins each block has on each of its nets, block by block
abbrev pub block_pins : ℕ → List (List Terminal) → List Bool → List (List ℕ)
block_pins blocks terminals globals = map (pins_on terminals globals) (range_with_len 0 blocks)

-- how many of the terminals of `row` are on block b, if any is
abbrev pub pins_where : List Terminal → ℕ → List ℕ
pins_where row b = if list_any (is_at b) row then pins_at b row ∷ [] else []
