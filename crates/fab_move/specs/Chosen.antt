-- The chosen block, and the block on a target, if any (our own).
use Rattle.std.specs.Prelude.{ℕ, Bool, false, List, Option, Some, None}
use Rattle.fab_arch.specs.declared.array.Site.{Site}
use Rattle.fab_net.specs.declared.netlist_types.BlockId.{BlockId}
use Rattle.fab_move.specs.Propose.{is_fixed}

-- the number of a block, if there is one
abbrev pub number_of : Option BlockId → Option ℕ
number_of None = None
number_of (Some b) = Some b.0

-- there is a block, and it is fixed
abbrev pub holder_is_fixed : List (Option Site) → Option BlockId → Bool
holder_is_fixed fixed None = false
holder_is_fixed fixed (Some b) = is_fixed fixed b.0
