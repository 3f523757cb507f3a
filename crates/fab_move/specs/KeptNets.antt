-- The nets of a swap that have more than 16 terminals, as they are kept beside what is foreseen of a move (our own).
use Rattle.std.specs.Prelude.{ℕ, ◌≡◌, ◌+◌, ◌≤◌, ◌++◌, true, false, List, [], ◌∷◌, filter, length, map, replicate, take, Option, Some, None, slice_index_or, codes, refl}
use Rattle.fab_net.specs.declared.netlist_types.BlockId.{BlockId}
use Rattle.fab_net.specs.declared.netlist_types.NetId.{NetId}
use Rattle.fab_net.specs.declared.netlist_types.BlockKind.TheVariants.{Logic}
use Rattle.fab_net.specs.Netlist.{Netlist, nets_of, terminal}
use Rattle.fab_site.specs.declared.placement_types.Swap.{Swap}
use Rattle.fab_cost.specs.Runs.{is_large}
use Rattle.fab_move.specs.declared.kept_nets.LargeNets.{LargeNets}

-- the nets of a block that are not global, if there is such a block
abbrev pub nets_on : Netlist → Option BlockId → List NetId
nets_on d None = []
nets_on d (Some b) = map (λ n. record { 0 = n }) (nets_of d b.0)

-- the nets of a list that have more than 16 terminals
abbrev pub large_among : Netlist → List NetId → List NetId
large_among d ns = filter (λ n. is_large d n.0) ns

-- the nets at these places of a list
abbrev pub nets_at : List NetId → List ℕ → List NetId
nets_at ns places = map (λ i. slice_index_or ns i (record { 0 = 0 })) places

-- a swap's nets with more than 16 terminals: first those of its block, then those of the block that it displaces
abbrev pub large_nets : Netlist → Swap → List NetId
large_nets d s = large_among d (nets_on d (Some s.block)) ++ large_among d (nets_on d s.other)

-- what is kept of a swap's nets with more than 16 terminals, if anything: all of them, 5 at most
pub record AreKept (d : Netlist) (s : Swap) (n : LargeNets) : Type 0 where
  pub most : n.is_kept ≡ true → n.all ≤ 5
  pub nets : n.is_kept ≡ true → take n.all n.nets ≡ large_nets d s

-- the nets `more` were appended. If nets are still kept, they are the old ones followed by `more`. There are at most 5 in any case. They
-- are still kept if there is room
pub record AreAppended (old new : LargeNets) (more : List NetId) : Type 0 where
  pub most : new.all ≤ 5
  pub were : new.is_kept ≡ true → old.is_kept ≡ true
  pub nets : new.is_kept ≡ true → take new.all new.nets ≡ take old.all old.nets ++ more
  pub all : new.is_kept ≡ true → new.all ≡ old.all + length more
  pub still : old.is_kept ≡ true → old.all + length more ≤ 5 → new.is_kept ≡ true

-- a block on net 1 only, another on nets 0 and 1, and a third on nets 1 and 2, of which net 2 has 17 terminals
abbrev three_blocks : Netlist
three_blocks = record {
  kinds = Logic ∷ Logic ∷ Logic ∷ [];
  names = codes "b1" ∷ codes "b2" ∷ codes "b3" ∷ [];
  terminals = (terminal 1 0 ∷ []) ∷ (terminal 0 0 ∷ terminal 1 1 ∷ terminal 2 0 ∷ []) ∷ replicate 17 (terminal 2 1) ∷ [];
  globals = false ∷ false ∷ false ∷ [];
}

-- the nets of both: a net of both is there twice
pub nets_of_both : nets_on three_blocks (Some (record { 0 = 0 })) ++ nets_on three_blocks (Some (record { 0 = 1 })) ≡ record { 0 = 1 } ∷ record { 0 = 0 } ∷ record { 0 = 1 } ∷ []
nets_of_both = refl

-- the first two blocks are not on the net with many terminals
pub none_of_both_is_large : large_among three_blocks (nets_on three_blocks (Some (record { 0 = 0 }))) ++ large_among three_blocks (nets_on three_blocks (Some (record { 0 = 1 }))) ≡ []
none_of_both_is_large = refl

-- the third is
pub one_of_both_is_large : large_among three_blocks (nets_on three_blocks (Some (record { 0 = 0 }))) ++ large_among three_blocks (nets_on three_blocks (Some (record { 0 = 2 }))) ≡ record { 0 = 2 } ∷ []
one_of_both_is_large = refl
