-- Numbers by block that are raised near a block (our own).
use Rattle.std.specs.Prelude.{ℕ, ◌≡◌, ◌==◌, ◌<◌, ◌&&◌, not, if◌then◌else◌, max, Bool, true, false, List, [], ◌∷◌, ◌++◌, length, replicate, slice_index, codes, refl}
use Rattle.std.specs.List.{list_any}
use Rattle.fab_net.specs.declared.netlist_types.BlockKind.TheVariants.{Logic}
use Rattle.fab_net.specs.Netlist.{Netlist, has_number, nets_of, terminal}
use Rattle.fab_cost.specs.declared.records.Record.{Record}
use Rattle.fab_cost.specs.Runs.{is_large}
use Rattle.fab_cost.specs.Swapping.{blocks_of}

-- the numbers of the blocks that pass the test were raised to x, if they were lower. All others are as they were
pub record AreLifted (test : ℕ → Bool) (x : ℕ) (old new : List ℕ) : Type 0 where
  pub long : length new ≡ length old
  pub each : (k : ℕ) → k < length old → slice_index new k ≡ (if test k then max (slice_index old k) x else slice_index old k)

-- the numbers in some records. Each is that of a block, or the one past the last block
abbrev pub blocks_in : {W : ℕ} → List (Record W) → List ℕ
blocks_in [] = []
blocks_in (r ∷ rs) = r.others ++ blocks_in rs

-- k is another block than b, and both have a terminal on a net that is not global and has up to 16 terminals
abbrev pub are_neighbours : Netlist → ℕ → ℕ → Bool
are_neighbours d b k = not (k == b) && list_any (λ n. not (is_large d n) && has_number k (blocks_of d n)) (nets_of d b)

-- those of two records of two numbers
pub blocks_in_two : blocks_in {W = 2} (record { others = 4 ∷ 7 ∷ []; factor = 1 } ∷ record { others = 2 ∷ 9 ∷ []; factor = 1 } ∷ []) ≡ 4 ∷ 7 ∷ 2 ∷ 9 ∷ []
blocks_in_two = refl

-- block 0 shares net 0 with block 1, and net 1, which has 17 terminals, with block 2
abbrev near_and_far : Netlist
near_and_far = record {
  kinds = Logic ∷ Logic ∷ Logic ∷ [];
  names = codes "a" ∷ codes "b" ∷ codes "c" ∷ [];
  terminals = (terminal 0 0 ∷ terminal 1 0 ∷ []) ∷ (terminal 0 1 ∷ replicate 16 (terminal 2 0)) ∷ [];
  globals = false ∷ false ∷ [];
}

pub a_small_net_makes_neighbours : are_neighbours near_and_far 0 1 ≡ true
a_small_net_makes_neighbours = refl

pub a_large_net_makes_none : are_neighbours near_and_far 0 2 ≡ false
a_large_net_makes_none = refl

pub no_block_is_its_own_neighbour : are_neighbours near_and_far 0 0 ≡ false
no_block_is_its_own_neighbour = refl
