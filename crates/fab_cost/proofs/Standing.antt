-- What a value that stands for a placement says of its parts, before a swap and after it.
use Rattle.std.proofs.Common.{◌≡◌, ℕ, ◌+◌, ◌<◌, ◌^◌, List, length, Some, sym, subst, ap, ◌∙◌, arith}
use Rattle.fab_arch.specs.declared.array.Site.{Site}
use Rattle.fab_arch.specs.Grid.{GridShape}
use Rattle.fab_net.specs.Netlist.{Netlist}
use Rattle.fab_net.specs.declared.netlist_types.BlockId.{BlockId}
use Rattle.fab_site.specs.declared.placement_types.Swap.{Swap}
use Rattle.fab_site.specs.Placement.{IsSwapOf}
use Rattle.fab_cost.specs.declared.edge_counts.CountedBox.{CountedBox}
use Rattle.fab_cost.specs.declared.runs.Runs.{Runs}
use Rattle.fab_cost.specs.Cost.{cost_of}
use Rattle.fab_cost.specs.Swapping.{BoxesStandFor, CountedBoxesOf, CountedStandsFor, HaveBoxes, counted_blocks}
use Rattle.fab_cost.specs.Runs.{IsKept, boxes_seen, large_of, positions_in, table_of}
use Rattle.fab_cost.proofs.Kept.{large_have, table_is}
use Rattle.fab_cost.proofs.Sited.{block_below, other_below}
use Rattle.fab_cost.proofs.Steps.{table_long}

abbrev pub shown : Runs → List (List ℕ) → List CountedBox → ℕ → CountedBoxesOf
shown r table kept total = record { nets = r.terminals; positions = positions_in table; boxes = boxes_seen r.terminals (positions_in table) kept; total = total }

pub record Stands (d : Netlist) (g : GridShape) (sites : List Site) (r : Runs) (table : List (List ℕ)) (kept : List CountedBox) (total : ℕ) : Type 0 where
  pub nets : r.terminals ≡ counted_blocks d
  pub table_is : table ≡ table_of g sites
  pub have : HaveBoxes kept (large_of d) g sites
  pub sum : total ≡ cost_of d g sites

pub parts_stand : {d : Netlist} {g : GridShape} {sites : List Site} {r : Runs} {table : List (List ℕ)} {kept : List CountedBox} {most : List ℕ} {total : ℕ} {b : CountedBoxesOf}
    → shown r table kept total ≡ b → CountedStandsFor b d g sites → IsKept table r kept most total → Stands d g sites r table kept total
parts_stand {d} {g} {sites} {r} {table} {kept} {most} {total} {b} e stands is =
    let nets = ap (λ (v : CountedBoxesOf). v.nets) e ∙ stands.made.nets in
    record {
      nets = nets;
      table_is = table_is g sites table is.vectors (ap (λ (v : CountedBoxesOf). v.positions) e ∙ stands.at);
      have = large_have d g sites r.terminals (positions_in table) kept nets is.long (subst (λ (v : CountedBoxesOf). HaveBoxes v.boxes d g sites) (sym e) stands.have);
      sum = ap (λ (v : CountedBoxesOf). v.total) e ∙ stands.sum;
    }

-- another cost is kept
pub kept_with : {table : List (List ℕ)} {r : Runs} {kept : List CountedBox} {most : List ℕ} {total other : ℕ} → IsKept table r kept most total → other < 2 ^ 43 → IsKept table r kept most other
kept_with is low = record { below = low; vectors = is.vectors; long = is.long; bounds = is.bounds; within = is.within; runs = is.runs }

-- the same of a value whose cost may be another one
pub parts_but_cost : {d : Netlist} {g : GridShape} {sites : List Site} {r : Runs} {table : List (List ℕ)} {kept : List CountedBox} {most : List ℕ} {total : ℕ} {b : CountedBoxesOf}
    → shown r table kept total ≡ b → BoxesStandFor b d g sites → cost_of d g sites < 2 ^ 43 → IsKept table r kept most total → Stands d g sites r table kept (cost_of d g sites)
parts_but_cost {d} {g} {sites} e stands low is = parts_stand (ap (λ (v : CountedBoxesOf). record v { total = cost_of d g sites }) e) stands (kept_with is low)

pub block_in_table : {g : GridShape} {sites : List Site} {s : Swap} {n : ℕ} {table : List (List ℕ)} → IsSwapOf g sites s → n ≡ length sites → table ≡ table_of g sites → s.block.0 + 1 < length table
block_in_table {g} {sites} {s} {n} {table} lawful w et =
    let l = table_long g sites n table w et in
    let b = block_below g sites s n lawful w in
    omega (arith, l, b)

pub other_in_table : {g : GridShape} {sites : List Site} {s : Swap} {b : BlockId} {n : ℕ} {table : List (List ℕ)} → IsSwapOf g sites s → s.other ≡ Some b → n ≡ length sites → table ≡ table_of g sites → b.0 + 1 < length table
other_in_table {g} {sites} {s} {b} {n} {table} lawful is w et =
    let l = table_long g sites n table w et in
    let low = other_below g sites s b n lawful is w in
    omega (arith, l, low)
