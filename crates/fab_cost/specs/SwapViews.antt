-- A swap, and what is read to compute its change of cost (our own).
use Rattle.std.specs.Prelude.{ℕ, ◌≡◌, ◌<◌, ◌||◌, Bool, List, length, take}
use Rattle.fab_arch.specs.declared.array.Site.{Site}
use Rattle.fab_site.specs.Placement.{swapped, IsSwapOf}
use Rattle.fab_cost.specs.declared.swap_view.SwapView.{SwapView}
use Rattle.fab_cost.specs.declared.swap_view.Part.{Part}
use Rattle.fab_cost.specs.declared.edge_counts.CountedBox.{CountedBox}
use Rattle.fab_net.specs.Netlist.{has_number, nets_of}
use Rattle.fab_cost.specs.Cost.{cost_of}
use Rattle.fab_cost.specs.Runs.{large_of, reach_lanes}
use Rattle.fab_cost.specs.Swapping.{AreRenewed, IsPart, blocks_of, cost_unless, has_block}

-- the sites before the swap
abbrev pub sites_before : SwapView → List Site
sites_before v = v.placement.now.sites

-- and after it
abbrev pub sites_after : SwapView → List Site
sites_after v = swapped v.placement.now.sites v.swap.now

-- the swap fits the placement, which has a site for each block
pub record IsView (v : SwapView) : Type 0 where
  pub lawful : IsSwapOf v.grid.now v.placement.now.sites v.swap.now
  pub whole : length v.design.now.kinds ≡ length v.placement.now.sites
  pub reach : v.reach ≡ reach_lanes v.grid.now v.swap.now

-- the block is one of the swap's, and of the design
pub record IsPartOf (v : SwapView) (p : Part) : Type 0 where
  pub part : IsPart v.swap.now p.block p.but
  pub block : p.block.0 < length v.design.now.kinds

-- the nets with many terminals of that block
abbrev pub nets_in : SwapView → Part → List ℕ
nets_in v p = nets_of (large_of v.design.now) p.block.0

-- the cost of such a net before the swap; 0 if it is left out
abbrev pub cost_before : SwapView → Part → ℕ → ℕ
cost_before v p n = cost_unless (large_of v.design.now) v.grid.now (sites_before v) p.but n

-- and after it
abbrev pub cost_after : SwapView → Part → ℕ → ℕ
cost_after v p n = cost_unless (large_of v.design.now) v.grid.now (sites_after v) p.but n

-- boxes of the nets with many terminals. Those of nets that pass a test are the ones after the swap, the others are those before it
abbrev pub AreRenewedIf : SwapView → (ℕ → Bool) → List CountedBox → Type 0
AreRenewedIf v test boxes = AreRenewed boxes (large_of v.design.now) v.grid.now (sites_before v) (sites_after v) test

-- the boxes of these nets are renewed: the nets that are left out, and the first k nets of the block
abbrev pub AreRenewedTo : SwapView → Part → ℕ → List CountedBox → Type 0
AreRenewedTo v p k boxes = AreRenewedIf v (λ n. has_block p.but (blocks_of v.design.now n) || has_number n (take k (nets_in v p))) boxes

-- the cost of all nets with many terminals
abbrev pub cost_of_large : SwapView → List Site → ℕ
cost_of_large v sites = cost_of (large_of v.design.now) v.grid.now sites
