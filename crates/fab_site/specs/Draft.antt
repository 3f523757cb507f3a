-- An unfinished placement: each block's site, or none yet (our own).
use Rattle.std.specs.Prelude.{ℕ, ◌≡◌, ◌+◌, ◌≤◌, Bool, false, if◌then◌else◌, List, [], ◌∷◌, length, is_some, not, Option, Some, None, slice_get, refl}
use Rattle.fab_arch.specs.declared.array.Site.{Site}
use Rattle.fab_arch.specs.Grid.{GridShape}
use Rattle.fab_net.specs.declared.netlist_types.BlockId.{BlockId}
use Rattle.fab_site.specs.Placement.{same_site, site}
use Rattle.fab_site.specs.Index.{index_of, site_count, held}

-- an unfinished placement: an array, and for each block its site, if it has one
pub record DraftOf : Type 0 where
  pub grid : GridShape
  pub sites : List (Option Site)

-- the block has this site
abbrev pub is_site : Option Site → Site → Bool
is_site None site = false
is_site (Some s) site = same_site s site

-- the first block on the site. The first block of the list has number `n`
abbrev pub holder_from : ℕ → List (Option Site) → Site → Option BlockId
holder_from n [] site = None
holder_from n (s ∷ sites) site = if is_site s site then Some (record { 0 = n }) else holder_from (n + 1) sites site

-- the block on a site
abbrev pub holder_of : List (Option Site) → Site → Option BlockId
holder_of sites site = holder_from 0 sites site

-- the block has no site
abbrev pub is_missing : Option Site → Bool
is_missing s = not (is_some s)

-- no two blocks are on one site
abbrev pub NoneShared : List (Option Site) → Type 0
NoneShared sites = (a b : ℕ) (s : Site) → slice_get sites a ≡ Some (Some s) → slice_get sites b ≡ Some (Some s) → a ≡ b

-- the table has an entry for each site, which is the block there. There are at most 65,535 blocks, and no two are on one site
pub record IsTabled (g : GridShape) (sites : List (Option Site)) (holders : List ℕ) : Type 0 where
  pub size : length holders ≡ site_count g
  pub few : length sites ≤ 65535
  pub each : (s : Site) → held holders (index_of g s) ≡ holder_of sites s
  pub apart : NoneShared sites

pub the_block_on_a_site : holder_of (None ∷ Some (site 1 1 0) ∷ []) (site 1 1 0) ≡ Some (record { 0 = 1 })
the_block_on_a_site = refl
