-- The sites given to some blocks before the first move: a list for fixed blocks and one for begun blocks. Each is by block number and may
-- end early (fixing after the VPR manual's pad file; that any block may be fixed, or only begun, is our own).
use Rattle.std.specs.Prelude.{ℕ, ◌≡◌, ◌<◌, true, List, [], ◌∷◌, length, is_some, Option, Some, None, refl}
use Rattle.fab_arch.specs.declared.array.Site.{Site}
use Rattle.fab_arch.specs.Grid.{GridShape}
use Rattle.fab_net.specs.Netlist.{Netlist}
use Rattle.fab_site.specs.Placement.{Fits, fixed_at, site}

-- the first site, or else the other
abbrev pub either_site : Option Site → Option Site → Option Site
either_site None other = other
either_site (Some s) other = Some s

-- the site where a block is fixed or begun, if any
abbrev pub given_at : List (Option Site) → List (Option Site) → ℕ → Option Site
given_at fixed begun b = either_site (fixed_at fixed b) (fixed_at begun b)

-- each given block is one of the netlist's, at a site of its kind; no two have one site, and no block is both fixed and begun
pub record ArePins (d : Netlist) (g : GridShape) (fixed begun : List (Option Site)) : Type 0 where
  pub within : (b : ℕ) (s : Site) → given_at fixed begun b ≡ Some s → b < length d.kinds
  pub fit : (b : ℕ) (s : Site) → given_at fixed begun b ≡ Some s → Fits d g b s
  pub apart : (a b : ℕ) (s : Site) → given_at fixed begun a ≡ Some s → given_at fixed begun b ≡ Some s → a ≡ b
  pub once : (b : ℕ) → is_some (fixed_at fixed b) ≡ true → fixed_at begun b ≡ None

pub a_begun_block : given_at (Some (site 0 1 0) ∷ []) (None ∷ Some (site 1 1 0) ∷ []) 1 ≡ Some (site 1 1 0)
a_begun_block = refl

pub a_block_that_is_not_given : given_at (Some (site 0 1 0) ∷ []) (None ∷ Some (site 1 1 0) ∷ []) 2 ≡ None
a_block_that_is_not_given = refl
