-- A placement is the list of sites by block number (our own). Each block is on a site of its kind, and no two blocks are on one site.
use Rattle.std.specs.Prelude.{ℕ, ◌≡◌, ◌+◌, ◌<◌, Bool, true, false, ◌&&◌, ◌==◌, if◌then◌else◌, List, [], ◌∷◌, length, is_some, Option, Some, None, slice_get, slice_index_or, slice_set, refl}
use Rattle.std.proofs.Common.{subst}
use Rattle.fab_arch.specs.declared.array.Site.{Site}
use Rattle.fab_arch.specs.declared.array.SiteKind.{SiteKind}
use Rattle.fab_arch.specs.declared.array.SiteKind.TheVariants as site_kind
use Rattle.fab_arch.specs.Grid.{GridShape, shape, kind_at}
use Rattle.fab_net.specs.declared.netlist_types.BlockId.{BlockId}
use Rattle.fab_net.specs.Netlist.{Netlist, is_logic_at}
use Rattle.fab_site.specs.declared.placement_types.Swap.{Swap}

-- what is read past the end of a list of sites. No array has this site
abbrev pub nowhere : Site
nowhere = record { x = 0; y = 0; sub = 0 }

-- the two are one site
abbrev pub same_site : Site → Site → Bool
same_site a b = a.x == b.x && a.y == b.y && a.sub == b.sub

-- the site of block b
abbrev pub site_of : List Site → ℕ → Site
site_of sites b = slice_index_or sites b nowhere

-- the first block on the site. The first block of the list has number `n`
abbrev pub at_from : ℕ → List Site → Site → Option BlockId
at_from n [] site = None
at_from n (s ∷ sites) site = if same_site s site then Some (record { 0 = n }) else at_from (n + 1) sites site

-- the block on a site
abbrev pub at : List Site → Site → Option BlockId
at sites site = at_from 0 sites site

-- a placement on an array, as contracts see it
pub record PlacementOf : Type 0 where
  pub grid : GridShape
  pub sites : List Site

-- the sites after the other block of a swap, if any, went to `site`
abbrev pub with_other : List Site → Option BlockId → Site → List Site
with_other sites None site = sites
with_other sites (Some b) site = slice_set sites b.0 site

-- the sites after a swap: its block went to `to`, and the other block, if any, to `from`
abbrev pub swapped : List Site → Swap → List Site
swapped sites s = with_other (slice_set sites s.block.0 s.to) s.other s.from

-- the swap fits these sites (our own): its block is at `from` and goes to another site of the same kind, and `other` is the block there, if
-- any. `from` is a site of the array. So `to` is one too, since it is of the same kind
pub record IsSwapOf (g : GridShape) (sites : List Site) (s : Swap) : Type 0 where
  pub stands : slice_get sites s.block.0 ≡ Some s.from
  pub away : ¬ (s.to ≡ s.from)
  pub holder : at sites s.to ≡ s.other
  pub kind : kind_at g s.to ≡ kind_at g s.from
  pub there : is_some (kind_at g s.from) ≡ true

-- the kind of site that a block needs
abbrev pub kind_wanted : Netlist → ℕ → SiteKind
kind_wanted d b = if is_logic_at d b then site_kind.Logic else site_kind.Pad

-- the array has the site, and the site is of the block's kind
abbrev pub Fits : Netlist → GridShape → ℕ → Site → Type 0
Fits d g b s = kind_at g s ≡ Some (kind_wanted d b)

-- the site, if there is one
abbrev pub flat : Option (Option Site) → Option Site
flat None = None
flat (Some site) = site

-- the site where a block is fixed, if any. The list of fixed sites is by block number and may end early
abbrev pub fixed_at : List (Option Site) → ℕ → Option Site
fixed_at fixed b = flat (slice_get fixed b)

-- no two blocks are on one site
abbrev pub AreApart : List Site → Type 0
AreApart sites = (a b : ℕ) → a < length sites → b < length sites → site_of sites a ≡ site_of sites b → a ≡ b

-- each block of the netlist is on a site of its kind, no two blocks are on one site, and each fixed block is on the site where it is fixed
pub record IsLegal (d : Netlist) (g : GridShape) (fixed : List (Option Site)) (sites : List Site) : Type 0 where
  pub all : length sites ≡ length d.kinds
  pub fit : (b : ℕ) → b < length sites → Fits d g b (site_of sites b)
  pub apart : AreApart sites
  pub stay : (b : ℕ) (s : Site) → fixed_at fixed b ≡ Some s → slice_get sites b ≡ Some s

-- a site of three numbers
abbrev pub site : ℕ → ℕ → ℕ → Site
site x y sub = record { x = x; y = y; sub = sub }

abbrev two_sites : List Site
two_sites = site 1 1 0 ∷ site 2 2 0 ∷ []

pub the_second_block : at two_sites (site 2 2 0) ≡ Some (record { 0 = 1 })
the_second_block = refl

pub an_empty_site : at two_sites (site 2 1 0) ≡ None
an_empty_site = refl

pub two_blocks_change_places : swapped two_sites (record { block = record { 0 = 0 }; from = site 1 1 0; to = site 2 2 0; other = Some (record { 0 = 1 }) }) ≡ site 2 2 0 ∷ site 1 1 0 ∷ []
two_blocks_change_places = refl

pub one_block_goes_to_an_empty_site : swapped two_sites (record { block = record { 0 = 1 }; from = site 2 2 0; to = site 2 1 0; other = None }) ≡ site 1 1 0 ∷ site 2 1 0 ∷ []
one_block_goes_to_an_empty_site = refl

abbrev to_an_empty_site : Swap
to_an_empty_site = record { block = record { 0 = 1 }; from = site 2 2 0; to = site 2 1 0; other = None }

abbrev off_the_array : Swap
off_the_array = record { block = record { 0 = 1 }; from = site 2 2 0; to = site 4 4 0; other = None }

abbrev IsSure : Bool → Type 0
IsSure true = true ≡ true
IsSure false = ⊥

pub a_swap_of_these_sites : IsSwapOf (shape 2 2 1) two_sites to_an_empty_site
a_swap_of_these_sites = record {
  stands = refl;
  away = λ e. subst (λ (s : Site). IsSure (s.y == 1)) e refl;
  holder = refl;
  kind = refl;
  there = refl;
}

-- the target is no site of the array, so it has no kind
pub no_swap_to_a_site_off_the_array : IsSwapOf (shape 2 2 1) two_sites off_the_array → None ≡ Some site_kind.Logic
no_swap_to_a_site_off_the_array is = is.kind

-- a smaller array has neither site, so their kinds are equal: both are none
pub no_swap_between_sites_off_the_array : IsSwapOf (shape 1 1 1) two_sites off_the_array → false ≡ true
no_swap_between_sites_off_the_array is = is.there

pub a_block_past_the_end_is_not_fixed : fixed_at (None ∷ Some (site 0 1 0) ∷ []) 2 ≡ None
a_block_past_the_end_is_not_fixed = refl
