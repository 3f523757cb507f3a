-- What the tests check of the placements that they make.
use Rattle.std.proofs.Common.{◌≡◌, ℕ, zero, suc, ◌<◌, Bool, cond, List, [], ◌∷◌, get_or, Some, sym, ap, ◌∙◌}
use Rattle.std.specs.Prelude.{slice_get}
use Rattle.fab_arch.specs.declared.array.Site.{Site}
use Rattle.fab_arch.specs.declared.array.SiteKind.{SiteKind}
use Rattle.fab_arch.specs.declared.array.SiteKind.TheVariants as site_kind
use Rattle.fab_arch.specs.Grid.{GridShape, kind_at}
use Rattle.fab_net.specs.declared.netlist_types.BlockKind.{BlockKind}
use Rattle.fab_net.specs.declared.netlist_types.BlockKind.TheVariants.{Logic}
use Rattle.fab_net.specs.Netlist.{Netlist, is_logic}
use Rattle.fab_site.specs.Placement.{Fits, site_of}

abbrev pub site_kind_for : Bool → SiteKind
site_kind_for logic = cond logic site_kind.Logic site_kind.Pad

-- none of the first blocks has the site of this one
abbrev pub IsFree : List Site → ℕ → ℕ → Type 0
IsFree sites first block = (b : ℕ) → b < first → ¬ (site_of sites b ≡ site_of sites block)

kind_got : (kinds : List BlockKind) (b : ℕ) (k : BlockKind) → slice_get kinds b ≡ Some k → get_or kinds b Logic ≡ k
kind_got [] b k h = cc
kind_got (x ∷ xs) zero k h = cc
kind_got (x ∷ xs) (suc b) k h = kind_got xs b k h

pub fits_if : (d : Netlist) (g : GridShape) (b : ℕ) (s : Site) (k : BlockKind) (found wanted : SiteKind) → slice_get d.kinds b ≡ Some k → kind_at g s ≡ Some found → wanted ≡ site_kind_for (is_logic k) → found ≡ wanted → Fits d g b s
fits_if d g b s k found wanted ek eg ew e = eg ∙ ap Some (e ∙ ew ∙ ap (λ v. site_kind_for (is_logic v)) (sym (kind_got d.kinds b k ek)))
