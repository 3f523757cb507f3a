-- What the block lines read so far mean: for each block the site that a line gave it (our own).
use Rattle.std.specs.Prelude.{ℕ, ◌≡◌, Bool, not, is_some, if◌then◌else◌, List, position, replicate, length, Option, Some, None, slice_get, slice_set}
use Rattle.fab_text.specs.Lines.{TextLine}
use Rattle.fab_text.specs.FirstFault.{or_else, unless}
use Rattle.fab_arch.specs.declared.array.Site.{Site}
use Rattle.fab_arch.specs.Grid.{GridShape, kind_at}
use Rattle.fab_arch.specs.declared.array.SiteKind.{SiteKind}
use Rattle.fab_arch.specs.declared.array.SiteKind.TheVariants as site_kind
use Rattle.fab_net.specs.declared.netlist_types.BlockKind.{BlockKind}
use Rattle.fab_net.specs.Netlist.{Netlist, is_logic}
use Rattle.fab_site.specs.Placement.{flat, Fits}
use Rattle.fab_site.specs.Draft.{NoneShared, holder_of, is_missing}
use Rattle.fab_file.specs.declared.fault.PlaceFault.{PlaceFault}
use Rattle.fab_file.specs.declared.fault.PlaceFault.TheVariants.{UnknownBlock, Repeated, Taken, BadLine}
use Rattle.fab_file.specs.Place.{site_in, block_in}
use Rattle.fab_file.specs.PlaceFaults.{kind_fault, missing_fault}

-- block lines of a netlist on an array: each block's site, or none yet
pub record LinesOf : Type 0 where
  pub netlist : Netlist
  pub grid : GridShape
  pub sites : List (Option Site)

-- the array has each given site, and it is of its block's kind; no two blocks have the same site
pub record AreFitting (d : Netlist) (g : GridShape) (sites : List (Option Site)) : Type 0 where
  pub fit : (b : ℕ) (s : Site) → slice_get sites b ≡ Some (Some s) → Fits d g b s
  pub apart : NoneShared sites

-- before the first line, no block has a site
abbrev pub no_lines : Netlist → GridShape → LinesOf
no_lines d g = record { netlist = d; grid = g; sites = replicate (length d.kinds) None }

-- the kind of site that a block of a kind needs
abbrev pub wanted : BlockKind → SiteKind
wanted k = if is_logic k then site_kind.Logic else site_kind.Pad

-- the block has its site
abbrev pub has_site : List (Option Site) → ℕ → Bool
has_site sites block = is_some (flat (slice_get sites block))

-- the first fault of one more block line, number n; `site` is the site that it gives, and `named` the block that it names, if there is one
abbrev pub take_fault_by : LinesOf → ℕ → Option Site → Option ℕ → Option PlaceFault
take_fault_by p n None named = Some (BadLine n)
take_fault_by p n (Some site) None = Some (UnknownBlock n)
take_fault_by p n (Some site) (Some block) =
    or_else (unless (not (has_site p.sites block)) (Repeated n))
    (or_else (kind_fault p.netlist n block (kind_at p.grid site))
    (unless (not (is_some (holder_of p.sites site))) (Taken n)))

-- the first fault of one more block line
abbrev pub take_fault : LinesOf → TextLine → Option PlaceFault
take_fault p l = take_fault_by p l.number (site_in l) (block_in p.netlist l)

-- the block that a line names gets the line's site
abbrev pub seated : LinesOf → Option ℕ → Option Site → LinesOf
seated p None site = p
seated p (Some block) site = record { netlist = p.netlist; grid = p.grid; sites = slice_set p.sites block site }

-- what the block lines mean with one more that has no fault
abbrev pub with_line : LinesOf → TextLine → LinesOf
with_line p l = seated p (block_in p.netlist l) (site_in l)

-- the fault at the end: the first block without a site
abbrev pub end_fault : LinesOf → Option PlaceFault
end_fault p = missing_fault (position is_missing p.sites)
