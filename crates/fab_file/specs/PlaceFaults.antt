-- The first fault of a .place text (its order is our own).
use Rattle.std.specs.Prelude.{ℕ, ◌≡◌, ◌==◌, Bool, true, false, not, ◌&&◌, List, drop, position, Option, Some, None}
use Rattle.std.specs.List.{list_any, filter_map}
use Rattle.fab_text.specs.Lines.{TextLine}
use Rattle.fab_text.specs.FirstFault.{or_else, unless, fault_of_all}
use Rattle.fab_arch.specs.declared.array.Site.{Site}
use Rattle.fab_arch.specs.declared.array.SiteKind.{SiteKind}
use Rattle.fab_arch.specs.declared.array.SiteKind.TheVariants as site_kind
use Rattle.fab_arch.specs.Grid.{GridShape, kind_at}
use Rattle.fab_net.specs.Netlist.{Netlist}
use Rattle.fab_site.specs.Placement.{same_site, kind_wanted}
use Rattle.fab_file.specs.declared.fault.PlaceFault.{PlaceFault}
use Rattle.fab_file.specs.declared.fault.PlaceFault.TheVariants.{BadHeader, WrongSize, UnknownBlock, Repeated, NoSuchSite, WrongKind, Taken, Missing, BadLine, NoMemory}
use Rattle.fab_file.specs.Place.{place_size_of, site_in, block_in, names_block, StandsFor}

-- the fault of a header: `BadHeader` if it gives no size, `WrongSize` if it gives a size that is not the array's
abbrev pub size_fault_by : GridShape → Option (ℕ × ℕ) → Option PlaceFault
size_fault_by g None = Some BadHeader
size_fault_by g (Some size) = unless (size.0 == g.nx && size.1 == g.ny) WrongSize

-- the fault of the header, the first two lines of a .place text
abbrev pub place_header_fault : GridShape → List TextLine → Option PlaceFault
place_header_fault g ls = size_fault_by g (place_size_of ls)

-- the sites that lines give
abbrev pub sites_given : List TextLine → List Site
sites_given ls = filter_map site_in ls

-- whether a block is named, and it is block number `block`
abbrev pub is_block : ℕ → Option ℕ → Bool
is_block block None = false
is_block block (Some other) = other == block

-- one of these lines names the block
abbrev pub is_repeated : Netlist → List TextLine → ℕ → Bool
is_repeated d before block = list_any (λ l. is_block block (block_in d l)) before

-- the two are of one kind
abbrev pub same_kind : SiteKind → SiteKind → Bool
same_kind site_kind.Logic site_kind.Logic = true
same_kind site_kind.Logic site_kind.Pad = false
same_kind site_kind.Pad site_kind.Logic = false
same_kind site_kind.Pad site_kind.Pad = true

-- the fault of a block on a site of this kind: there is no such site, or it is not of the block's kind
abbrev pub kind_fault : Netlist → ℕ → ℕ → Option SiteKind → Option PlaceFault
kind_fault d n block None = Some (NoSuchSite n)
kind_fault d n block (Some kind) = unless (same_kind kind (kind_wanted d block)) (WrongKind n)

-- the first fault of block line n, which follows the lines `before`; `site` is the site that it gives, and `named` the block that it names,
-- if there is one
abbrev pub block_fault_by : Netlist → GridShape → List TextLine → ℕ → Option Site → Option ℕ → Option PlaceFault
block_fault_by d g before n None named = Some (BadLine n)
block_fault_by d g before n (Some site) None = Some (UnknownBlock n)
block_fault_by d g before n (Some site) (Some block) =
    or_else (unless (not (is_repeated d before block)) (Repeated n))
    (or_else (kind_fault d n block (kind_at g site))
    (unless (not (list_any (same_site site) (sites_given before))) (Taken n)))

-- the first fault of a block's line that follows other block lines
abbrev pub block_fault : Netlist → GridShape → List TextLine → TextLine → Option PlaceFault
block_fault d g before l = block_fault_by d g before l.number (site_in l) (block_in d l)

-- the fault of a block that no line names
abbrev pub missing_fault : Option ℕ → Option PlaceFault
missing_fault None = None
missing_fault (Some block) = Some (Missing block)

-- the fault of a whole text whose header and block lines have none: the first block that no line names
abbrev pub text_fault : Netlist → List TextLine → Option PlaceFault
text_fault d blocks = missing_fault (position (λ name. not (list_any (names_block name) blocks)) d.names)

-- the first fault of a text: the header's, or else the first of the block lines' faults, or else that of the whole text
abbrev pub first_fault : Netlist → GridShape → List TextLine → Option PlaceFault
first_fault d g ls = or_else (place_header_fault g ls) (fault_of_all (block_fault d g) (text_fault d) (drop 2 ls))

-- a text either stands for a placement or has a first fault, never both
abbrev pub PlaceMeansOrFaults : Netlist → GridShape → List TextLine → Type 0
PlaceMeansOrFaults d g ls =
    ((sites : List Site) → StandsFor d g ls sites → first_fault d g ls ≡ None)
    × (first_fault d g ls ≡ None → (sites : List Site) × StandsFor d g ls sites)

-- a returned fault is `fault`, or out of memory, which may come for any text
abbrev pub FaultIs : PlaceFault → Option PlaceFault → Type 0
FaultIs NoMemory fault = Unit {0}
FaultIs e fault = fault ≡ Some e

-- the fault of a header that gives no size
abbrev pub size_fault : Option (ℕ × ℕ) → Option PlaceFault
size_fault None = Some BadHeader
size_fault (Some size) = None
