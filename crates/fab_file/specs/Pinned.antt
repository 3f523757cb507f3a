-- What a location text stands for: an optional header, and lines that give blocks their sites, in any order (fixing after the VPR manual's
-- pad file; our own are that it may name any block, that its header may be left out, and the last word `free`).
use Rattle.std.specs.Prelude.{ℕ, ◌≡◌, Bool, true, false, ◌&&◌, ◌==◌, if◌then◌else◌, List, [], ◌∷◌, length, map, take, drop, codes, Option, Some, None}
use Rattle.std.specs.List.{AllByRecursion}
use Rattle.fab_text.specs.Lines.{TextLine}
use Rattle.fab_text.specs.FirstFault.{or_else, fault_of_all}
use Rattle.fab_arch.specs.declared.array.Site.{Site}
use Rattle.fab_arch.specs.Grid.{GridShape}
use Rattle.fab_net.specs.Names.{AllDistinct}
use Rattle.fab_net.specs.Netlist.{Netlist}
use Rattle.fab_site.specs.Placement.{fixed_at}
use Rattle.fab_site.specs.Pins.{either_site, ArePins}
use Rattle.fab_file.specs.declared.fault.PlaceFault.{PlaceFault}
use Rattle.fab_file.specs.Place.{word_at, is_word, place_size_of, site_in, block_in}
use Rattle.fab_file.specs.PlaceFaults.{is_block, place_header_fault, block_fault}

-- the first line of a text begins a header if it begins with these two words
abbrev pub begins_header : TextLine → Bool
begins_header l = is_word l 0 (codes "Netlist") && is_word l 1 (codes "file:")

-- the text begins with a header
abbrev pub has_header : List TextLine → Bool
has_header [] = false
has_header (first ∷ ls) = begins_header first

-- the lines after the header, or all lines if there is none
abbrev pub block_lines : List TextLine → List TextLine
block_lines ls = if has_header ls then drop 2 ls else ls

-- the line has five words, and the last is `free`
abbrev pub is_free : TextLine → Bool
is_free l = length l.words == 5 && is_word l 4 (codes "free")

-- a line cut after its first four words
abbrev pub first_four : TextLine → TextLine
first_four l = record { number = l.number; words = take 4 l.words; spans = take 4 l.spans }

-- the line without its last word, if that is the fifth and is `free`. So it is `name x y sub`
abbrev pub without_free : TextLine → TextLine
without_free l = if is_free l then first_four l else l

-- the line names a block, and gives it a site
pub record Locates (d : Netlist) (l : TextLine) : Type 0 where
  pub block : ℕ
  pub site : Site
  pub named : block_in d l ≡ Some block
  pub given : site_in (without_free l) ≡ Some site

-- the site that a line `name x y sub` gives block `b`, if it names that block
abbrev pub site_for : Netlist → ℕ → TextLine → Option Site
site_for d b l = if is_block b (block_in d l) then site_in l else None

-- the site where a line fixes block `b`, if it does
abbrev pub fixed_by : Netlist → ℕ → TextLine → Option Site
fixed_by d b l = if is_free l then None else site_for d b (without_free l)

-- the site where a line begins block `b` and does not fix it, if it does
abbrev pub begun_by : Netlist → ℕ → TextLine → Option Site
begun_by d b l = if is_free l then site_for d b (without_free l) else None

-- the first site that one of these lines gives
abbrev pub first_given : (TextLine → Option Site) → List TextLine → Option Site
first_given by_line [] = None
first_given by_line (l ∷ ls) = either_site (by_line l) (first_given by_line ls)

-- the text stands for these sites. A header, if there is one, gives the array's size. Each line locates a block, and no block has two
-- lines. Blocks are fixed and begun where their lines say, and no others are. No site is given twice
pub record IsLocated (d : Netlist) (g : GridShape) (ls : List TextLine) (fixed begun : List (Option Site)) : Type 0 where
  pub header : has_header ls ≡ true → place_size_of ls ≡ Some (g.nx, g.ny)
  pub lines : AllByRecursion (Locates d) (block_lines ls)
  pub distinct : AllDistinct (map (λ l. word_at l 0) (block_lines ls))
  pub fixed_sites : (b : ℕ) → fixed_at fixed b ≡ first_given (fixed_by d b) (block_lines ls)
  pub begun_sites : (b : ℕ) → fixed_at begun b ≡ first_given (begun_by d b) (block_lines ls)
  pub lawful : ArePins d g fixed begun

-- the first fault of a block line that follows others: that of `name x y sub`, with or without `free` after it
abbrev pub pin_fault : Netlist → GridShape → List TextLine → TextLine → Option PlaceFault
pin_fault d g before l = block_fault d g (map without_free before) (without_free l)

-- the fault of the header, if there is one
abbrev pub header_fault : GridShape → List TextLine → Option PlaceFault
header_fault g ls = if has_header ls then place_header_fault g ls else None

-- if the header and the block lines have no fault, the whole text has none: it need not name every block
abbrev pub no_text_fault : List TextLine → Option PlaceFault
no_text_fault blocks = None

-- the first fault of a location text: the header's, or else the first of the block lines' faults
abbrev pub pins_fault : Netlist → GridShape → List TextLine → Option PlaceFault
pins_fault d g ls = or_else (header_fault g ls) (fault_of_all (pin_fault d g) no_text_fault (block_lines ls))

-- a text either stands for sites of blocks or has a first fault, never both
abbrev pub LocationMeansOrFaults : Netlist → GridShape → List TextLine → Type 0
LocationMeansOrFaults d g ls =
    ((fixed begun : List (Option Site)) → IsLocated d g ls fixed begun → pins_fault d g ls ≡ None)
    × (pins_fault d g ls ≡ None → (fixed : List (Option Site)) × ((begun : List (Option Site)) × IsLocated d g ls fixed begun))
