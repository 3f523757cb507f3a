-- What a .place text stands for (VPR manual): a header of two lines, and for each block a line with its name and its
-- site, in any order. The limits are our own.
use Rattle.std.specs.Prelude.{ℕ, ◌≡◌, Bool, true, ◌&&◌, ◌==◌, nat_le, List, [], ◌∷◌, if◌then◌else◌, length, map, slice_index_or, codes, Option, Some, None, Result, Ok, Err}
use Rattle.std.specs.List.{list_any, AllByRecursion}
use Rattle.std.specs.Str.{bytes_eq}
use Rattle.fab_text.specs.Lines.{TextLine}
use Rattle.fab_text.specs.Decimal.{decimal_of}
use Rattle.fab_text.specs.declared.numbers.NumFault.{NumFault}
use Rattle.fab_arch.specs.declared.array.Site.{Site}
use Rattle.fab_arch.specs.Grid.{GridShape}
use Rattle.fab_net.specs.Names.{number_of, AllDistinct}
use Rattle.fab_net.specs.Netlist.{Netlist}
use Rattle.fab_site.specs.Placement.{site_of, IsLegal}

-- word i of a line, or an empty one if there is none
abbrev pub word_at : TextLine → ℕ → List ℕ
word_at l i = slice_index_or l.words i []

-- word i of a line is `name`
abbrev pub is_word : TextLine → ℕ → List ℕ → Bool
is_word l i name = bytes_eq (word_at l i) name

-- a number of at most 65,535
abbrev pub small : Result ℕ NumFault → Option ℕ
small (Ok n) = if nat_le n 65535 then Some n else None
small (Err e) = None

-- the whole number that a word writes, if it is at most 65,535
abbrev pub small_number : List ℕ → Option ℕ
small_number word = small (decimal_of word 0)

-- `Netlist file: A   Architecture file: B`
abbrev pub is_files_line : TextLine → Bool
is_files_line l =
    length l.words == 6
    && (is_word l 0 (codes "Netlist") && is_word l 1 (codes "file:"))
    && (is_word l 3 (codes "Architecture") && is_word l 4 (codes "file:"))

-- `Array size: NX x NY logic blocks`
abbrev pub is_size_line : TextLine → Bool
is_size_line l =
    length l.words == 7
    && (is_word l 0 (codes "Array") && is_word l 1 (codes "size:"))
    && is_word l 3 (codes "x")
    && (is_word l 5 (codes "logic") && is_word l 6 (codes "blocks"))

-- two values, if both are there
abbrev pub both : Option ℕ → Option ℕ → Option (ℕ × ℕ)
both None y = None
both (Some x) None = None
both (Some x) (Some y) = Some (x, y)

-- the columns and rows that `Array size: NX x NY logic blocks` gives
abbrev pub size_in : TextLine → Option (ℕ × ℕ)
size_in l = if is_size_line l then both (small_number (word_at l 2)) (small_number (word_at l 4)) else None

-- the size that a header gives; `files` and `size` are its two lines, if they exist
abbrev pub header_size : Option TextLine → Option TextLine → Option (ℕ × ℕ)
header_size None size = None
header_size (Some files) None = None
header_size (Some files) (Some size) = if is_files_line files then size_in size else None

-- the size that the header of a text gives
abbrev pub place_size_of : List TextLine → Option (ℕ × ℕ)
place_size_of [] = None
place_size_of (files ∷ []) = header_size (Some files) None
place_size_of (files ∷ size ∷ rest) = header_size (Some files) (Some size)

-- the site with these three numbers, if there are all three
abbrev pub site_from : Option ℕ → Option ℕ → Option ℕ → Option Site
site_from None y sub = None
site_from (Some x) None sub = None
site_from (Some x) (Some y) None = None
site_from (Some x) (Some y) (Some sub) = Some (record { x = x; y = y; sub = sub })

-- the site that a line `name x y sub` gives
abbrev pub site_in : TextLine → Option Site
site_in l = if length l.words == 4 then site_from (small_number (word_at l 1)) (small_number (word_at l 2)) (small_number (word_at l 3)) else None

-- the block that a line names
abbrev pub block_in : Netlist → TextLine → Option ℕ
block_in d l = number_of (word_at l 0) d.names

-- the line names a block, and gives it the site where it is placed
pub record Places (d : Netlist) (sites : List Site) (l : TextLine) : Type 0 where
  pub block : ℕ
  pub named : block_in d l ≡ Some block
  pub stands : site_in l ≡ Some (site_of sites block)

-- the line names the block `name`
abbrev pub names_block : List ℕ → TextLine → Bool
names_block name l = bytes_eq name (word_at l 0)

-- the text stands for this placement. Its header gives the size of the array, and each line after it places a block. Each block has exactly
-- one line, and the placement is legal
pub record StandsFor (d : Netlist) (g : GridShape) (ls : List TextLine) (sites : List Site) : Type 0 where
  pub files : TextLine
  pub size : TextLine
  pub rest : List TextLine
  pub text : ls ≡ files ∷ size ∷ rest
  pub files_line : is_files_line files ≡ true
  pub size_line : size_in size ≡ Some (g.nx, g.ny)
  pub lines : AllByRecursion (Places d sites) rest
  pub distinct : AllDistinct (map (λ l. word_at l 0) rest)
  pub complete : AllByRecursion (λ name. list_any (names_block name) rest ≡ true) d.names
  pub legal : IsLegal d g [] sites
