-- A placement as it is written (our own, after the VPR manual): the header, an empty line, two comment lines, and a line
-- for each block in order of number, with one tab between columns.
use Rattle.std.specs.Prelude.{ℕ, ◌≡◌, ◌<◌, Bool, true, false, not, ◌&&◌, List, [], ◌∷◌, ◌++◌, Option, length, map, take, slice_index_or, codes, decimal, refl}
use Rattle.std.specs.Fmt.{digits}
use Rattle.std.specs.Io.KnownBytes.{Appends}
use Rattle.std.specs.List.{flat_map, list_any, list_all, range_with_len}
use Rattle.fab_text.specs.Failures.{grown}
use Rattle.fab_text.specs.Lines.{is_continued}
use Rattle.fab_text.specs.LineWords.{can_be_word}
use Rattle.fab_arch.specs.declared.array.Site.{Site}
use Rattle.fab_arch.specs.Grid.{GridShape, shape}
use Rattle.fab_net.specs.declared.netlist_types.BlockKind.TheVariants.{InputPad, OutputPad, Logic}
use Rattle.fab_net.specs.Netlist.{Netlist}
use Rattle.fab_site.specs.Placement.{site_of, site}
use Rattle.fab_file.specs.declared.fault.PlaceFault.{PlaceFault}
use Rattle.fab_file.specs.declared.fault.PlaceFault.TheVariants.{BadLabel, Write, NoMemory}

-- whether bytes can be part of a header: one word whose last byte is not a backslash
abbrev pub is_label : List ℕ → Bool
is_label label = can_be_word label && not (is_continued label)

-- both names can be part of a header
abbrev pub are_labels : List ℕ → List ℕ → Bool
are_labels net arch = is_label net && is_label arch

-- `Netlist file: NET   Architecture file: ARCH`
abbrev pub files_text : List ℕ → List ℕ → List ℕ
files_text net arch = codes "Netlist file: " ++ net ++ codes "   Architecture file: " ++ arch

-- `Array size: NX x NY logic blocks`
abbrev pub size_text : GridShape → List ℕ
size_text g = codes "Array size: " ++ decimal g.nx ++ codes " x " ++ decimal g.ny ++ codes " logic blocks"

-- a tab and a number
abbrev pub column : ℕ → List ℕ
column n = codes "\t" ++ decimal n

-- the line of a block: its name, its site, and its number after a `#`
abbrev pub block_text : List ℕ → Site → ℕ → List ℕ
block_text name s number =
    name ++ column s.x ++ column s.y ++ column s.sub ++ codes "\t#" ++ decimal number

-- the line of block b
abbrev pub block_line : Netlist → List Site → ℕ → List ℕ
block_line d sites b = block_text (slice_index_or d.names b []) (site_of sites b) b

-- the two lines of the header, an empty one, and two comments
abbrev pub head_lines : List ℕ → List ℕ → GridShape → List (List ℕ)
head_lines net arch g =
    files_text net arch
    ∷ size_text g
    ∷ []
    ∷ codes "#block name\tx\ty\tsubblk\tblock number"
    ∷ codes "#----------\t--\t--\t------\t------------"
    ∷ []

-- a line for each block
abbrev pub block_lines : Netlist → List Site → List (List ℕ)
block_lines d sites = map (block_line d sites) (range_with_len 0 (length d.kinds))

-- a line with its line feed
abbrev pub ended : List ℕ → List ℕ
ended line = line ++ codes "\n"

-- the text of a placement, with these names of the netlist file and the architecture file
abbrev pub place_text : List ℕ → List ℕ → Netlist → GridShape → List Site → List ℕ
place_text net arch d g sites = flat_map ended (head_lines net arch g) ++ flat_map ended (block_lines d sites)

-- what was written is a beginning of the text, but not all of it
abbrev pub IsCut : List ℕ → Option (List ℕ) → Option (List ℕ) → Type 0
IsCut text old new = (n : ℕ) × (n < length text) × Appends old new (take n text)

-- a fault of a label or of the writer, or out of memory
abbrev pub IsWriteFault : PlaceFault → Type 0
IsWriteFault BadLabel = Unit {0}
IsWriteFault Write = Unit {0}
IsWriteFault NoMemory = Unit {0}
IsWriteFault e = ⊥

-- how often a writer has failed after this fault. The count grows only if the fault is the writer's
abbrev pub failed_with : PlaceFault → ℕ → ℕ
failed_with Write n = grown n
failed_with e n = n

abbrev three_blocks : Netlist
three_blocks = record {
  kinds = InputPad ∷ OutputPad ∷ Logic ∷ [];
  names = codes "a" ∷ codes "z" ∷ codes "b" ∷ [];
  terminals = [];
  globals = [];
}

pub three_blocks_on_one_logic_site : place_text (codes "t.net") (codes "t.arch") three_blocks (shape 1 1 1) (site 0 1 0 ∷ site 2 1 0 ∷ site 1 1 0 ∷ [])
    ≡ codes "Netlist file: t.net   Architecture file: t.arch\nArray size: 1 x 1 logic blocks\n\n#block name\tx\ty\tsubblk\tblock number\n#----------\t--\t--\t------\t------------\na\t0\t1\t0\t#0\nz\t2\t1\t0\t#1\nb\t1\t1\t0\t#2\n"
unfolding digits
three_blocks_on_one_logic_site = refl

pub numbers_of_several_digits : block_text (codes "pad_10") (site 12 1000 3) 65534 ≡ codes "pad_10\t12\t1000\t3\t#65534"
unfolding digits
numbers_of_several_digits = refl

pub a_label_without_bytes : is_label [] ≡ false
a_label_without_bytes = refl

pub a_label_with_a_mark : list_any is_label (codes "a b" ∷ codes "a\tb" ∷ codes "a\r" ∷ codes "a\n" ∷ codes "#" ∷ []) ≡ false
a_label_with_a_mark = refl

pub a_label_with_a_backslash_last : is_label (codes "a\\") ≡ false
unfolding is_continued
a_label_with_a_backslash_last = refl

pub other_labels : list_all is_label (codes "t.net" ∷ codes "a\\b" ∷ codes "\\a" ∷ []) ≡ true
unfolding is_continued
other_labels = refl
