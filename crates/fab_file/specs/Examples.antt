-- Examples of what .place texts stand for: the netlist of a pad `a`, a pad `z` and a logic block `b`, on one logic site.
use Rattle.std.specs.Prelude.{ℕ, ◌≡◌, List, [], ◌∷◌, ◌++◌, Option, Some, None, refl, codes}
use Rattle.fab_text.specs.Lines.{lines, lines_from, trimmed, content, is_continued, without_backslash, words_of}
use Rattle.fab_text.specs.Decimal.{decimal_of}
use Rattle.fab_arch.specs.Grid.{shape}
use Rattle.fab_net.specs.declared.netlist_types.BlockKind.TheVariants.{InputPad, OutputPad, Logic}
use Rattle.fab_net.specs.Netlist.{Netlist}
use Rattle.fab_file.specs.declared.fault.PlaceFault.{PlaceFault}
use Rattle.fab_file.specs.declared.fault.PlaceFault.TheVariants.{BadHeader, WrongSize, UnknownBlock, Repeated, NoSuchSite, WrongKind, Taken, Missing, BadLine}
use Rattle.fab_file.specs.Place.{place_size_of}
use Rattle.fab_file.specs.PlaceFaults.{first_fault}

abbrev three_blocks : Netlist
three_blocks = record {
  kinds = InputPad ∷ OutputPad ∷ Logic ∷ [];
  names = codes "a" ∷ codes "z" ∷ codes "b" ∷ [];
  terminals = [];
  globals = [];
}

abbrev header : List ℕ
header = codes "Netlist file: t.net   Architecture file: t.arch\nArray size: 1 x 1 logic blocks\n"

abbrev fault : List ℕ → Option PlaceFault
fault text = first_fault three_blocks (shape 1 1 1) (lines text)

pub size_of_a_header : place_size_of (lines header) ≡ Some (1, 1)
unfolding lines_from trimmed content is_continued without_backslash words_of decimal_of
size_of_a_header = refl

pub blocks_in_any_order : fault (header ++ codes "b 1 1 0 #2\nz 2 1 0 #1\na 0 1 0 #0\n") ≡ None
unfolding lines_from trimmed content is_continued without_backslash words_of decimal_of
blocks_in_any_order = refl

pub a_taken_site : fault (header ++ codes "a 0 1 0\nz 0 1 0\nb 1 1 0\n") ≡ Some (Taken 4)
unfolding lines_from trimmed content is_continued without_backslash words_of decimal_of
a_taken_site = refl

pub a_missing_block : fault (header ++ codes "a 0 1 0\nz 2 1 0\n") ≡ Some (Missing 2)
unfolding lines_from trimmed content is_continued without_backslash words_of decimal_of
a_missing_block = refl

pub a_logic_site_with_a_sub : fault (header ++ codes "a 0 1 0\nz 2 1 0\nb 1 1 1\n") ≡ Some (NoSuchSite 5)
unfolding lines_from trimmed content is_continued without_backslash words_of decimal_of
a_logic_site_with_a_sub = refl

pub a_logic_block_on_a_pad_site : fault (header ++ codes "b 0 1 0\n") ≡ Some (WrongKind 3)
unfolding lines_from trimmed content is_continued without_backslash words_of decimal_of
a_logic_block_on_a_pad_site = refl

pub a_number_above_the_limit : fault (header ++ codes "q 0 1 65536\n") ≡ Some (BadLine 3)
unfolding lines_from trimmed content is_continued without_backslash words_of decimal_of
a_number_above_the_limit = refl

pub a_block_twice : fault (header ++ codes "a 0 1 0\na 9 9 9\n") ≡ Some (Repeated 4)
unfolding lines_from trimmed content is_continued without_backslash words_of decimal_of
a_block_twice = refl

pub another_size : fault (codes "Netlist file: t.net Architecture file: t.arch\nArray size: 2 x 1 logic blocks\nq\n") ≡ Some WrongSize
unfolding lines_from trimmed content is_continued without_backslash words_of decimal_of
another_size = refl

pub half_a_header : fault (codes "Netlist file: t.net Architecture file: t.arch\n") ≡ Some BadHeader
unfolding lines_from trimmed content is_continued without_backslash words_of decimal_of
half_a_header = refl

pub an_unknown_block : fault (header ++ codes "q 0 1 0\n") ≡ Some (UnknownBlock 3)
unfolding lines_from trimmed content is_continued without_backslash words_of decimal_of
an_unknown_block = refl

pub a_size_that_is_no_number : fault (codes "Netlist file: t.net Architecture file: t.arch\nArray size: 1 x -1 logic blocks\n") ≡ Some BadHeader
unfolding lines_from trimmed content is_continued without_backslash words_of decimal_of
a_size_that_is_no_number = refl

pub another_size_before_a_bad_line : fault (codes "Netlist file: t.net Architecture file: t.arch\nArray size: 1 x 2 logic blocks\na 0 1 0\na 0 1 0\n") ≡ Some WrongSize
unfolding lines_from trimmed content is_continued without_backslash words_of decimal_of
another_size_before_a_bad_line = refl
