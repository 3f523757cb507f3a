-- Examples of what location texts stand for: the netlist of a pad `a` and two logic blocks, on four logic sites.
use Rattle.std.specs.Prelude.{ℕ, ◌≡◌, List, [], ◌∷◌, ◌++◌, Option, Some, None, refl, codes}
use Rattle.fab_text.specs.Lines.{lines, lines_from, trimmed, content, is_continued, without_backslash, words_of}
use Rattle.fab_text.specs.Decimal.{decimal_of}
use Rattle.fab_arch.specs.declared.array.Site.{Site}
use Rattle.fab_arch.specs.Grid.{shape}
use Rattle.fab_net.specs.declared.netlist_types.BlockKind.TheVariants.{InputPad, Logic}
use Rattle.fab_net.specs.Netlist.{Netlist}
use Rattle.fab_site.specs.Placement.{site}
use Rattle.fab_file.specs.declared.fault.PlaceFault.{PlaceFault}
use Rattle.fab_file.specs.declared.fault.PlaceFault.TheVariants.{BadHeader, WrongSize, UnknownBlock, Repeated, NoSuchSite, WrongKind, Taken, BadLine}
use Rattle.fab_file.specs.Pinned.{block_lines, fixed_by, begun_by, first_given, pins_fault}

abbrev a_pad_and_two : Netlist
a_pad_and_two = record {
  kinds = InputPad ∷ Logic ∷ Logic ∷ [];
  names = codes "a" ∷ codes "b1" ∷ codes "b2" ∷ [];
  terminals = [];
  globals = [];
}

abbrev header : List ℕ
header = codes "Netlist file: t.net   Architecture file: t.arch\nArray size: 2 x 2 logic blocks\n"

abbrev fault : List ℕ → Option PlaceFault
fault text = pins_fault a_pad_and_two (shape 2 2 1) (lines text)

abbrev fixed : List ℕ → ℕ → Option Site
fixed text b = first_given (fixed_by a_pad_and_two b) (block_lines (lines text))

abbrev begun : List ℕ → ℕ → Option Site
begun text b = first_given (begun_by a_pad_and_two b) (block_lines (lines text))

pub a_fixed_block : fixed (codes "b2 1 1 0\n") 2 ≡ Some (site 1 1 0)
unfolding lines_from trimmed content is_continued without_backslash words_of decimal_of
a_fixed_block = refl

pub a_fixed_block_is_not_begun : begun (codes "b2 1 1 0\n") 2 ≡ None
unfolding lines_from trimmed content is_continued without_backslash words_of decimal_of
a_fixed_block_is_not_begun = refl

pub a_begun_block : begun (codes "b2 1 1 0 free\n") 2 ≡ Some (site 1 1 0)
unfolding lines_from trimmed content is_continued without_backslash words_of decimal_of
a_begun_block = refl

pub a_begun_block_is_not_fixed : fixed (codes "b2 1 1 0 free\n") 2 ≡ None
unfolding lines_from trimmed content is_continued without_backslash words_of decimal_of
a_begun_block_is_not_fixed = refl

pub a_block_behind_a_header : begun (header ++ codes "a 0 1 0\nb1 2 1 0 free # begun\n") 1 ≡ Some (site 2 1 0)
unfolding lines_from trimmed content is_continued without_backslash words_of decimal_of
a_block_behind_a_header = refl

pub any_blocks_in_any_order : fault (header ++ codes "b2 1 1 0 free\na 0 1 0\n") ≡ None
unfolding lines_from trimmed content is_continued without_backslash words_of decimal_of
any_blocks_in_any_order = refl

pub no_line_at_all : fault [] ≡ None
unfolding lines_from trimmed content is_continued without_backslash words_of decimal_of
no_line_at_all = refl

pub a_header_alone : fault header ≡ None
unfolding lines_from trimmed content is_continued without_backslash words_of decimal_of
a_header_alone = refl

pub a_site_of_a_begun_block : fault (codes "b1 1 1 0 free\nb2 1 1 0\n") ≡ Some (Taken 2)
unfolding lines_from trimmed content is_continued without_backslash words_of decimal_of
a_site_of_a_begun_block = refl

pub another_fifth_word : fault (codes "b1 1 1 0 fixed\n") ≡ Some (BadLine 1)
unfolding lines_from trimmed content is_continued without_backslash words_of decimal_of
another_fifth_word = refl

pub a_sixth_word : fault (codes "b1 1 1 0 free free\n") ≡ Some (BadLine 1)
unfolding lines_from trimmed content is_continued without_backslash words_of decimal_of
a_sixth_word = refl

pub a_begun_block_named_again : fault (header ++ codes "b1 1 1 0 free\nb1 1 2 0\n") ≡ Some (Repeated 4)
unfolding lines_from trimmed content is_continued without_backslash words_of decimal_of
a_begun_block_named_again = refl

pub a_pad_on_a_logic_site : fault (codes "a 1 1 0 free\n") ≡ Some (WrongKind 1)
unfolding lines_from trimmed content is_continued without_backslash words_of decimal_of
a_pad_on_a_logic_site = refl

pub a_corner : fault (codes "a 0 0 0\n") ≡ Some (NoSuchSite 1)
unfolding lines_from trimmed content is_continued without_backslash words_of decimal_of
a_corner = refl

pub an_unknown_block : fault (codes "q 9 9 9\n") ≡ Some (UnknownBlock 1)
unfolding lines_from trimmed content is_continued without_backslash words_of decimal_of
an_unknown_block = refl

pub a_header_that_is_cut : fault (codes "Netlist file: t.net\nb1 1 1 0\n") ≡ Some BadHeader
unfolding lines_from trimmed content is_continued without_backslash words_of decimal_of
a_header_that_is_cut = refl

pub half_a_header : fault (codes "Netlist file: t.net Architecture file: t.arch\n") ≡ Some BadHeader
unfolding lines_from trimmed content is_continued without_backslash words_of decimal_of
half_a_header = refl

pub another_size : fault (codes "Netlist file: t.net Architecture file: t.arch\nArray size: 2 x 3 logic blocks\nq\n") ≡ Some WrongSize
unfolding lines_from trimmed content is_continued without_backslash words_of decimal_of
another_size = refl

pub a_bad_header_before_a_bad_line : fault (codes "Netlist file: t.net Architecture file: t.arch\nArray size: 2 x q logic blocks\nb1 1 1 0\nb1 1 1 0\n") ≡ Some BadHeader
unfolding lines_from trimmed content is_continued without_backslash words_of decimal_of
a_bad_header_before_a_bad_line = refl
