-- Examples of what architecture texts mean, and of the least square array.
use Rattle.std.specs.Prelude.{ℕ, ◌≡◌, List, [], ◌∷◌, Option, Some, refl, codes}
use Rattle.std.proofs.Common.{◌<◌, ◌≤◌, zero, suc, arith, lit<, lit≤}
use Rattle.fab_text.specs.Lines.{TextLine, lines, lines_from, trimmed, content, is_continued, without_backslash, words_of}
use Rattle.fab_text.specs.Decimal.{decimal_of}
use Rattle.fab_arch.specs.declared.architecture.PinKind.TheVariants.{Reads, Drives}
use Rattle.fab_arch.specs.declared.fault.ArchFault.{ArchFault}
use Rattle.fab_arch.specs.declared.fault.ArchFault.TheVariants.{NoIoRat, RepeatedIoRat, BadNumber, BadPinLine, NoPins, TooLarge}
use Rattle.fab_arch.specs.Grid.{Holds, IsLeastSquare, square}
use Rattle.fab_arch.specs.Arch.{is_io_rat, is_inpin, is_outpin, ratio_of, pin_fault, line_fault, first_fault, IsArch}

abbrev fault : List ℕ → Option ArchFault
fault text = first_fault (lines text)

abbrev two_pins : List TextLine
two_pins = lines (codes "io_rat 2 pads\nchan_width_io 1\ninpin class: 0 left\noutpin class: 1 global top right\n")

pub two_pins_mean : IsArch two_pins 2 (Reads ∷ Drives ∷ [])
unfolding lines_from trimmed content is_continued without_backslash words_of is_io_rat is_inpin is_outpin ratio_of pin_fault decimal_of
two_pins_mean = record {
  line = record { number = 1; words = codes "io_rat" ∷ codes "2" ∷ codes "pads" ∷ []; spans = record { start = 0; stop = 6 } ∷ record { start = 7; stop = 8 } ∷ record { start = 9; stop = 13 } ∷ [] };
  one = refl;
  given = refl;
  lawful = (refl, (refl, tt));
  kinds = refl;
  some = lit< tt;
  few = lit≤ tt;
}

pub an_empty_text : fault [] ≡ Some NoIoRat
unfolding lines_from trimmed content is_continued without_backslash words_of
an_empty_text = refl

pub no_pin : fault (codes "io_rat 1\n") ≡ Some NoPins
unfolding lines_from trimmed content is_continued without_backslash words_of is_io_rat is_inpin is_outpin ratio_of line_fault decimal_of
no_pin = refl

pub a_second_ratio : fault (codes "io_rat 1\n\nio_rat x\n") ≡ Some (RepeatedIoRat 3)
unfolding lines_from trimmed content is_continued without_backslash words_of is_io_rat is_inpin is_outpin ratio_of line_fault decimal_of
a_second_ratio = refl

pub a_ratio_above_64_bits : fault (codes "io_rat 99999999999999999999") ≡ Some (TooLarge 1)
unfolding lines_from trimmed content is_continued without_backslash words_of is_io_rat is_inpin is_outpin ratio_of line_fault decimal_of
a_ratio_above_64_bits = refl

pub a_pin_without_a_word : fault (codes "inpin") ≡ Some (BadPinLine 1)
unfolding lines_from trimmed content is_continued without_backslash words_of is_io_rat is_inpin is_outpin pin_fault line_fault decimal_of
a_pin_without_a_word = refl

pub a_pin_without_a_class : fault (codes "inpin class: left") ≡ Some (BadNumber 1)
unfolding lines_from trimmed content is_continued without_backslash words_of is_io_rat is_inpin is_outpin pin_fault line_fault decimal_of
a_pin_without_a_class = refl

pub a_class_too_large_comes_before_its_sides : fault (codes "inpin class: 65536") ≡ Some (TooLarge 1)
unfolding lines_from trimmed content is_continued without_backslash words_of is_io_rat is_inpin is_outpin pin_fault line_fault decimal_of
a_class_too_large_comes_before_its_sides = refl

pub a_pin_without_a_side : fault (codes "outpin class: 0 global") ≡ Some (BadPinLine 1)
unfolding lines_from trimmed content is_continued without_backslash words_of is_io_rat is_inpin is_outpin pin_fault line_fault decimal_of
a_pin_without_a_side = refl

too_small_for_five : (n : ℕ) → 1 ≤ n → n < 3 → ¬ Holds (square n 1) 5 0
too_small_for_five zero some few holds = absurd (omega (arith, some))
too_small_for_five (suc zero) some few holds = absurd (omega (arith, holds.0))
too_small_for_five (suc (suc zero)) some few holds = absurd (omega (arith, holds.0))
too_small_for_five (suc (suc (suc n))) some few holds = absurd (omega (arith, few))

-- five logic blocks and no pad
pub three_by_three_is_the_least : IsLeastSquare (square 3 1) 5 0 1
three_by_three_is_the_least = record {
  is_square = refl;
  limits = record { columns = (lit≤ tt, lit≤ tt); rows = (lit≤ tt, lit≤ tt); ratio = (lit≤ tt, lit≤ tt) };
  enough = (lit≤ tt, lit≤ tt);
  least = too_small_for_five;
}

-- four by four holds them too, but is not the least
pub four_by_four_is_not_the_least : ¬ IsLeastSquare (square 4 1) 5 0 1
four_by_four_is_not_the_least least = least.least 3 (lit≤ tt) (lit< tt) (lit≤ tt, lit≤ tt)

-- two by two is too small
pub two_by_two_is_not_enough : ¬ IsLeastSquare (square 2 1) 5 0 1
two_by_two_is_not_enough least = too_small_for_five 2 (lit≤ tt) (lit< tt) least.enough
