-- What an architecture text means (VPR manual: the lines `io_rat`, `inpin` and `outpin`; all others concern routing and timing, and mean
-- nothing to placement). The limits, and the order of faults, are our own.
use Rattle.std.specs.Prelude.{ℕ, ◌<◌, ◌≤◌, ◌≡◌, Bool, false, not, ◌||◌, ◌&&◌, ◌==◌, nat_lt, List, [], ◌∷◌, if◌then◌else◌, length, map, filter, count_by, drop, slice_get, codes, Option, Some, None, Result, Ok, Err}
use Rattle.std.specs.List.{list_any, list_all, AllByRecursion}
use Rattle.std.specs.Result.{result_ok}
use Rattle.std.specs.Str.{bytes_eq}
use Rattle.fab_text.specs.Lines.{TextLine}
use Rattle.fab_text.specs.FirstFault.{or_else, fault_behind, fault_of_all}
use Rattle.fab_text.specs.Decimal.{decimal_of}
use Rattle.fab_text.specs.declared.numbers.NumFault.{NumFault}
use Rattle.fab_text.specs.declared.numbers.NumFault.TheVariants as num
use Rattle.fab_arch.specs.declared.architecture.PinKind.{PinKind}
use Rattle.fab_arch.specs.declared.architecture.PinKind.TheVariants.{Reads, Drives}
use Rattle.fab_arch.specs.declared.fault.ArchFault.{ArchFault}
use Rattle.fab_arch.specs.declared.fault.ArchFault.TheVariants.{NoIoRat, RepeatedIoRat, BadNumber, BadPinLine, NoPins, TooLarge, NoMemory}

-- whether there is a word and it is `name`
abbrev pub is_word : Option (List ℕ) → List ℕ → Bool
is_word None name = false
is_word (Some word) name = bytes_eq word name

-- whether a line begins with the word `name`
abbrev pub begins_with : List ℕ → TextLine → Bool
begins_with name l = is_word (slice_get l.words 0) name

unfoldable pub is_io_rat : TextLine → Bool
is_io_rat l = begins_with (codes "io_rat") l

unfoldable pub is_inpin : TextLine → Bool
is_inpin l = begins_with (codes "inpin") l

unfoldable pub is_outpin : TextLine → Bool
is_outpin l = begins_with (codes "outpin") l

-- the line declares a pin
abbrev pub is_pin : TextLine → Bool
is_pin l = is_inpin l || is_outpin l

-- what a pin's line declares: an `inpin` reads its net, an `outpin` drives it
abbrev pub kind_of : TextLine → PinKind
kind_of l = if is_inpin l then Reads else Drives

-- a whole number from `low` to `high`, or what is wrong with it on line n
abbrev pub within : ℕ → ℕ → ℕ → Result ℕ NumFault → Result ℕ ArchFault
within n low high (Ok value) = if nat_lt value low then Err (BadNumber n) else if nat_lt high value then Err (TooLarge n) else Ok value
within n low high (Err num.BadDigit) = Err (BadNumber n)
within n low high (Err num.TooManyPlaces) = Err (BadNumber n)
within n low high (Err num.TooLarge) = Err (TooLarge n)

-- the number from `low` to `high` that a word of line n writes, or what is wrong
abbrev pub number_of : ℕ → ℕ → ℕ → Option (List ℕ) → Result ℕ ArchFault
number_of n low high None = Err (BadNumber n)
number_of n low high (Some word) = within n low high (decimal_of word 0)

-- the pads at each position that a line gives
unfoldable pub ratio_of : TextLine → Result ℕ ArchFault
ratio_of l = number_of l.number 1 64 (slice_get l.words 1)

abbrev pub is_side : List ℕ → Bool
is_side w = bytes_eq w (codes "top") || bytes_eq w (codes "bottom") || bytes_eq w (codes "left") || bytes_eq w (codes "right")

-- the words without a leading `global`
abbrev pub without_global : List (List ℕ) → List (List ℕ)
without_global [] = []
without_global (w ∷ ws) = if bytes_eq w (codes "global") then ws else w ∷ ws

-- whether there is at least one word and all of them are sides
abbrev pub are_sides : List (List ℕ) → Bool
are_sides ws = list_all is_side ws && not (length ws == 0)

-- the fault of a pin's line, if reading its class gave this result
abbrev pub pin_fault_from : TextLine → Result ℕ ArchFault → Option ArchFault
pin_fault_from l (Err e) = Some e
pin_fault_from l (Ok class) = if are_sides (without_global (drop 3 l.words)) then None else Some (BadPinLine l.number)

-- what is wrong with a pin's line, apart from what the lines before it mean
unfoldable pub pin_fault : TextLine → Option ArchFault
pin_fault l = if is_word (slice_get l.words 1) (codes "class:") then pin_fault_from l (number_of l.number 0 65535 (slice_get l.words 2)) else Some (BadPinLine l.number)

-- the fault of a result, if it is one
abbrev pub err_of : {A : Type 0} → Result A ArchFault → Option ArchFault
err_of (Ok value) = None
err_of (Err e) = Some e

-- the first fault of a line. The lines before it declare `pins` pins and, if `has_ratio`, the pads at each position
unfoldable pub line_fault : Bool → ℕ → TextLine → Option ArchFault
line_fault has_ratio pins l =
    if is_io_rat l then (if has_ratio then Some (RepeatedIoRat l.number) else err_of (ratio_of l))
    else if is_pin l then or_else (pin_fault l) (if nat_lt pins 1024 then None else Some (TooLarge l.number))
    else None

-- the first fault of a line that follows others
abbrev pub fault_of : List TextLine → TextLine → Option ArchFault
fault_of before l = line_fault (list_any is_io_rat before) (count_by is_pin before) l

-- the fault of a whole text whose lines have none
abbrev pub text_fault : List TextLine → Option ArchFault
text_fault ls = if not (list_any is_io_rat ls) then Some NoIoRat else if count_by is_pin ls == 0 then Some NoPins else None

-- the same from two values: the pads at each position, if the lines give them, and how many pins the lines declare
abbrev pub end_fault : Option ℕ → ℕ → Option ArchFault
end_fault None pins = Some NoIoRat
end_fault (Some ratio) pins = if pins == 0 then Some NoPins else None

-- the first fault of lines that follow others
abbrev pub fault_after : List TextLine → List TextLine → Option ArchFault
fault_after before ls = fault_behind fault_of text_fault before ls

-- the first fault of a text
abbrev pub first_fault : List TextLine → Option ArchFault
first_fault ls = fault_of_all fault_of text_fault ls

-- what lines mean: exactly one `io_rat` line, which gives the pads at each position; lawful pin lines; and these pins, 1 to 1,024 of them
pub record IsArch (ls : List TextLine) (ratio : ℕ) (pins : List PinKind) : Type 0 where
  pub line : TextLine
  pub one : filter is_io_rat ls ≡ line ∷ []
  pub given : ratio_of line ≡ Ok ratio
  pub lawful : AllByRecursion (λ l. pin_fault l ≡ None) (filter is_pin ls)
  pub kinds : pins ≡ map kind_of (filter is_pin ls)
  pub some : 0 < length pins
  pub few : length pins ≤ 1024

-- a returned fault is `fault`, or out of memory. Out of memory may come for any text: no contract can say that it comes only if memory was
-- really refused
abbrev pub FaultIs : ArchFault → Option ArchFault → Type 0
FaultIs NoMemory fault = Unit {0}
FaultIs e fault = fault ≡ Some e

-- the pads at each position that lines have given, after one more line without a fault
abbrev pub ratio_after : Option ℕ → TextLine → Option ℕ
ratio_after before l = if is_io_rat l then result_ok (ratio_of l) else before

-- the pin of a line, if it declares one
abbrev pub pins_in : TextLine → List PinKind
pins_in l = if is_pin l then kind_of l ∷ [] else []

-- the lines of a text either mean an architecture or have a first fault, never both
abbrev pub MeansOrFaults : List TextLine → Type 0
MeansOrFaults ls =
    ((ratio : ℕ) (pins : List PinKind) → IsArch ls ratio pins → first_fault ls ≡ None)
    × (first_fault ls ≡ None → (ratio : ℕ) × ((pins : List PinKind) × IsArch ls ratio pins))
