-- The lines of a checkpoint text (our own). It describes a point of a run, from which the run can be resumed: fields, one line for each,
-- then the names of the fixed blocks, then the site of each block, then `end`. There are two versions: the second gives the temperature of
-- the running stage, allows adaptive schedules, and may fix any block. Numbers are whole: temperatures in ten-thousandths, ranges and
-- factors in thousandths.
use Rattle.std.specs.Prelude.{ℕ, ◌≡◌, Bool, true, ◌&&◌, ◌==◌, List, [], ◌∷◌, if◌then◌else◌, length, codes, Option, Some, None, Result, Ok, Err, refl}
use Rattle.fab_text.specs.Lines.{TextLine}
use Rattle.fab_text.specs.Decimal.{decimal_of}
use Rattle.fab_text.specs.declared.numbers.NumFault.{NumFault}
use Rattle.fab_sched.specs.declared.schedules.Cooling.{Cooling}
use Rattle.fab_sched.specs.declared.schedules.Cooling.TheVariants.{Factor, Adaptive}
use Rattle.fab_file.specs.Place.{word_at, is_word}
use Rattle.fab_run.specs.declared.point_words.Version.{Version}
use Rattle.fab_run.specs.declared.point_words.Version.TheVariants.{One, Two}

-- the version that the first line gives
abbrev pub version_of : TextLine → Option Version
version_of l = if is_word l 2 (codes "1") then Some One else (if is_word l 2 (codes "2") then Some Two else None)

-- `vplace point 1` or `vplace point 2`
abbrev pub version_in : TextLine → Option Version
version_in l = if length l.words == 3 && (is_word l 0 (codes "vplace") && is_word l 1 (codes "point")) then version_of l else None

-- the number, if it was read
abbrev pub whole : Result ℕ NumFault → Option ℕ
whole (Ok n) = Some n
whole (Err e) = None

-- the whole number of 64 bits at word i of a line
abbrev pub number_at : TextLine → ℕ → Option ℕ
number_at l i = whole (decimal_of (word_at l i) 0)

-- `NAME N`
abbrev pub number_in : List ℕ → TextLine → Option ℕ
number_in name l = if length l.words == 2 && is_word l 0 name then number_at l 1 else None

-- three numbers, if all are there
abbrev pub three : Option ℕ → Option ℕ → Option ℕ → Option (ℕ × ℕ × ℕ)
three None b c = None
three (Some a) None c = None
three (Some a) (Some b) None = None
three (Some a) (Some b) (Some c) = Some (a, b, c)

-- `array NX x NY io_rat R`
abbrev pub array_in : TextLine → Option (ℕ × ℕ × ℕ)
array_in l =
    if length l.words == 6 && is_word l 0 (codes "array") && (is_word l 2 (codes "x") && is_word l 4 (codes "io_rat")) then
    three (number_at l 1) (number_at l 3) (number_at l 5)
    else None

-- cooling by a factor, if there is one
abbrev pub factor : Option ℕ → Option Cooling
factor None = None
factor (Some f) = Some (Factor f)

-- how a schedule cools: by a factor or, in the second version, by the moves accepted
abbrev pub cooling_in : Version → TextLine → Option Cooling
cooling_in One l = factor (number_at l 3)
cooling_in Two l = if is_word l 3 (codes "adaptive") then Some Adaptive else factor (number_at l 3)

-- the four values of a schedule, if all are there
abbrev pub schedule_from : Option ℕ → Option ℕ → Option Cooling → Option ℕ → Option (ℕ × ℕ × Cooling × ℕ)
schedule_from None exit cooling moves = None
schedule_from (Some init) None cooling moves = None
schedule_from (Some init) (Some exit) None moves = None
schedule_from (Some init) (Some exit) (Some cooling) None = None
schedule_from (Some init) (Some exit) (Some cooling) (Some moves) = Some (init, exit, cooling, moves)

-- `schedule I E A M` or `schedule I E adaptive M`: the first temperature, the lowest one that is run, how it cools, the moves of a stage
abbrev pub schedule_in : Version → TextLine → Option (ℕ × ℕ × Cooling × ℕ)
schedule_in v l =
    if length l.words == 5 && is_word l 0 (codes "schedule") then
    schedule_from (number_at l 1) (number_at l 2) (cooling_in v l) (number_at l 4)
    else None

-- `stage X done D accepted S`: the index of the running stage, how many of its moves are made, how many of these were accepted
abbrev pub stage_in : TextLine → Option (ℕ × ℕ × ℕ)
stage_in l =
    if length l.words == 6 && is_word l 0 (codes "stage") && (is_word l 2 (codes "done") && is_word l 4 (codes "accepted")) then
    three (number_at l 1) (number_at l 3) (number_at l 5)
    else None

-- `NAME fixed`
abbrev pub is_fixed_line : TextLine → Bool
is_fixed_line l = length l.words == 2 && is_word l 1 (codes "fixed")

-- `end`
abbrev pub is_end : TextLine → Bool
is_end l = length l.words == 1 && is_word l 0 (codes "end")

abbrev line_of : List (List ℕ) → TextLine
line_of words = record { number = 1; words = words; spans = [] }

pub the_first_version : version_in (line_of (codes "vplace" ∷ codes "point" ∷ codes "1" ∷ [])) ≡ Some One
the_first_version = refl

pub a_version_is_a_word : version_in (line_of (codes "vplace" ∷ codes "point" ∷ codes "01" ∷ [])) ≡ None
a_version_is_a_word = refl

pub the_second_version : version_in (line_of (codes "vplace" ∷ codes "point" ∷ codes "2" ∷ [])) ≡ Some Two
the_second_version = refl

pub no_third_version : version_in (line_of (codes "vplace" ∷ codes "point" ∷ codes "3" ∷ [])) ≡ None
no_third_version = refl

pub a_seed : number_in (codes "seed") (line_of (codes "seed" ∷ codes "007" ∷ [])) ≡ Some 7
unfolding decimal_of
a_seed = refl

pub a_seed_of_65_bits : number_in (codes "seed") (line_of (codes "seed" ∷ codes "18446744073709551616" ∷ [])) ≡ None
unfolding decimal_of
a_seed_of_65_bits = refl

pub an_array : array_in (line_of (codes "array" ∷ codes "1001" ∷ codes "x" ∷ codes "1" ∷ codes "io_rat" ∷ codes "2" ∷ [])) ≡ Some (1001, 1, 2)
unfolding decimal_of
an_array = refl

pub a_word_in_the_first_version : schedule_in One (line_of (codes "schedule" ∷ codes "9" ∷ codes "1" ∷ codes "adaptive" ∷ codes "3" ∷ [])) ≡ None
unfolding decimal_of
a_word_in_the_first_version = refl

pub the_word_in_the_second : schedule_in Two (line_of (codes "schedule" ∷ codes "9" ∷ codes "1" ∷ codes "adaptive" ∷ codes "3" ∷ [])) ≡ Some (9, 1, Adaptive, 3)
unfolding decimal_of
the_word_in_the_second = refl

pub a_stage : stage_in (line_of (codes "stage" ∷ codes "1" ∷ codes "done" ∷ codes "2" ∷ codes "accepted" ∷ codes "0" ∷ [])) ≡ Some (1, 2, 0)
unfolding decimal_of
a_stage = refl

pub a_stage_cut_off : stage_in (line_of (codes "stage" ∷ codes "1" ∷ [])) ≡ None
a_stage_cut_off = refl

pub a_block_of_the_name_fixed : is_fixed_line (line_of (codes "fixed" ∷ codes "fixed" ∷ [])) ≡ true
a_block_of_the_name_fixed = refl
