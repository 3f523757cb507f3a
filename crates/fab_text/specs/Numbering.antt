-- How a text is split into physical lines, and how its lines are numbered (our own).
use Rattle.std.specs.Prelude.{ℕ, ◌+◌, ◌<◌, ◌≡◌, Bool, true, false, List, [], ◌∷◌, ◌++◌, length, count_by, codes, refl}
use Rattle.std.specs.List.{AllByRecursion}
use Rattle.fab_text.specs.Lines.{Physical, Placed, is_line_feed, physical, trimmed, content, is_continued, joined, lines, lines_from}

-- bytes without a line feed
abbrev pub OnOneLine : List ℕ → Type 0
OnOneLine line = AllByRecursion (λ c. is_line_feed c ≡ false) line

-- the bytes before the first line feed are a physical line, and the bytes after it are read as a text of their own
abbrev pub LineFeedsEndLines : Type 0
LineFeedsEndLines = (at : ℕ) (line rest : List ℕ) → OnOneLine line
    → physical at (line ++ 10 ∷ rest) ≡ record { start = at; bytes = line } ∷ physical (at + length line + 1) rest

-- bytes after the last line feed are a physical line, if there are any
abbrev pub TextsEndLines : Type 0
TextsEndLines = (at : ℕ) (line : List ℕ) → 0 < length line → OnOneLine line → physical at line ≡ record { start = at; bytes = line } ∷ []

-- whether bytes end with a line feed; true of no bytes
abbrev pub ends_with_feed : List ℕ → Bool
ends_with_feed [] = true
ends_with_feed (c ∷ []) = is_line_feed c
ends_with_feed (c ∷ d ∷ ds) = ends_with_feed (d ∷ ds)

-- whether the last physical line ends with a backslash, so that the next line would continue it
abbrev pub goes_on : List Physical → Bool
goes_on [] = false
goes_on (p ∷ []) = is_continued (content p.bytes)
goes_on (p ∷ q ∷ qs) = goes_on (q ∷ qs)

-- a beginning of a text is whole if it is empty, or ends with a line feed that no backslash cancels
pub record IsWhole (front : List ℕ) : Type 0 where
  pub ends : ends_with_feed front ≡ true
  pub stops : goes_on (physical 0 front) ≡ false

-- after a whole beginning, line numbers go on: the first physical line there has one more than the number of line feeds before it
abbrev pub LineFeedsAreCounted : Type 0
LineFeedsAreCounted = (front rest : List ℕ) → IsWhole front
    → lines (front ++ rest) ≡ lines front ++ lines_from (front ++ rest) (length front) (count_by is_line_feed front + 1)

-- whether the first line has number `n`
abbrev pub IsFirstNumber : ℕ → List Placed → Type 0
IsFirstNumber n [] = ⊥
IsFirstNumber n (l ∷ ls) = l.number ≡ n

-- a line has the number of its first physical line
abbrev pub FirstNumbersCount : Type 0
FirstNumbersCount = (n : ℕ) (p : Physical) (ps : List Physical) → IsFirstNumber n (joined n (p ∷ ps))

pub two_lines_are_whole : IsWhole (codes "a\nb\n")
unfolding trimmed content is_continued
two_lines_are_whole = record { ends = refl; stops = refl }

pub a_backslash_goes_on : goes_on (physical 0 (codes "a\nb\\\n")) ≡ true
unfolding trimmed content is_continued
a_backslash_goes_on = refl
