-- What can be a word of a line (VPR manual: words, comments from `#` on).
use Rattle.std.specs.Prelude.{ℕ, ◌≡◌, ◌==◌, Bool, true, false, not, ◌&&◌, ◌||◌, List, [], ◌∷◌, length, codes, refl}
use Rattle.std.specs.List.{AllByRecursion, list_any, list_all}
use Rattle.fab_text.specs.Lines.{lines, is_separator, is_line_feed, is_hash}

-- a space, a tab, a carriage return, a line feed or a `#`, which no word of a line has
abbrev pub is_mark : ℕ → Bool
is_mark c = is_separator c || is_line_feed c || is_hash c

-- whether bytes can be one word of a line: at least one byte, and no marks
abbrev pub can_be_word : List ℕ → Bool
can_be_word word = not (length word == 0) && not (list_any is_mark word)

-- each of `words` can be one word of a line
abbrev pub AreWords : List (List ℕ) → Type 0
AreWords words = AllByRecursion (λ word. can_be_word word ≡ true) words

-- each word of each line of a text can be one
abbrev pub LinesHaveWords : Type 0
LinesHaveWords = (text : List ℕ) → AllByRecursion (λ l. AreWords l.words) (lines text)

pub no_bytes_are_no_word : can_be_word [] ≡ false
no_bytes_are_no_word = refl

pub marks_stand_in_no_word : list_any can_be_word (codes "a b" ∷ codes "a\tb" ∷ codes "a\r" ∷ codes "\n" ∷ codes "#" ∷ []) ≡ false
marks_stand_in_no_word = refl

pub other_bytes_are_words : list_all can_be_word (codes "a" ∷ codes "\\" ∷ codes "b\\" ∷ codes ".:[0]" ∷ []) ≡ true
other_bytes_are_words = refl
