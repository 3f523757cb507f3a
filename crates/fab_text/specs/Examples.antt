-- Examples of what the lines of a text are.
use Rattle.std.specs.Prelude.{ℕ, ◌≡◌, List, [], ◌∷◌, refl, codes}
use Rattle.fab_text.specs.declared.spans.Span.{Span}
use Rattle.fab_text.specs.Lines.{TextLine, lines, lines_from, trimmed, content, is_continued, without_backslash, words_of}

-- a line with this number, and words at these places
abbrev pub line : ℕ → List (List ℕ) → List Span → TextLine
line n words spans = record { number = n; words = words; spans = spans }

abbrev pub span : ℕ → ℕ → Span
span a b = record { start = a; stop = b }

abbrev pub carriage_return : Type 0
carriage_return = lines (codes "a b\r\n\n\tc\r\r") ≡ line 1 (codes "a" ∷ codes "b" ∷ []) (span 0 1 ∷ span 2 3 ∷ []) ∷ line 3 (codes "c" ∷ []) (span 7 8 ∷ []) ∷ []

pub carriage_return_is : carriage_return
unfolding lines_from trimmed content is_continued without_backslash words_of
carriage_return_is = refl

-- a backslash in a comment joins nothing
abbrev pub comment : Type 0
comment = lines (codes "a # b \\\nc \\ d") ≡ line 1 (codes "a" ∷ []) (span 0 1 ∷ []) ∷ line 2 (codes "c" ∷ codes "\\" ∷ codes "d" ∷ []) (span 8 9 ∷ span 10 11 ∷ span 12 13 ∷ []) ∷ []

pub comment_is : comment
unfolding lines_from trimmed content is_continued without_backslash words_of
comment_is = refl

-- a backslash joins lines, even with separators after it; at the end of the text it joins nothing
abbrev pub joining : Type 0
joining = lines (codes "\na\\ \r\nb\\\n\\\n\nc\\") ≡ line 2 (codes "a" ∷ codes "b" ∷ []) (span 1 2 ∷ span 6 7 ∷ []) ∷ line 6 (codes "c" ∷ []) (span 12 13 ∷ []) ∷ []

pub joining_is : joining
unfolding lines_from trimmed content is_continued without_backslash words_of
joining_is = refl

-- a comment is cut before the backslash is looked for, and a second backslash stays in its word
abbrev pub comment_after_backslash : Type 0
comment_after_backslash = lines (codes "a\\#b\nc\\\\\nd e\rf") ≡ line 1 (codes "a" ∷ codes "c\\" ∷ codes "d" ∷ codes "e" ∷ codes "f" ∷ []) (span 0 1 ∷ span 5 7 ∷ span 9 10 ∷ span 11 12 ∷ span 13 14 ∷ []) ∷ []

pub comment_after_backslash_is : comment_after_backslash
unfolding lines_from trimmed content is_continued without_backslash words_of
comment_after_backslash_is = refl
