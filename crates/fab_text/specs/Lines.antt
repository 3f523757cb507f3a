-- What the lines of a text are (VPR manual: words, comments from `#` on, a backslash at the end of a line; how
-- lines are joined in detail is our own).
use Rattle.std.specs.Prelude.{ℕ, ◌+◌, ◌-◌, Bool, true, false, not, ◌||◌, ◌==◌, List, [], ◌∷◌, ◌++◌, if◌then◌else◌, length, map, filter, slice_range, slice_index, take, drop}
use Rattle.std.specs.List.{before_first, suffix_len}
use Rattle.fab_text.specs.declared.spans.Span.{Span}

-- a space, a tab or a carriage return
abbrev pub is_separator : ℕ → Bool
is_separator c = c == 32 || c == 9 || c == 13

-- a `#`
abbrev pub is_hash : ℕ → Bool
is_hash c = c == 35

-- a line feed
abbrev pub is_line_feed : ℕ → Bool
is_line_feed c = c == 10

-- a physical line: the place of its first byte in the source, and its bytes
pub record Physical : Type 0 where
  pub start : ℕ
  pub bytes : List ℕ

-- puts a byte that is no line feed before physical lines: it becomes the first byte of the first one
abbrev pub put_first : ℕ → ℕ → List Physical → List Physical
put_first at c [] = record { start = at; bytes = c ∷ [] } ∷ []
put_first at c (p ∷ ps) = record { start = at; bytes = c ∷ p.bytes } ∷ ps

-- the physical lines of a text whose first byte is at `at`: each ends at a line feed or at the end
abbrev pub physical : ℕ → List ℕ → List Physical
physical at [] = []
physical at (c ∷ cs) = if is_line_feed c then record { start = at; bytes = [] } ∷ physical (at + 1) cs else put_first at c (physical (at + 1) cs)

-- bytes without the separators at their end
unfoldable pub trimmed : List ℕ → List ℕ
trimmed xs = take (length xs - suffix_len is_separator xs) xs

-- what a physical line has before its first `#`, without separators at the end
unfoldable pub content : List ℕ → List ℕ
content bytes = trimmed (before_first is_hash bytes)

-- whether the last byte is a backslash. Of an empty line 0 is read, which is not a backslash
unfoldable pub is_continued : List ℕ → Bool
is_continued xs = slice_index xs (length xs - 1) == 92

-- bytes without a backslash at their end
unfoldable pub without_backslash : List ℕ → List ℕ
without_backslash xs = take (if is_continued xs then length xs - 1 else length xs) xs

-- puts the bytes from place `from` to `at`, which are no separators, before the words that follow. If the first of these words begins at
-- `at`, it becomes one word with them
abbrev pub run : ℕ → ℕ → List Span → List Span
run from at [] = record { start = from; stop = at } ∷ []
run from at (s ∷ ss) = if s.start == at then record { start = from; stop = s.stop } ∷ ss else record { start = from; stop = at } ∷ s ∷ ss

-- the words of bytes: the longest runs without separators. The first byte is at place `at`
abbrev pub words_at : ℕ → List ℕ → List Span
words_at at [] = []
words_at at (c ∷ cs) = if is_separator c then words_at (at + 1) cs else run at (at + 1) (words_at (at + 1) cs)

-- a line: the number of its first physical line, and the places of its words
pub record Placed : Type 0 where
  pub number : ℕ
  pub spans : List Span

-- the words of a physical line, joined with the line that continues it, if any
abbrev pub join_first : ℕ → List Span → List Placed → List Placed
join_first n ws [] = record { number = n; spans = ws } ∷ []
join_first n ws (l ∷ ls) = record { number = n; spans = ws ++ l.spans } ∷ ls

-- the words of a physical line
unfoldable pub words_of : Physical → List Span
words_of p = words_at p.start (without_backslash (content p.bytes))

-- the lines that physical lines make; the first has number `n`
abbrev pub joined : ℕ → List Physical → List Placed
joined n [] = []
joined n (p ∷ ps) = if is_continued (content p.bytes) then join_first n (words_of p) (joined (n + 1) ps) else record { number = n; spans = words_of p } ∷ joined (n + 1) ps

-- the line has a word
abbrev pub has_words : Placed → Bool
has_words l = not (is_nil l.spans)
  where
    is_nil : List Span → Bool
    is_nil [] = true
    is_nil (s ∷ ss) = false

-- a line as a reader returns it: its number, its words, and the place of each
pub record TextLine : Type 0 where
  pub number : ℕ
  pub words : List (List ℕ)
  pub spans : List Span

-- the bytes of a text from the start of a span to its stop
abbrev pub bytes_at : List ℕ → Span → List ℕ
bytes_at text s = slice_range text s.start s.stop

-- a line with its words: the bytes of the text at its places
abbrev pub line_of : List ℕ → Placed → TextLine
line_of text l = record { number = l.number; words = map (bytes_at text) l.spans; spans = l.spans }

-- the lines of a text from place `at` on; the physical line there has number `n`
unfoldable pub lines_from : List ℕ → ℕ → ℕ → List TextLine
lines_from text at n = map (line_of text) (filter has_words (joined n (physical at (drop at text))))

-- the lines of a text
abbrev pub lines : List ℕ → List TextLine
lines text = lines_from text 0 1
