-- What the private steps of the reader do (our own).
use Rattle.std.specs.Prelude.{ℕ, ◌≡◌, Bool, List, ◌∷◌, ◌++◌, drop}
use Rattle.fab_text.specs.declared.spans.Span.{Span}
use Rattle.fab_text.specs.Lines.{Physical, physical, is_continued, content, words_of}

-- the physical line at place `at` of a text: whether the next one continues it, a place `next` from which the rest of the text can be read,
-- and the words that it adds to those found before
pub record IsNextLine (text : List ℕ) (at : ℕ) (continued : Bool) (next : ℕ) (old new : List Span) : Type 0 where
  pub line : Physical
  pub first : physical at (drop at text) ≡ line ∷ physical next (drop next text)
  pub continues : continued ≡ is_continued (content line.bytes)
  pub words : new ≡ old ++ words_of line
