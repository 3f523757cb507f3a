-- The lines of a text that are left.
use Rattle.std.proofs.Common.{◌≡◌, ℕ, ◌<◌, ◌≤◌, List, [], ◌∷◌, length, drop, refl, arith}
use Rattle.std.proofs.lemmas.List.{drop_all}
use Rattle.fab_text.specs.declared.spans.Span.{Span}
use Rattle.fab_text.specs.Lines.{line_of, physical, joined, lines_from}

pub without_words : (text : List ℕ) (place n next after : ℕ) (spans : List Span) → joined n (physical place (drop place text)) ≡ record { number = n; spans = spans } ∷ joined after (physical next (drop next text))
    → length spans ≡ 0 → lines_from text place n ≡ lines_from text next after
unfolding lines_from
without_words text place n next after [] h e = rw h refl
without_words text place n next after (s ∷ ss) h e = absurd (omega arith)

pub with_words : (text : List ℕ) (place n next after : ℕ) (spans : List Span) → joined n (physical place (drop place text)) ≡ record { number = n; spans = spans } ∷ joined after (physical next (drop next text))
    → 0 < length spans → lines_from text place n ≡ line_of text (record { number = n; spans = spans }) ∷ lines_from text next after
unfolding lines_from
with_words text place n next after [] h e = absurd (omega arith)
with_words text place n next after (s ∷ ss) h e = rw h refl

pub none_left : (text : List ℕ) (place n : ℕ) → length text ≤ place → lines_from text place n ≡ []
unfolding lines_from
none_left text place n h = let d : drop place text ≡ [] = drop_all place text h in rw d refl
