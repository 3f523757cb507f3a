-- The words of bytes, read from left to right.
use Rattle.std.proofs.Common.{◌≡◌, ℕ, ◌+◌, ◌-◌, ◌<◌, ◌≤◌, Bool, true, false, cond, eqb, List, [], ◌∷◌, Option, Some, None, length, get_or, drop, refl, ap, ◌∙◌, arith, suc}
use Rattle.std.specs.Prelude.{slice_range}
use Rattle.std.proofs.lemmas.List.{drop_more}
use Rattle.std.proofs.lemmas.Bool.Decides.{nat_tests}
use Rattle.fab_text.specs.declared.spans.Span.{Span}
use Rattle.fab_text.specs.Lines.{is_separator, run, words_at}

-- the words from a place on, where a word may have begun before it
abbrev pub going_on : Option ℕ → ℕ → List Span → List Span
going_on None at ws = ws
going_on (Some from) at ws = run from at ws

-- the first word, if any, begins at a place or later
abbrev pub BeginsFrom : ℕ → List Span → Type 0
BeginsFrom at [] = Unit {0}
BeginsFrom at (s ∷ ss) = at ≤ s.start

at_test : (b : Bool) (low : ℕ) (xs ys : List Span) → BeginsFrom low xs → BeginsFrom low ys → BeginsFrom low (cond b xs ys)
at_test true low xs ys h k = h
at_test false low xs ys h k = k

run-begins : (low from at : ℕ) (ws : List Span) → low ≤ from → BeginsFrom low (run from at ws)
run-begins low from at [] h = h
run-begins low from at (s ∷ ss) h = at_test (eqb s.start at) low _ _ h h

later : (low at : ℕ) (ws : List Span) → low ≤ at → BeginsFrom at ws → BeginsFrom low ws
later low at [] h k = tt
later low at (s ∷ ss) h k = omega arith

pub words-begin : (at : ℕ) (cs : List ℕ) → BeginsFrom at (words_at at cs)
words-begin at [] = tt
words-begin at (c ∷ cs) =
    let rest = later at (at + 1) (words_at (at + 1) cs) (omega arith) (words-begin (at + 1) cs) in
    at_test (is_separator c) at _ _ rest (run-begins at at (at + 1) (words_at (at + 1) cs) (omega arith))

-- a run that ends before a separator is a word of its own
pub run-ends : (from at : ℕ) (ws : List Span) → BeginsFrom (at + 1) ws → run from at ws ≡ record { start = from; stop = at } ∷ ws
run-ends from at [] h = refl
run-ends from at (s ∷ ss) h = grind (arith, nat_tests)

-- a run that goes on
run-run : (from at : ℕ) (ws : List Span) → run from at (run at (at + 1) ws) ≡ run from (at + 1) ws
run-run from at [] = grind (arith, nat_tests)
run-run from at (s ∷ ss) = grind (arith, nat_tests)

-- the words of a text from one place up to another
abbrev pub words_within : List ℕ → ℕ → ℕ → List Span
words_within text to i = words_at i (slice_range text i to)

one_more : (text : List ℕ) (i to : ℕ) → i < to → to ≤ length text → slice_range text i to ≡ get_or text i 0 ∷ slice_range text (i + 1) to
one_more text i to lt le =
    let k : to - i ≡ suc (to - (i + 1)) = omega arith in
    let d : drop i text ≡ get_or text i 0 ∷ drop (i + 1) text = drop_more text i 0 (omega arith) in
    rw (k, d) refl

words_more : (text : List ℕ) (i to : ℕ) → i < to → to ≤ length text → words_within text to i ≡ cond (is_separator (get_or text i 0)) (words_within text to (i + 1)) (run i (i + 1) (words_within text to (i + 1)))
words_more text i to lt le = ap (words_at i) (one_more text i to lt le)

pub none_before : (text : List ℕ) (i to : ℕ) → i < to → to ≤ length text → is_separator (get_or text i 0) ≡ true → going_on None i (words_within text to i) ≡ going_on None (i + 1) (words_within text to (i + 1))
none_before text i to lt le h = words_more text i to lt le ∙ rw h refl

pub none_begins : (text : List ℕ) (i to : ℕ) → i < to → to ≤ length text → is_separator (get_or text i 0) ≡ false → going_on None i (words_within text to i) ≡ going_on (Some i) (i + 1) (words_within text to (i + 1))
none_begins text i to lt le h = words_more text i to lt le ∙ rw h refl

pub one_ends : (text : List ℕ) (i to from : ℕ) → i < to → to ≤ length text → is_separator (get_or text i 0) ≡ true → going_on (Some from) i (words_within text to i) ≡ record { start = from; stop = i } ∷ going_on None (i + 1) (words_within text to (i + 1))
one_ends text i to from lt le h =
    let e : words_within text to i ≡ words_within text to (i + 1) = words_more text i to lt le ∙ rw h refl in
    ap (run from i) e ∙ run-ends from i _ (words-begin (i + 1) (slice_range text (i + 1) to))

pub one_goes_on : (text : List ℕ) (i to from : ℕ) → i < to → to ≤ length text → is_separator (get_or text i 0) ≡ false → going_on (Some from) i (words_within text to i) ≡ going_on (Some from) (i + 1) (words_within text to (i + 1))
one_goes_on text i to from lt le h =
    let e : words_within text to i ≡ run i (i + 1) (words_within text to (i + 1)) = words_more text i to lt le ∙ rw h refl in
    ap (run from i) e ∙ run-run from i _

pub words_all : (text : List ℕ) (to : ℕ) → words_within text to to ≡ []
words_all text to =
    let k : to - to ≡ 0 = omega arith in
    rw k refl
