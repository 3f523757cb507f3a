-- A word is a greatest run without separators.
use Rattle.std.proofs.Common.{◌≡◌, ℕ, ◌+◌, false, List, [], ◌∷◌, ◌++◌, length, arith}
use Rattle.std.proofs.lemmas.Bool.Decides.{nat_tests}
use Rattle.std.specs.List.{AllByRecursion}
use Rattle.fab_text.specs.declared.spans.Span.{Span}
use Rattle.fab_text.specs.Lines.{is_separator, run, words_at}
use Rattle.fab_text.specs.Runs.{EndsWord, RunsAreWords}
use Rattle.fab_text.proofs.Words.{BeginsFrom, run-ends, words-begin}

-- what follows a word begins after the separator
apart : (at : ℕ) (rest : List ℕ) → EndsWord rest → BeginsFrom (at + 1) (words_at at rest)
apart at [] h = tt
apart at (c ∷ cs) h = rw h (words-begin (at + 1) cs)

join : (at stop : ℕ) (ws : List Span) → run at (at + 1) (record { start = at + 1; stop = stop } ∷ ws) ≡ record { start = at; stop = stop } ∷ ws
join at stop ws = grind (arith, nat_tests)

word_from : (at c : ℕ) (cs rest : List ℕ) → AllByRecursion (λ c. is_separator c ≡ false) (c ∷ cs) → EndsWord rest
    → words_at at (c ∷ (cs ++ rest)) ≡ record { start = at; stop = at + (length cs + 1) } ∷ words_at (at + (length cs + 1)) rest
word_from at c [] rest h k = rw h.0 (run-ends at (at + 1) (words_at (at + 1) rest) (apart (at + 1) rest k))
word_from at c (d ∷ ds) rest h k =
    let n : at + 1 + (length ds + 1) ≡ at + (length (d ∷ ds) + 1) = omega arith in
    let inner = word_from (at + 1) d ds rest h.1 k in
    rw (h.0, inner, n) (join at (at + (length (d ∷ ds) + 1)) (words_at (at + (length (d ∷ ds) + 1)) rest))

pub runs : RunsAreWords
runs at [] rest some h k = absurd (omega arith)
runs at (c ∷ cs) rest some h k = let n : at + (length cs + 1) ≡ at + length (c ∷ cs) = omega arith in rw n at (word_from at c cs rest h k)
