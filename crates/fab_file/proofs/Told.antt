-- The words of the lines of a text that was made of lines.
use Rattle.std.proofs.Common.{◌≡◌, ℕ, ◌+◌, Bool, true, false, cond, List, [], ◌∷◌, ◌++◌, length, map, refl, sym, ap, ◌∙◌, arith, append_assoc}
use Rattle.std.specs.Prelude.{filter}
use Rattle.std.specs.List.{flat_map}
use Rattle.std.proofs.lemmas.List.{length-append}
use Rattle.fab_text.specs.declared.spans.Span.{Span}
use Rattle.fab_text.specs.Lines.{TextLine, Physical, Placed, bytes_at, line_of, has_words, words_of, joined, join_first, physical, lines, lines_from}
use Rattle.fab_file.specs.Written.{ended}
use Rattle.fab_file.proofs.Split.{Says, not_continued_there, words_there, physical_first}

-- each line says these words
abbrev pub AllSay : List (List ℕ) → List (List (List ℕ)) → Type 0
AllSay [] [] = Unit {0}
AllSay [] (w ∷ ws) = ⊥
AllSay (l ∷ ls) [] = ⊥
AllSay (l ∷ ls) (w ∷ ws) = Says l w × AllSay ls ws

abbrev pub has_word : List (List ℕ) → Bool
has_word [] = false
has_word (w ∷ ws) = true

abbrev pub words_in : TextLine → List (List ℕ)
words_in l = l.words

-- the words of the lines of a text
abbrev words_told : List ℕ → List Placed → List (List (List ℕ))
words_told text ps = map words_in (map (line_of text) (filter has_words ps))

one_told : (text : List ℕ) (n : ℕ) (spans : List Span) (ps : List Placed) (ws : List (List ℕ)) (wss : List (List (List ℕ))) → map (bytes_at text) spans ≡ ws → words_told text ps ≡ filter has_word wss
    → words_told text (record { number = n; spans = spans } ∷ ps) ≡ filter has_word (ws ∷ wss)
one_told text n [] ps ws wss h k = rw (← h) k
one_told text n (s ∷ ss) ps ws wss h k = rw (← h) (ap (λ v. (bytes_at text s ∷ map (bytes_at text) ss) ∷ v) k)

all_told : (before : List ℕ) (n : ℕ) (ls : List (List ℕ)) (wss : List (List (List ℕ))) → AllSay ls wss → words_told (before ++ flat_map ended ls) (joined n (physical (length before) (flat_map ended ls))) ≡ filter has_word wss
all_told before n [] [] h = refl
all_told before n [] (w ∷ ws) h = absurd h
all_told before n (l ∷ ls) [] h = absurd h
all_told before n (l ∷ ls) (w ∷ ws) h =
    let rest = flat_map ended ls in
    let text = before ++ (l ++ 10 ∷ rest) in
    let here : Physical = record { start = length before; bytes = l } in
    let next = physical (length before + (length l + 1)) rest in
    let e : flat_map ended (l ∷ ls) ≡ l ++ 10 ∷ rest = append_assoc l (10 ∷ []) rest in
    let p : physical (length before) (l ++ 10 ∷ rest) ≡ here ∷ next = physical_first (length before) l rest h.0.single in
    let j : joined n (here ∷ next) ≡ record { number = n; spans = words_of here } ∷ joined (n + 1) next =
    ap (λ b. cond b (join_first n (words_of here) (joined (n + 1) next)) (record { number = n; spans = words_of here } ∷ joined (n + 1) next)) (not_continued_there l w h.0) in
    let t : before ++ (l ++ 10 ∷ []) ++ rest ≡ before ++ (l ++ 10 ∷ rest) = append_assoc before (l ++ 10 ∷ []) rest ∙ ap (λ x. before ++ x) (append_assoc l (10 ∷ []) rest) in
    let len : length (before ++ (l ++ 10 ∷ [])) ≡ length before + (length l + 1) = omega (arith, length-append before (l ++ 10 ∷ []), length-append l (10 ∷ [])) in
    let more : words_told text (joined (n + 1) next) ≡ filter has_word ws =
    ap (λ x. words_told x (joined (n + 1) next)) (sym t)
    ∙ ap (λ k. words_told (before ++ (l ++ 10 ∷ []) ++ rest) (joined (n + 1) (physical k rest))) (sym len)
    ∙ all_told (before ++ (l ++ 10 ∷ [])) (n + 1) ls ws h.1 in
    ap (λ x. words_told (before ++ x) (joined n (physical (length before) x))) e
    ∙ ap (λ x. words_told text (joined n x)) p
    ∙ ap (words_told text) j
    ∙ one_told text n (words_of here) (joined (n + 1) next) w ws (words_there l w before (10 ∷ rest) h.0) more

pub lines_told : (ls : List (List ℕ)) (wss : List (List (List ℕ))) → AllSay ls wss → map words_in (lines (flat_map ended ls)) ≡ filter has_word wss
unfolding lines_from
lines_told ls wss h = all_told [] 1 ls wss h
