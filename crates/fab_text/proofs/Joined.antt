-- Lines that a backslash continues.
use Rattle.std.proofs.Common.{◌≡◌, ℕ, ◌+◌, ◌<◌, Bool, true, false, cond, List, [], ◌∷◌, ◌++◌, length, drop, refl, sym, ap, ◌∙◌, arith, append_assoc}
use Rattle.std.proofs.lemmas.List.{drop_all, length-drop}
use Rattle.fab_text.specs.declared.spans.Span.{Span}
use Rattle.fab_text.specs.Lines.{Physical, Placed, physical, content, is_continued, words_of, joined, join_first}
use Rattle.fab_text.specs.Steps.{IsNextLine}
use Rattle.fab_text.proofs.Physical.{begins_any}

join_join : (f n : ℕ) (old ws : List Span) (ls : List Placed) → join_first f old (join_first n ws ls) ≡ join_first f (old ++ ws) ls
join_join f n old ws [] = refl
join_join f n old ws (l ∷ ls) = ap (λ xs. record { number = f; spans = xs } ∷ ls) (sym (append_assoc old ws l.spans))

join_none : (n : ℕ) (p : Physical) (ps : List Physical) → join_first n [] (joined n (p ∷ ps)) ≡ joined n (p ∷ ps)
join_none n p ps = by_test (is_continued (content p.bytes))
  where
    by_test : (b : Bool) → join_first n [] (cond b (join_first n (words_of p) (joined (n + 1) ps)) (record { number = n; spans = words_of p } ∷ joined (n + 1) ps)) ≡ cond b (join_first n (words_of p) (joined (n + 1) ps)) (record { number = n; spans = words_of p } ∷ joined (n + 1) ps)
    by_test true = join_join n n [] (words_of p) (joined (n + 1) ps)
    by_test false = refl

pub nothing_yet : (text : List ℕ) (at n : ℕ) → at < length text → join_first n [] (joined n (physical at (drop at text))) ≡ joined n (physical at (drop at text))
nothing_yet text at n lt = let b = begins_any (drop at text) (omega (arith, length-drop at text)) at in rw b (join_none n _ _)

-- a line that is continued
pub goes_on : (text : List ℕ) (at next f n : ℕ) (old new : List Span) → IsNextLine text at true next old new
    → join_first f old (joined n (physical at (drop at text))) ≡ join_first f new (joined (n + 1) (physical next (drop next text)))
goes_on text at next f n old new h =
    let rest = joined (n + 1) (physical next (drop next text)) in
    let e : joined n (physical at (drop at text)) ≡ join_first n (words_of h.line) rest = rw (h.first, ← h.continues) refl in
    rw (e, h.words) (join_join f n old (words_of h.line) rest)

-- a line that isn't
pub ends : (text : List ℕ) (at next f n : ℕ) (old new : List Span) → IsNextLine text at false next old new
    → join_first f old (joined n (physical at (drop at text))) ≡ record { number = f; spans = new } ∷ joined (n + 1) (physical next (drop next text))
ends text at next f n old new h =
    let rest = joined (n + 1) (physical next (drop next text)) in
    let e : joined n (physical at (drop at text)) ≡ record { number = n; spans = words_of h.line } ∷ rest = rw (h.first, ← h.continues) refl in
    rw (e, h.words) refl

-- a line that the end of the text ends
pub ends_there : (text : List ℕ) (at next f n : ℕ) (b : Bool) (old new : List Span) → IsNextLine text at b next old new → next ≡ length text
    → join_first f old (joined n (physical at (drop at text))) ≡ record { number = f; spans = new } ∷ joined (n + 1) (physical next (drop next text))
ends_there text at next f n true old new h e =
    let d : drop next text ≡ [] = drop_all next text (omega arith) in
    goes_on text at next f n old new h ∙ rw d refl
ends_there text at next f n false old new h e = ends text at next f n old new h
