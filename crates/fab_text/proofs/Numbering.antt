-- Physical lines end at line feeds, and lines are numbered by them.
use Rattle.std.proofs.Common.{◌≡◌, ℕ, ◌+◌, ◌-◌, ◌<◌, true, false, cond, List, [], ◌∷◌, ◌++◌, length, map, take, drop, refl, sym, ap, ◌∙◌, arith, inl, inr}
use Rattle.std.proofs.Math.Seq.{drop-append_seam}
use Rattle.std.proofs.lemmas.Bool.{cases_Bool}
use Rattle.std.proofs.lemmas.List.{length-drop, map-append, take-append-le, drop-append-le}
use Rattle.std.proofs.lemmas.List.Elements.{filter-append}
use Rattle.std.proofs.lemmas.List.Sums.{sum_by-cons}
use Rattle.std.specs.Prelude.{filter, count_by}
use Rattle.std.specs.List.{AllByRecursion}
use Rattle.fab_text.specs.declared.spans.Span.{Span}
use Rattle.fab_text.specs.Lines.{Physical, Placed, is_line_feed, physical, put_first, content, is_continued, words_of, joined, join_first, has_words, bytes_at, line_of, lines_from}
use Rattle.fab_text.specs.Numbering.{LineFeedsEndLines, TextsEndLines, ends_with_feed, goes_on, LineFeedsAreCounted, IsFirstNumber, FirstNumbersCount}
use Rattle.fab_text.proofs.Clean.{IsClean, HasClean, front_clean, all_filter}

-- physical lines

pub feeds_end : LineFeedsEndLines
feeds_end at [] rest h = let none : List ℕ = [] in let n : at + 1 ≡ at + length none + 1 = omega arith in ap (λ k. record { start = at; bytes = [] } ∷ physical k rest) n
feeds_end at (c ∷ cs) rest h =
    let n : at + 1 + length cs + 1 ≡ at + length (c ∷ cs) + 1 = omega arith in
    let inner = feeds_end (at + 1) cs rest h.1 in
    rw (h.0, inner) (ap (λ k. record { start = at; bytes = c ∷ cs } ∷ physical k rest) n)

pub texts_end : TextsEndLines
texts_end at [] some h = absurd (omega arith)
texts_end at (c ∷ []) some h = rw h.0 refl
texts_end at (c ∷ d ∷ ds) some h = let inner = texts_end (at + 1) (d ∷ ds) (omega arith) h.1 in rw (h.0, inner) refl

-- a beginning that ends with a line feed

put_more : (at c : ℕ) (ps qs : List Physical) → 0 < length ps → put_first at c (ps ++ qs) ≡ put_first at c ps ++ qs
put_more at c [] qs h = absurd (omega arith)
put_more at c (p ∷ ps) qs h = refl

put_some : (at c : ℕ) (ps : List Physical) → 0 < length (put_first at c ps)
put_some at c [] = omega arith
put_some at c (p ∷ ps) = omega arith

some_physical : (at c : ℕ) (cs : List ℕ) → 0 < length (physical at (c ∷ cs))
some_physical at c cs = elim (cases_Bool (is_line_feed c)) [
  | inl y ↦ rw y (omega arith)
  | inr n ↦ rw n (put_some at c (physical (at + 1) cs))
]

split_at : (at : ℕ) (front rest : List ℕ) → ends_with_feed front ≡ true → physical at (front ++ rest) ≡ physical at front ++ physical (at + length front) rest
split_at at [] rest h = let none : List ℕ = [] in let n : at ≡ at + length none = omega arith in ap (λ k. physical k rest) n
split_at at (c ∷ []) rest h = let n : at + 1 ≡ at + length (c ∷ []) = omega arith in rw h (ap (λ k. record { start = at; bytes = [] } ∷ physical k rest) n)
split_at at (c ∷ d ∷ ds) rest h =
    let n : at + 1 + length (d ∷ ds) ≡ at + length (c ∷ d ∷ ds) = omega arith in
    let inner : physical (at + 1) (d ∷ ds ++ rest) ≡ physical (at + 1) (d ∷ ds) ++ physical (at + length (c ∷ d ∷ ds)) rest = split_at (at + 1) (d ∷ ds) rest h ∙ ap (λ k. physical (at + 1) (d ∷ ds) ++ physical k rest) n in
    elim (cases_Bool (is_line_feed c)) [
      | inl y ↦ rw y (ap (λ ps. record { start = at; bytes = [] } ∷ ps) inner)
      | inr m ↦ rw m (ap (put_first at c) inner ∙ put_more at c (physical (at + 1) (d ∷ ds)) (physical (at + length (c ∷ d ∷ ds)) rest) (some_physical (at + 1) d ds))
    ]

put_len : (at c : ℕ) (ps : List Physical) → 0 < length ps → length (put_first at c ps) ≡ length ps
put_len at c [] h = absurd (omega arith)
put_len at c (p ∷ ps) h = omega arith

abbrev weight : ℕ → ℕ
weight c = cond (is_line_feed c) 1 0

count_feed : (c : ℕ) (cs : List ℕ) → is_line_feed c ≡ true → count_by is_line_feed (c ∷ cs) ≡ count_by is_line_feed cs + 1
count_feed c cs h =
    let one : weight c ≡ 1 = rw h refl in
    omega (arith, sum_by-cons weight c cs, one)

count_other : (c : ℕ) (cs : List ℕ) → is_line_feed c ≡ false → count_by is_line_feed (c ∷ cs) ≡ count_by is_line_feed cs
count_other c cs h =
    let none : weight c ≡ 0 = rw h refl in
    omega (arith, sum_by-cons weight c cs, none)

len_feed : (at c : ℕ) (cs : List ℕ) → is_line_feed c ≡ true → length (physical at (c ∷ cs)) ≡ length (physical (at + 1) cs) + 1
len_feed at c cs h = rw h (omega arith)

len_other : (at c : ℕ) (cs : List ℕ) → is_line_feed c ≡ false → 0 < length (physical (at + 1) cs) → length (physical at (c ∷ cs)) ≡ length (physical (at + 1) cs)
len_other at c cs h some = rw h (put_len at c (physical (at + 1) cs) some)

feeds_are_lines : (at : ℕ) (front : List ℕ) → ends_with_feed front ≡ true → length (physical at front) ≡ count_by is_line_feed front
feeds_are_lines at [] h = refl
feeds_are_lines at (c ∷ []) h = rw h refl
feeds_are_lines at (c ∷ d ∷ ds) h =
    let inner = feeds_are_lines (at + 1) (d ∷ ds) h in
    elim (cases_Bool (is_line_feed c)) [
      | inl y ↦ len_feed at c (d ∷ ds) y ∙ ap (λ k. k + 1) inner ∙ sym (count_feed c (d ∷ ds) y)
      | inr m ↦ len_other at c (d ∷ ds) m (some_physical (at + 1) d ds) ∙ inner ∙ sym (count_other c (d ∷ ds) m)
    ]

-- lines

pub first_number : FirstNumbersCount
first_number n p ps = elim (cases_Bool (is_continued (content p.bytes))) [
  | inl y ↦ rw y (first_of n (words_of p) (joined (n + 1) ps))
  | inr m ↦ rw m refl
]
  where
    first_of : (n : ℕ) (ws : List Span) (ls : List Placed) → IsFirstNumber n (join_first n ws ls)
    first_of n ws [] = refl
    first_of n ws (l ∷ ls) = refl

some_first : (n : ℕ) (ls : List Placed) → IsFirstNumber n ls → 0 < length ls
some_first n [] h = absurd h
some_first n (l ∷ ls) h = omega arith

join_more : (n : ℕ) (ws : List Span) (ls ms : List Placed) → 0 < length ls → join_first n ws (ls ++ ms) ≡ join_first n ws ls ++ ms
join_more n ws [] ms h = absurd (omega arith)
join_more n ws (l ∷ ls) ms h = refl

joined_split : (n : ℕ) (ps qs : List Physical) → goes_on ps ≡ false → joined n (ps ++ qs) ≡ joined n ps ++ joined (length ps + n) qs
joined_split n [] qs h = let none : List Physical = [] in let e : n ≡ length none + n = omega arith in ap (λ k. joined k qs) e
joined_split n (p ∷ []) qs h = let e : n + 1 ≡ length (p ∷ []) + n = omega arith in rw h (ap (λ k. record { number = n; spans = words_of p } ∷ joined k qs) e)
joined_split n (p ∷ q ∷ ps) qs h =
    let e : length (q ∷ ps) + (n + 1) ≡ length (p ∷ q ∷ ps) + n = omega arith in
    let inner : joined (n + 1) (q ∷ ps ++ qs) ≡ joined (n + 1) (q ∷ ps) ++ joined (length (p ∷ q ∷ ps) + n) qs = joined_split (n + 1) (q ∷ ps) qs h ∙ ap (λ k. joined (n + 1) (q ∷ ps) ++ joined k qs) e in
    elim (cases_Bool (is_continued (content p.bytes))) [
      | inl y ↦ rw y (ap (join_first n (words_of p)) inner ∙ join_more n (words_of p) (joined (n + 1) (q ∷ ps)) (joined (length (p ∷ q ∷ ps) + n) qs) (some_first (n + 1) (joined (n + 1) (q ∷ ps)) (first_number (n + 1) q ps)))
      | inr m ↦ rw m (ap (λ ls. record { number = n; spans = words_of p } ∷ ls) inner)
    ]

-- the words of a beginning are the text's

same_bytes : (front rest : List ℕ) (s : Span) → IsClean front s → bytes_at (front ++ rest) s ≡ bytes_at front s
same_bytes front rest s h =
    let d : drop s.start (front ++ rest) ≡ drop s.start front ++ rest = drop-append-le s.start front rest (omega (arith, h.some, h.within)) in
    let t : take (s.stop - s.start) (drop s.start front ++ rest) ≡ take (s.stop - s.start) (drop s.start front) = take-append-le (s.stop - s.start) (drop s.start front) rest (omega (arith, h.some, h.within, length-drop s.start front)) in
    ap (take (s.stop - s.start)) d ∙ t

same_words : (front rest : List ℕ) (ss : List Span) → AllByRecursion (IsClean front) ss → map (bytes_at (front ++ rest)) ss ≡ map (bytes_at front) ss
same_words front rest [] h = refl
same_words front rest (s ∷ ss) h = rw (same_bytes front rest s h.0, same_words front rest ss h.1) refl

same_lines : (front rest : List ℕ) (ls : List Placed) → AllByRecursion (HasClean front) ls → map (line_of (front ++ rest)) ls ≡ map (line_of front) ls
same_lines front rest [] h = refl
same_lines front rest (l ∷ ls) h =
    let w = same_words front rest l.spans h.0 in
    let here : line_of (front ++ rest) l ≡ line_of front l = ap (λ ws. record { number = l.number; words = ws; spans = l.spans }) w in
    rw (here, same_lines front rest ls h.1) refl

pub counted : LineFeedsAreCounted
unfolding lines_from
counted front rest h =
    let text = front ++ rest in
    let here = joined 1 (physical 0 front) in
    let after = joined (count_by is_line_feed front + 1) (physical (length front) rest) in
    let zero_plus : 0 + length front ≡ length front = omega arith in
    let parts : physical 0 text ≡ physical 0 front ++ physical (length front) rest = split_at 0 front rest h.ends ∙ ap (λ k. physical 0 front ++ physical k rest) zero_plus in
    let number : length (physical 0 front) + 1 ≡ count_by is_line_feed front + 1 = ap (λ k. k + 1) (feeds_are_lines 0 front h.ends) in
    let all : joined 1 (physical 0 text) ≡ here ++ after = ap (joined 1) parts ∙ joined_split 1 (physical 0 front) (physical (length front) rest) h.stops ∙ ap (λ k. here ++ joined k (physical (length front) rest)) number in
    let kept : filter has_words (joined 1 (physical 0 text)) ≡ filter has_words here ++ filter has_words after = ap (filter has_words) all ∙ filter-append has_words here after in
    let shown : map (line_of text) (filter has_words (joined 1 (physical 0 text))) ≡ map (line_of text) (filter has_words here) ++ map (line_of text) (filter has_words after) = ap (map (line_of text)) kept ∙ map-append (line_of text) (filter has_words here) (filter has_words after) in
    let same = same_lines front rest (filter has_words here) (all_filter (HasClean front) has_words here (front_clean front)) in
    let left : drop (length front) text ≡ rest = drop-append_seam front rest in
    shown ∙ rw (same, left) refl
