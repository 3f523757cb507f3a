-- The words of lines have no marks.
use Rattle.std.proofs.Common.{◌≡◌, ℕ, ◌+◌, ◌-◌, ◌<◌, ◌≤◌, Bool, true, false, eqb, List, [], ◌∷◌, ◌++◌, length, get_or, take, drop, map, zero, suc, refl, sym, ap, subst, ◌∙◌, arith, inl, inr}
use Rattle.std.specs.Prelude.{filter}
use Rattle.std.specs.List.{AllByRecursion, before_first, position_or_len, list_any}
use Rattle.std.proofs.lemmas.Bool.{cases_Bool, eqb-true}
use Rattle.std.proofs.lemmas.Bool.Decides.{nat_tests}
use Rattle.std.proofs.lemmas.List.{get_or-take, get_or-drop, length-take, length-drop}
use Rattle.fab_text.specs.declared.spans.Span.{Span}
use Rattle.fab_text.specs.Lines.{Physical, Placed, is_separator, is_line_feed, is_hash, physical, put_first, content, is_continued, without_backslash, run, words_at, words_of, joined, join_first, bytes_at, line_of, lines_from}
use Rattle.fab_text.specs.LineWords.{is_mark, can_be_word, AreWords, LinesHaveWords}
use Rattle.fab_text.proofs.Physical.{IsFront, take-front, front_le, front_of_front, trimmed-front, content-front}

-- what is true of all elements

all_take : {X : Type 0} (P : X → Type 0) (n : ℕ) (xs : List X) → AllByRecursion P xs → AllByRecursion P (take n xs)
all_take P zero xs h = tt
all_take P (suc n) [] h = tt
all_take P (suc n) (x ∷ xs) h = (h.0, all_take P n xs h.1)

all_append : {X : Type 0} (P : X → Type 0) (xs ys : List X) → AllByRecursion P xs → AllByRecursion P ys → AllByRecursion P (xs ++ ys)
all_append P [] ys h k = k
all_append P (x ∷ xs) ys h k = (h.0, all_append P xs ys h.1 k)

all_both : {X : Type 0} (P Q : X → Type 0) (xs : List X) → AllByRecursion P xs → AllByRecursion Q xs → AllByRecursion (λ x. P x × Q x) xs
all_both P Q [] h k = tt
all_both P Q (x ∷ xs) h k = ((h.0, k.0), all_both P Q xs h.1 k.1)

pub all_filter : {X : Type 0} (P : X → Type 0) (f : X → Bool) (xs : List X) → AllByRecursion P xs → AllByRecursion P (filter f xs)
all_filter P f [] h = tt
all_filter P f (x ∷ xs) h = elim (cases_Bool (f x)) [
  | inl y ↦ rw y (h.0, all_filter P f xs h.1)
  | inr n ↦ rw n (all_filter P f xs h.1)
]

-- the bytes of a text from a place on

record Stand (text : List ℕ) (at : ℕ) (cs : List ℕ) : Type 0 where
  pub within : at + length cs ≤ length text
  pub same : (i : ℕ) → i < length cs → get_or cs i 0 ≡ get_or text (at + i) 0

stand_all : (text : List ℕ) → Stand text 0 text
stand_all text = record {
  within = omega arith;
  same = λ i lt. let e : i ≡ 0 + i = omega arith in ap (λ k. get_or text k 0) e;
}

stand_none : (text : List ℕ) (at : ℕ) → at ≤ length text → Stand text at []
stand_none text at le = record { within = omega arith; same = λ i lt. absurd (omega arith) }

stand_here : (text : List ℕ) (at c : ℕ) (cs : List ℕ) → Stand text at (c ∷ cs) → c ≡ get_or text at 0
stand_here text at c cs h = let e : at + 0 ≡ at = omega arith in h.same 0 (omega arith) ∙ ap (λ k. get_or text k 0) e

stand_rest : (text : List ℕ) (at c : ℕ) (cs : List ℕ) → Stand text at (c ∷ cs) → Stand text (at + 1) cs
stand_rest text at c cs h = record {
  within = omega (arith, h.within);
  same = λ i lt. let e : at + suc i ≡ at + 1 + i = omega arith in h.same (suc i) (omega arith) ∙ ap (λ k. get_or text k 0) e;
}

stand_more : (text : List ℕ) (at c : ℕ) (cs : List ℕ) → c ≡ get_or text at 0 → Stand text (at + 1) cs → Stand text at (c ∷ cs)
stand_more text at c cs here h = record { within = omega (arith, h.within); same = same }
  where
    same : (i : ℕ) → i < length (c ∷ cs) → get_or (c ∷ cs) i 0 ≡ get_or text (at + i) 0
    same zero lt = let e : at ≡ at + 0 = omega arith in here ∙ ap (λ k. get_or text k 0) e
    same (suc i) lt = let e : at + 1 + i ≡ at + suc i = omega arith in h.same i (omega arith) ∙ ap (λ k. get_or text k 0) e

stand_front : (text : List ℕ) (at : ℕ) (xs ys : List ℕ) → IsFront xs ys → Stand text at ys → Stand text at xs
stand_front text at xs ys f h = record {
  within = omega (arith, h.within, front_le xs ys f);
  same = λ i lt. ap (λ zs. get_or zs i 0) (sym f) ∙ get_or-take (length xs) ys i 0 lt ∙ h.same i (omega (arith, lt, front_le xs ys f));
}

-- words of bytes without line feeds and `#`

abbrev IsPlain : ℕ → Type 0
IsPlain c = (is_line_feed c ≡ false) × (is_hash c ≡ false)

-- a place of some bytes of a text, none of them a mark
pub record IsClean (text : List ℕ) (s : Span) : Type 0 where
  pub some : s.start < s.stop
  pub within : s.stop ≤ length text
  pub clean : (i : ℕ) → s.start ≤ i → i < s.stop → is_mark (get_or text i 0) ≡ false

unmarked : (c : ℕ) → is_separator c ≡ false → IsPlain c → is_mark c ≡ false
unmarked c h k = rw (h, k.0, k.1) refl

past : (i at : ℕ) → at ≤ i → eqb i at ≡ false → at + 1 ≤ i
past i at le h = grind (arith, nat_tests)

one_clean : (text : List ℕ) (at : ℕ) → at < length text → is_mark (get_or text at 0) ≡ false → IsClean text (record { start = at; stop = at + 1 })
one_clean text at lt h = record {
  some = omega arith;
  within = omega arith;
  clean = λ i le l. let e : i ≡ at = omega arith in rw e h;
}

more_clean : (text : List ℕ) (at : ℕ) (s : Span) → s.start ≡ at + 1 → is_mark (get_or text at 0) ≡ false → IsClean text s → IsClean text (record { start = at; stop = s.stop })
more_clean text at s e h k = record {
  some = omega (arith, e, k.some);
  within = k.within;
  clean = λ i le l.
      elim (cases_Bool (eqb i at)) [
        | inl y ↦ let is : i ≡ at = eqb-true i at y in rw is h
        | inr n ↦ k.clean i (omega (arith, e, past i at le n)) l
      ];
}

run_clean : (text : List ℕ) (at : ℕ) (ws : List Span) → at < length text → is_mark (get_or text at 0) ≡ false → AllByRecursion (IsClean text) ws → AllByRecursion (IsClean text) (run at (at + 1) ws)
run_clean text at [] lt h k = (one_clean text at lt h, tt)
run_clean text at (s ∷ ss) lt h k = elim (cases_Bool (eqb s.start (at + 1))) [
  | inl y ↦ rw y (more_clean text at s (eqb-true s.start (at + 1) y) h k.0, k.1)
  | inr n ↦ rw n (one_clean text at lt h, k)
]

words_clean : (text : List ℕ) (at : ℕ) (cs : List ℕ) → Stand text at cs → AllByRecursion IsPlain cs → AllByRecursion (IsClean text) (words_at at cs)
words_clean text at [] h k = tt
words_clean text at (c ∷ cs) h k =
    let rest = words_clean text (at + 1) cs (stand_rest text at c cs h) k.1 in
    elim (cases_Bool (is_separator c)) [
      | inl y ↦ rw y rest
      | inr n ↦
          let here : is_mark (get_or text at 0) ≡ false = ap is_mark (sym (stand_here text at c cs h)) ∙ unmarked c n k.0 in
          rw n (run_clean text at (words_at (at + 1) cs) (omega (arith, h.within)) here rest)
    ]

-- physical lines

record IsPart (text : List ℕ) (p : Physical) : Type 0 where
  pub stands : Stand text p.start p.bytes
  pub no_feed : AllByRecursion (λ c. is_line_feed c ≡ false) p.bytes

abbrev StartsAt : ℕ → List Physical → Type 0
StartsAt at [] = Unit {0}
StartsAt at (p ∷ ps) = p.start ≡ at

put_starts : (at c : ℕ) (ps : List Physical) → StartsAt at (put_first at c ps)
put_starts at c [] = refl
put_starts at c (p ∷ ps) = refl

starts : (at : ℕ) (cs : List ℕ) → StartsAt at (physical at cs)
starts at [] = tt
starts at (c ∷ cs) = elim (cases_Bool (is_line_feed c)) [
  | inl y ↦ rw y refl
  | inr n ↦ rw n (put_starts at c (physical (at + 1) cs))
]

put_part : (text : List ℕ) (at c : ℕ) (ps : List Physical) → is_line_feed c ≡ false → at < length text → c ≡ get_or text at 0 → StartsAt (at + 1) ps → AllByRecursion (IsPart text) ps → AllByRecursion (IsPart text) (put_first at c ps)
put_part text at c [] n lt here s h = (record { stands = stand_more text at c [] here (stand_none text (at + 1) (omega arith)); no_feed = (n, tt) }, tt)
put_part text at c (p ∷ ps) n lt here s h =
    (record { stands = stand_more text at c p.bytes here (subst (λ k. Stand text k p.bytes) s h.0.stands); no_feed = (n, h.0.no_feed) }, h.1)

parts : (text : List ℕ) (at : ℕ) (cs : List ℕ) → Stand text at cs → AllByRecursion (IsPart text) (physical at cs)
parts text at [] h = tt
parts text at (c ∷ cs) h =
    let rest = parts text (at + 1) cs (stand_rest text at c cs h) in
    elim (cases_Bool (is_line_feed c)) [
      | inl y ↦ rw y (record { stands = stand_none text at (omega (arith, h.within)); no_feed = tt }, rest)
      | inr n ↦ rw n (put_part text at c (physical (at + 1) cs) n (omega (arith, h.within)) (stand_here text at c cs h) (starts (at + 1) cs) rest)
    ]

before_hash : (xs : List ℕ) → AllByRecursion (λ c. is_hash c ≡ false) (before_first is_hash xs)
before_hash [] = tt
before_hash (x ∷ xs) = elim (cases_Bool (is_hash x)) [
  | inl y ↦
      let place : position_or_len is_hash (x ∷ xs) ≡ 0 = rw y (omega arith) in
      rw place tt
  | inr n ↦
      let place : position_or_len is_hash (x ∷ xs) ≡ suc (position_or_len is_hash xs) = rw n (omega arith) in
      rw place (n, before_hash xs)
]

without-front : (xs : List ℕ) → IsFront (without_backslash xs) xs
unfolding without_backslash
without-front xs = take-front _ xs

content-before : (bytes : List ℕ) → IsFront (content bytes) (before_first is_hash bytes)
unfolding content
content-before bytes = trimmed-front (before_first is_hash bytes)

front_all : (P : ℕ → Type 0) (xs ys : List ℕ) → IsFront xs ys → AllByRecursion P ys → AllByRecursion P xs
front_all P xs ys f h = subst (AllByRecursion P) f (all_take P (length xs) ys h)

of_part : (text : List ℕ) (p : Physical) → IsPart text p → AllByRecursion (IsClean text) (words_of p)
unfolding words_of
of_part text p h =
    let kept = without_backslash (content p.bytes) in
    let in_line = front_of_front kept (content p.bytes) p.bytes (without-front (content p.bytes)) (content-front p.bytes) in
    let in_front = front_of_front kept (content p.bytes) (before_first is_hash p.bytes) (without-front (content p.bytes)) (content-before p.bytes) in
    let no_feed = front_all (λ c. is_line_feed c ≡ false) kept p.bytes in_line h.no_feed in
    let no_hash = front_all (λ c. is_hash c ≡ false) kept (before_first is_hash p.bytes) in_front (before_hash p.bytes) in
    words_clean text p.start kept (stand_front text p.start kept p.bytes in_line h.stands) (all_both (λ c. is_line_feed c ≡ false) (λ c. is_hash c ≡ false) kept no_feed no_hash)

-- lines

abbrev pub HasClean : List ℕ → Placed → Type 0
HasClean text l = AllByRecursion (IsClean text) l.spans

join_clean : (text : List ℕ) (n : ℕ) (ws : List Span) (ls : List Placed) → AllByRecursion (IsClean text) ws → AllByRecursion (HasClean text) ls → AllByRecursion (HasClean text) (join_first n ws ls)
join_clean text n ws [] w h = (w, tt)
join_clean text n ws (l ∷ ls) w h = (all_append (IsClean text) ws l.spans w h.0, h.1)

joined_clean : (text : List ℕ) (n : ℕ) (ps : List Physical) → AllByRecursion (IsPart text) ps → AllByRecursion (HasClean text) (joined n ps)
joined_clean text n [] h = tt
joined_clean text n (p ∷ ps) h =
    let w = of_part text p h.0 in
    let rest = joined_clean text (n + 1) ps h.1 in
    elim (cases_Bool (is_continued (content p.bytes))) [
      | inl y ↦ rw y (join_clean text n (words_of p) (joined (n + 1) ps) w rest)
      | inr m ↦ rw m (w, rest)
    ]

pub front_clean : (text : List ℕ) → AllByRecursion (HasClean text) (joined 1 (physical 0 text))
front_clean text = joined_clean text 1 (physical 0 text) (parts text 0 text (stand_all text))

none_marked : (xs : List ℕ) → ((i : ℕ) → i < length xs → is_mark (get_or xs i 0) ≡ false) → list_any is_mark xs ≡ false
none_marked [] h = refl
none_marked (x ∷ xs) h =
    let here : is_mark x ≡ false = h 0 (omega arith) in
    rw here (none_marked xs (λ i lt. h (suc i) (omega arith)))

not_zero : (n : ℕ) → 0 < n → eqb n 0 ≡ false
not_zero n h = grind (arith, nat_tests)

word_clean : (text : List ℕ) (s : Span) → IsClean text s → can_be_word (bytes_at text s) ≡ true
word_clean text s h =
    let len : length (bytes_at text s) ≡ s.stop - s.start = omega (arith, length-take (s.stop - s.start) (drop s.start text), length-drop s.start text, h.some, h.within) in
    let some : eqb (length (bytes_at text s)) 0 ≡ false = not_zero (length (bytes_at text s)) (omega (arith, len, h.some)) in
    let at : (i : ℕ) → i < length (bytes_at text s) → get_or (bytes_at text s) i 0 ≡ get_or text (s.start + i) 0 =
    λ i lt. get_or-take (s.stop - s.start) (drop s.start text) i 0 (omega (arith, lt, len)) ∙ get_or-drop s.start text i 0 in
    let none : list_any is_mark (bytes_at text s) ≡ false = none_marked (bytes_at text s) (λ i lt. ap is_mark (at i lt) ∙ h.clean (s.start + i) (omega arith) (omega (arith, lt, len, h.some))) in
    rw (some, none) refl

words_are : (text : List ℕ) (ss : List Span) → AllByRecursion (IsClean text) ss → AreWords (map (bytes_at text) ss)
words_are text [] h = tt
words_are text (s ∷ ss) h = (word_clean text s h.0, words_are text ss h.1)

lines_are : (text : List ℕ) (ls : List Placed) → AllByRecursion (HasClean text) ls → AllByRecursion (λ l. AreWords l.words) (map (line_of text) ls)
lines_are text [] h = tt
lines_are text (l ∷ ls) h = (words_are text l.spans h.0, lines_are text ls h.1)

pub lines_have_words : LinesHaveWords
unfolding lines_from
lines_have_words text = lines_are text _ (all_filter (HasClean text) _ (joined 1 (physical 0 text)) (front_clean text))
