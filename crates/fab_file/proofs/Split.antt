-- The words of bytes that are part of a text.
use Rattle.std.proofs.Common.{◌≡◌, ℕ, ◌+◌, ◌-◌, ◌<◌, ◌≤◌, true, false, Bool, cond, eqb, List, [], ◌∷◌, ◌++◌, length, take, drop, map, get_or, refl, sym, ap, ◌∙◌, arith, append_assoc}
use Rattle.std.specs.Prelude.{slice_range}
use Rattle.std.proofs.Math.Seq.{drop-append_seam, take-append_seam, take-length}
use Rattle.std.proofs.lemmas.List.{length-append, get_or_append_left, get_or-append-add}
use Rattle.std.proofs.lemmas.List.Sums.{suffix_len_is}
use Rattle.std.specs.List.{AllByRecursion, list_any, position_or_len, before_first, suffix_len}
use Rattle.fab_text.specs.Lines.{is_separator, is_hash, is_line_feed, run, words_at, bytes_at, trimmed, content, is_continued, without_backslash, words_of, physical, put_first}
use Rattle.fab_text.specs.Runs.{EndsWord}
use Rattle.fab_text.proofs.Runs.{runs}
use Rattle.fab_file.proofs.Seats.{or_neither}

-- wherever the bytes are in a text, these are their words
pub record Reads (kept : List ℕ) (ws : List (List ℕ)) : Type 0 where
  pub everywhere : (before rest : List ℕ) → map (bytes_at (before ++ (kept ++ rest))) (words_at (length before) kept) ≡ ws

pub no_words : Reads [] []
no_words = record { everywhere = λ before rest. refl }

behind_one : (c : ℕ) (kept : List ℕ) (ws : List (List ℕ)) → is_separator c ≡ true → Reads kept ws → (before rest : List ℕ) → map (bytes_at (before ++ ((c ∷ kept) ++ rest))) (words_at (length before) (c ∷ kept)) ≡ ws
behind_one c kept ws h r before rest =
    let t : before ++ ((c ∷ kept) ++ rest) ≡ before ++ c ∷ [] ++ (kept ++ rest) = sym (append_assoc before (c ∷ []) (kept ++ rest)) in
    let n : length (before ++ c ∷ []) ≡ length before + 1 = length-append before (c ∷ []) in
    let x : map (bytes_at (before ++ c ∷ [] ++ (kept ++ rest))) (words_at (length before + 1) kept) ≡ ws = ap (λ k. map (bytes_at (before ++ c ∷ [] ++ (kept ++ rest))) (words_at k kept)) (sym n) ∙ r.everywhere (before ++ c ∷ []) rest in
    ap (λ b. map (bytes_at (before ++ ((c ∷ kept) ++ rest))) (cond b (words_at (length before + 1) kept) (run (length before) (length before + 1) (words_at (length before + 1) kept)))) h
    ∙ ap (λ s. map (bytes_at s) (words_at (length before + 1) kept)) t ∙ x

pub behind_separator : (c : ℕ) (kept : List ℕ) (ws : List (List ℕ)) → is_separator c ≡ true → Reads kept ws → Reads (c ∷ kept) ws
behind_separator c kept ws h r = record { everywhere = behind_one c kept ws h r }

word_here : (before w tail rest : List ℕ) → slice_range (before ++ ((w ++ tail) ++ rest)) (length before) (length before + length w) ≡ w
word_here before w tail rest =
    let n : length before + length w - length before ≡ length w = omega arith in
    ap (λ k. take k (drop (length before) (before ++ ((w ++ tail) ++ rest)))) n
    ∙ ap (take (length w)) (drop-append_seam before ((w ++ tail) ++ rest) ∙ append_assoc w tail rest)
    ∙ take-append_seam w (tail ++ rest)

before_one : (w tail : List ℕ) (ws : List (List ℕ)) → 0 < length w → AllByRecursion (λ c. is_separator c ≡ false) w → EndsWord tail → Reads tail ws → (before rest : List ℕ) → map (bytes_at (before ++ ((w ++ tail) ++ rest))) (words_at (length before) (w ++ tail)) ≡ w ∷ ws
before_one w tail ws some clean e r before rest =
    let text = before ++ ((w ++ tail) ++ rest) in
    let t : before ++ ((w ++ tail) ++ rest) ≡ before ++ w ++ (tail ++ rest) = ap (λ s. before ++ s) (append_assoc w tail rest) ∙ sym (append_assoc before w (tail ++ rest)) in
    let n : length (before ++ w) ≡ length before + length w = length-append before w in
    let x : map (bytes_at (before ++ w ++ (tail ++ rest))) (words_at (length before + length w) tail) ≡ ws = ap (λ k. map (bytes_at (before ++ w ++ (tail ++ rest))) (words_at k tail)) (sym n) ∙ r.everywhere (before ++ w) rest in
    ap (map (bytes_at text)) (runs (length before) w tail some clean e)
    ∙ ap (λ v. v ∷ map (bytes_at text) (words_at (length before + length w) tail)) (word_here before w tail rest)
    ∙ ap (λ v. w ∷ v) (ap (λ s. map (bytes_at s) (words_at (length before + length w) tail)) t ∙ x)

pub word_first : (w tail : List ℕ) (ws : List (List ℕ)) → 0 < length w → AllByRecursion (λ c. is_separator c ≡ false) w → EndsWord tail → Reads tail ws → Reads (w ++ tail) (w ∷ ws)
word_first w tail ws some clean e r = record { everywhere = before_one w tail ws some clean e r }

-- what is cut off a line

none_passes : (p : ℕ → Bool) (xs : List ℕ) → list_any p xs ≡ false → position_or_len p xs ≡ length xs
none_passes p [] h = refl
none_passes p (x ∷ xs) h =
    let k = or_neither (p x) (list_any p xs) h in
    let more = none_passes p xs k.1 in
    rw k.0 (omega arith)

first_passes : (p : ℕ → Bool) (xs : List ℕ) (c : ℕ) (ys : List ℕ) → list_any p xs ≡ false → p c ≡ true → position_or_len p (xs ++ c ∷ ys) ≡ length xs
first_passes p [] c ys h k = rw k refl
first_passes p (x ∷ xs) c ys h k =
    let n = or_neither (p x) (list_any p xs) h in
    let more = first_passes p xs c ys n.1 k in
    rw n.0 (omega arith)

pub uncut : (xs : List ℕ) → list_any is_hash xs ≡ false → before_first is_hash xs ≡ xs
uncut xs h = ap (λ n. take n xs) (none_passes is_hash xs h) ∙ take-length xs

pub cut : (xs ys : List ℕ) → list_any is_hash xs ≡ false → before_first is_hash (xs ++ 35 ∷ ys) ≡ xs
cut xs ys h = ap (λ n. take n (xs ++ 35 ∷ ys)) (first_passes is_hash xs 35 ys h refl) ∙ take-append_seam xs (35 ∷ ys)

abbrev pub last_byte : List ℕ → ℕ
last_byte xs = get_or xs (length xs - 1) 0

pub last-append : (xs ys : List ℕ) → 0 < length ys → last_byte (xs ++ ys) ≡ last_byte ys
last-append xs ys some =
    let n : length (xs ++ ys) - 1 ≡ length xs + (length ys - 1) = omega (arith, length-append xs ys) in
    ap (λ k. get_or (xs ++ ys) k 0) n ∙ get_or-append-add xs ys (length ys - 1) 0

-- separators after a byte that is none are dropped
pub trimmed_is : (body seps : List ℕ) → 0 < length body → is_separator (last_byte body) ≡ false
    → ((k : ℕ) → length body ≤ k → k < length (body ++ seps) → is_separator (get_or (body ++ seps) k 0) ≡ true) → trimmed (body ++ seps) ≡ body
unfolding trimmed
trimmed_is body seps some last all =
    let s : suffix_len is_separator (body ++ seps) ≡ length (body ++ seps) - length body =
    suffix_len_is is_separator (body ++ seps) (length body) 0 (omega (arith, length-append body seps)) all
    (λ pos. ap is_separator (get_or_append_left body seps 0 (length body - 1) (omega arith)) ∙ last) in
    let n : length (body ++ seps) - suffix_len is_separator (body ++ seps) ≡ length body = omega (arith, s, length-append body seps) in
    ap (λ k. take k (body ++ seps)) n ∙ take-append_seam body seps

pub not_continued : (xs : List ℕ) → eqb (last_byte xs) 92 ≡ false → is_continued xs ≡ false
unfolding is_continued
not_continued xs h = h

pub no_backslash_last : (xs : List ℕ) → is_continued xs ≡ false → eqb (last_byte xs) 92 ≡ false
unfolding is_continued
no_backslash_last xs h = h

kept_all : (xs : List ℕ) → is_continued xs ≡ false → without_backslash xs ≡ xs
unfolding without_backslash
kept_all xs h = rw h (take-length xs)

-- a line that is one physical line and no more, and its words
pub record Says (l : List ℕ) (ws : List (List ℕ)) : Type 0 where
  pub single : list_any is_line_feed l ≡ false
  pub kept : List ℕ
  pub cut_off : List ℕ
  pub front : l ≡ kept ++ cut_off
  pub holds : content l ≡ kept
  pub ends : is_continued kept ≡ false
  pub reads : Reads kept ws

pub not_continued_there : (l : List ℕ) (ws : List (List ℕ)) → Says l ws → is_continued (content l) ≡ false
not_continued_there l ws s = ap is_continued s.holds ∙ s.ends

pub words_there : (l : List ℕ) (ws : List (List ℕ)) (before more : List ℕ) → Says l ws → map (bytes_at (before ++ (l ++ more))) (words_of (record { start = length before; bytes = l })) ≡ ws
unfolding words_of
words_there l ws before more s =
    let k : without_backslash (content l) ≡ s.kept = ap without_backslash s.holds ∙ kept_all s.kept s.ends in
    let t : before ++ (l ++ more) ≡ before ++ (s.kept ++ (s.cut_off ++ more)) = ap (λ x. before ++ (x ++ more)) s.front ∙ ap (λ x. before ++ x) (append_assoc s.kept s.cut_off more) in
    ap (λ x. map (bytes_at (before ++ (l ++ more))) (words_at (length before) x)) k
    ∙ ap (λ x. map (bytes_at x) (words_at (length before) s.kept)) t
    ∙ s.reads.everywhere before (s.cut_off ++ more)

-- the physical line in front of a line feed
pub physical_first : (at : ℕ) (l rest : List ℕ) → list_any is_line_feed l ≡ false → physical at (l ++ 10 ∷ rest) ≡ record { start = at; bytes = l } ∷ physical (at + (length l + 1)) rest
physical_first at [] rest h = refl
physical_first at (c ∷ cs) rest h =
    let k = or_neither (is_line_feed c) (list_any is_line_feed cs) h in
    let n : at + 1 + (length cs + 1) ≡ at + (length (c ∷ cs) + 1) = omega arith in
    rw k.0 (ap (put_first at c) (physical_first (at + 1) cs rest k.1) ∙ ap (λ x. record { start = at; bytes = c ∷ cs } ∷ physical x rest) n)
