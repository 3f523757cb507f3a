-- The words of the lines that are written.
use Rattle.std.proofs.Common.{◌≡◌, ℕ, ◌+◌, ◌-◌, ◌*◌, ◌%◌, ◌^◌, ◌<◌, Bool, true, false, not, eqb, ltb, ◌||◌, List, [], ◌∷◌, Ok, length, refl, sym, ap, ◌∙◌, arith, lit<, inl, inr}
use Rattle.std.specs.Prelude.{decimal}
use Rattle.std.specs.Char.{is_ascii_digit}
use Rattle.std.specs.List.{AllByRecursion, list_any, list_all}
use Rattle.std.specs.Str.Parse.{digits_value}
use Rattle.std.proofs.lemmas.Bool.{cases_Bool, false≢true, and_parts}
use Rattle.std.proofs.lemmas.Bool.Decides.{nat_tests}
use Rattle.std.proofs.lemmas.Fmt.{decimal_is_IsNumeral, decimal_by_steps, decimal_nonempty}
use Rattle.std.proofs.lemmas.List.{append-nil}
use Rattle.std.proofs.lemmas.List.Folds.{list_any-append, list_all-append, list_any_at}
use Rattle.fab_text.specs.Decimal.{decimal_of}
use Rattle.fab_text.specs.Lines.{is_separator, is_hash, is_line_feed}
use Rattle.fab_text.specs.LineWords.{is_mark, can_be_word}
use Rattle.fab_file.proofs.Seats.{or_neither}
use Rattle.fab_file.proofs.Split.{last_byte, last-append}

-- words

pub record IsWord (w : List ℕ) : Type 0 where
  pub some : 0 < length w
  pub clean : list_any is_mark w ≡ false

pub not_true : (b : Bool) → not b ≡ true → b ≡ false
not_true true h = absurd (false≢true h)
not_true false h = refl

pub some_bytes : (w : List ℕ) → eqb (length w) 0 ≡ false → 0 < length w
some_bytes w h = grind (arith, nat_tests)

pub word_of : (w : List ℕ) → can_be_word w ≡ true → IsWord w
word_of w h =
    let p = and_parts _ _ h in
    record { some = some_bytes w (not_true _ p.0); clean = not_true _ p.1 }

no_such : (p q : ℕ → Bool) (xs : List ℕ) → ((c : ℕ) → p c ≡ false → q c ≡ false) → list_any p xs ≡ false → list_any q xs ≡ false
no_such p q [] f h = refl
no_such p q (x ∷ xs) f h =
    let k = or_neither (p x) (list_any p xs) h in
    rw (f x k.0) (no_such p q xs f k.1)

mark_parts : (c : ℕ) → is_mark c ≡ false → (is_separator c ≡ false) × (is_line_feed c ≡ false) × (is_hash c ≡ false)
mark_parts c h =
    let a = or_neither (is_separator c || is_line_feed c) (is_hash c) h in
    let b = or_neither (is_separator c) (is_line_feed c) a.0 in
    (b.0, b.1, a.1)

pub no_feed : (w : List ℕ) → list_any is_mark w ≡ false → list_any is_line_feed w ≡ false
no_feed w h = no_such is_mark is_line_feed w (λ c k. (mark_parts c k).1) h

pub no_hash : (w : List ℕ) → list_any is_mark w ≡ false → list_any is_hash w ≡ false
no_hash w h = no_such is_mark is_hash w (λ c k. (mark_parts c k).2) h

pub inside : (w : List ℕ) → list_any is_mark w ≡ false → AllByRecursion (λ c. is_separator c ≡ false) w
inside [] h = tt
inside (c ∷ cs) h =
    let k = or_neither (is_mark c) (list_any is_mark cs) h in
    ((mark_parts c k.0).0, inside cs k.1)

pub last_inside : (w : List ℕ) → IsWord w → is_separator (last_byte w) ≡ false
last_inside w k = elim (cases_Bool (is_mark (last_byte w))) [
  | inl y ↦ absurd (false≢true (sym k.clean ∙ list_any_at is_mark w (length w - 1) 0 (omega (arith, k.some)) y))
  | inr n ↦ (mark_parts (last_byte w) n).0
]

-- decimal numbers

digit_is_no_mark : (n : ℕ) → n < 10 → is_mark (48 + n) ≡ false
digit_is_no_mark n lt = grind (arith, nat_tests)

digit_is_digit : (n : ℕ) → n < 10 → is_ascii_digit (48 + n) ≡ true
digit_is_digit n lt = grind (arith, nat_tests)

digit_is_no_backslash : (n : ℕ) → n < 10 → eqb (48 + n) 92 ≡ false
digit_is_no_backslash n lt = grind (arith, nat_tests)

below_ten : (n : ℕ) → n % 10 < 10
below_ten n = omega arith

or_none : (a b : Bool) → a ≡ false → b ≡ false → (a || b) ≡ false
or_none a b h k = rw (h, k) refl

pub decimal_clean : (n : ℕ) → n < 2 ^ 64 → list_any is_mark (decimal n) ≡ false
decimal_clean n lt = decimal_by_steps (λ n ds. list_any is_mark ds ≡ false)
    (λ n lt. or_none _ false (digit_is_no_mark n lt) refl)
    (λ n ds ge h. list_any-append is_mark ds ((48 + n % 10) ∷ []) ∙ or_none _ _ h (or_none _ false (digit_is_no_mark (n % 10) (below_ten n)) refl))
    n lt

pub decimal_digits : (n : ℕ) → n < 2 ^ 64 → list_all is_ascii_digit (decimal n) ≡ true
decimal_digits n lt = decimal_by_steps (λ n ds. list_all is_ascii_digit ds ≡ true)
    (λ n lt. rw (digit_is_digit n lt) refl)
    (λ n ds ge h. list_all-append is_ascii_digit ds ((48 + n % 10) ∷ []) ∙ rw (h, digit_is_digit (n % 10) (below_ten n)) refl)
    n lt

pub decimal_last : (n : ℕ) → n < 2 ^ 64 → eqb (last_byte (decimal n)) 92 ≡ false
decimal_last n lt = decimal_by_steps (λ n ds. eqb (last_byte ds) 92 ≡ false)
    (λ n lt. digit_is_no_backslash n lt)
    (λ n ds ge h. ap (λ c. eqb c 92) (last-append ds ((48 + n % 10) ∷ []) (lit< tt)) ∙ digit_is_no_backslash (n % 10) (below_ten n))
    n lt

pub decimal_word : (n : ℕ) → n < 2 ^ 64 → IsWord (decimal n)
decimal_word n lt = record { some = decimal_nonempty n lt; clean = decimal_clean n lt }

some_not_zero : (k : ℕ) → 0 < k → eqb k 0 ≡ false
some_not_zero k h = grind (arith, nat_tests)

under : (n k : ℕ) → n < k → ltb n k ≡ true
under n k h = grind (arith, nat_tests)

-- a number that is written is read
pub decimal_back : (n : ℕ) → n < 2 ^ 64 → decimal_of (decimal n) 0 ≡ Ok n
unfolding decimal_of
decimal_back n lt =
    let nil = append-nil (decimal n) in
    let v : digits_value 10 (decimal n) * 1 ≡ n = omega (arith, (decimal_is_IsNumeral n lt).1) in
    rw (nil, decimal_digits n lt, some_not_zero (length (decimal n)) (decimal_nonempty n lt), v, under n (2 ^ 64) lt) refl
