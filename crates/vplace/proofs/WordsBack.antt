-- Each word is made again from the text that shows it.
use Rattle.std.proofs.Common.{◌≡◌, ◌∙◌, ◌∷◌, ◌++◌, ◌+◌, ◌-◌, ◌<◌, ◌≤◌, ◌&&◌, ◌||◌, not, ℕ, Bool, true, false, cond, List, [], map, refl, ap, ap₂, inl, inr, arith}
use Rattle.std.specs.List.{All, flat_map, list_any}
use Rattle.std.specs.Str.{chars, encode_utf8_all, is_utf8}
use Rattle.std.proofs.lemmas.Bool.{cases_lt}
use Rattle.std.proofs.lemmas.Bool.Decides.{nat_tests}
use Rattle.std.proofs.lemmas.List.Elements.{All-drop}
use Rattle.std.proofs.lemmas.Str.{IsUtf8-from_is_utf8, chars-encodes, encodes-chars}
use lib.Utf8.{encode, encodes, low_scalar, scalar, scalars}
use Rattle.vplace.specs.CommandLine.{bytes_of, is_stand_in, letter_of, shown, word_of}

letter_low : (b : ℕ) → b < 128 → letter_of b ≡ b
letter_low b h = grind (arith, nat_tests)

letter_high : (b : ℕ) → 128 ≤ b → letter_of b ≡ 1113856 + b
letter_high b h = grind (arith, nat_tests)

scalar_letter : (b : ℕ) → b < 256 → scalar (letter_of b) ≡ true
scalar_letter b small = elim (cases_lt b 128) [
  | inl h ↦ ap scalar (letter_low b h) ∙ low_scalar b (omega arith)
  | inr h ↦ ap scalar (letter_high b h) ∙ high (1113856 + b) (omega arith) (omega arith)
]
  where
    high : (c : ℕ) → 57344 ≤ c → c < 1114112 → scalar c ≡ true
    high c low up = grind (arith, nat_tests)

own_low : (b : ℕ) → b < 128 → bytes_of b ≡ b ∷ []
unfolding encode
own_low b h = grind (arith, nat_tests)

own_high : (b : ℕ) → 128 ≤ b → bytes_of (1113856 + b) ≡ b ∷ []
own_high b h =
    let is : is_stand_in (1113856 + b) ≡ true = grind (arith, nat_tests) in
    let byte : (1113856 + b) - 1113856 ≡ b = omega arith in
    rw (is, byte) refl

byte_back : (b : ℕ) → bytes_of (letter_of b) ≡ b ∷ []
byte_back b = elim (cases_lt b 128) [
  | inl h ↦ ap bytes_of (letter_low b h) ∙ own_low b h
  | inr h ↦ ap bytes_of (letter_high b h) ∙ own_high b h
]

letters_back : (word : List ℕ) → flat_map bytes_of (map letter_of word) ≡ word
letters_back [] = refl
letters_back (b ∷ bs) = ap₂ (λ x y. x ++ y) (byte_back b) (letters_back bs)

are_scalars : (word : List ℕ) → All (λ b. b < 256) word → scalars (map letter_of word) ≡ true
are_scalars [] bytes = refl
are_scalars (b ∷ bs) bytes = ap₂ (λ x y. x && y) (scalar_letter b (bytes 0 b (omega arith))) (are_scalars bs (All-drop (λ b. b < 256) 1 (b ∷ bs) bytes))

neither : (a b : Bool) → (a || b) ≡ false → (a ≡ false) × (b ≡ false)
neither true b e = cc
neither false b e = (refl, e)

both : (a b : Bool) → (a && not b) ≡ true → (a ≡ true) × (b ≡ false)
both true true e = cc
both true false e = (refl, refl)
both false b e = cc

own_letters : (cs : List ℕ) → list_any is_stand_in cs ≡ false → flat_map bytes_of cs ≡ encodes cs
own_letters [] e = refl
own_letters (c ∷ cs) e =
    let parts = neither (is_stand_in c) (list_any is_stand_in cs) e in
    let own : bytes_of c ≡ encode c = rw parts.0 refl in
    ap₂ (λ x y. x ++ y) own (own_letters cs parts.1)

pub words_come_back : (word : List ℕ) → All (λ byte. byte < 256) word → word_of (shown word) ≡ word
words_come_back word bytes = go (is_utf8 word && not (list_any is_stand_in (chars word))) refl
  where
    go : (b : Bool) → (is_utf8 word && not (list_any is_stand_in (chars word))) ≡ b → word_of (cond b word (encode_utf8_all (map letter_of word))) ≡ word
    go true e =
        let parts = both (is_utf8 word) (list_any is_stand_in (chars word)) e in
        own_letters (chars word) parts.1 ∙ encodes-chars word (IsUtf8-from_is_utf8 word parts.0)
    go false e = ap (flat_map bytes_of) (chars-encodes (map letter_of word) (are_scalars word bytes)) ∙ letters_back word
