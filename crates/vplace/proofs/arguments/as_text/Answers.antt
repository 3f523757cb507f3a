use Rattle.std.proofs.Common.{◌≡◌, ◌∙◌, ◌&&◌, true, false, cond, Bool, List, ℕ, map, refl, sym, rules}
use Rattle.std.specs.List.{list_any}
use Rattle.std.specs.Str.{IsUtf8, chars, encode_utf8_all, is_utf8}
use Rattle.std.proofs.lemmas.Bool.{false_from_ne_true}
use Rattle.std.proofs.lemmas.Result.{IfOk-weaker}
use Rattle.std.proofs.lemmas.Str.{IsUtf8-from_is_utf8, is_utf8-from_IsUtf8}
use Rattle.vplace.specs.CommandLine.{is_stand_in, letter_of, shown}
use Rattle.vplace.proofs.arguments.as_text.Goals.{in-Ok+else-not-has_stand_in, in_default}
use Rattle.vplace.proofs.arguments.as_text.Goals as goal

as_it_is : (word : List ℕ) → IsUtf8 word → list_any is_stand_in (chars word) ≡ false → shown word ≡ word
as_it_is word utf8 none = rw (is_utf8-from_IsUtf8 word utf8, none) refl

with_stand_ins : (word : List ℕ) → list_any is_stand_in (chars word) ≡ true → shown word ≡ encode_utf8_all (map letter_of word)
with_stand_ins word some = rw some (go (is_utf8 word))
  where
    go : (b : Bool) → cond (b && false) word (encode_utf8_all (map letter_of word)) ≡ encode_utf8_all (map letter_of word)
    go true = refl
    go false = refl

other : (word : List ℕ) → ¬ (IsUtf8 word) → shown word ≡ encode_utf8_all (map letter_of word)
other word invalid = rw (false_from_ne_true (is_utf8 word) (λ e. invalid (IsUtf8-from_is_utf8 word e))) refl

pub returns-then-not-has_stand_in : goal.returns-then-not-has_stand_in
returns-then-not-has_stand_in c =
    let same = c.in-Ok.ensures.cases.0 in
    let none : list_any is_stand_in (chars c.args.word.now) ≡ false = search rules in
    IfOk-weaker c.from_str.result _ _ (λ text h. h ∙ (same ∙ sym (as_it_is c.args.word.now c.in-Ok.ensures.cases.1 none))) c.from_str.ensures.ok

pub returns : goal.returns
returns c =
    let in_letters : shown c.args.word.now ≡ encode_utf8_all (map letter_of c.args.word.now) = elim c.match-from_utf8.branch [
      | in-Ok+else-not-has_stand_in w ↦ with_stand_ins c.args.word.now (search rules)
      | in_default w ↦ other c.args.word.now (search rules)
    ] in
    IfOk-weaker c.letters.result _ _ (λ text h. h ∙ sym in_letters) c.letters.ensures
