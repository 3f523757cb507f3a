use Rattle.std.proofs.Common.{rules, ◌≡◌, ◌∙◌, ◌++◌, ◌∷◌, [], ℕ, List, ap, codes, map, refl, Vec, Global}
use Rattle.std.specs.String.{string_bytes}
use Rattle.vplace.specs.CommandLine.{shown}
use Rattle.vplace.proofs.flags.shown_words.Goals as goal

in_one : (words : List (Vec ℕ Global)) → map (λ word. shown word.items) words ≡ map shown (map (λ word. word.items) words)
in_one [] = refl
in_one (word ∷ words) = ap (λ xs. shown word.items ∷ xs) (in_one words)

pub loop-word-init : goal.loop-word-init
loop-word-init c =
    let name : map string_bytes c.push.new.self.items ≡ codes "vplace" ∷ [] = search rules in
    ap (λ xs. xs ++ map (λ word. shown word.items) c.args.words.now) name ∙ ap (λ xs. codes "vplace" ∷ xs) (in_one c.args.words.now)
