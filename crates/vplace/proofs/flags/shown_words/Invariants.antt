use Rattle.std.proofs.Common.{◌≡◌, ◌++◌, drop, map}
use Rattle.std.specs.String.{string_bytes}
use Rattle.vplace.specs.CommandLine.{shown, shown_after_name}
use Rattle.vplace.proofs.flags.shown_words.Given as goal

abbrev pub invariant-loop-word : goal.invariant-loop-word
invariant-loop-word l = map string_bytes l.texts.items ++ map (λ word. shown word.items) (drop l.word-index l.words) ≡ shown_after_name (map (λ word. word.items) l.words)
