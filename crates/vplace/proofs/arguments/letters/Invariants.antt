use Rattle.std.proofs.Common.{◌≡◌, ◌++◌, drop, map}
use Rattle.std.specs.Str.{encode_utf8_all}
use Rattle.std.specs.String.{string_bytes}
use Rattle.vplace.specs.CommandLine.{letter_of}
use Rattle.vplace.proofs.arguments.letters.Given as goal

abbrev pub invariant-loop-byte : goal.invariant-loop-byte
invariant-loop-byte l = string_bytes l.text ++ encode_utf8_all (map letter_of (drop l.byte-index l.word)) ≡ encode_utf8_all (map letter_of l.word)
