use Rattle.std.proofs.Common.{◌≡◌, ◌++◌, drop, length}
use Rattle.std.specs.List.{flat_map}
use Rattle.std.specs.Str.{chars}
use Rattle.vplace.specs.CommandLine.{bytes_of}
use Rattle.vplace.proofs.arguments.as_bytes.Given as goal

abbrev pub invariant-loop-letter : goal.invariant-loop-letter
invariant-loop-letter l = l.bytes.items ++ flat_map bytes_of (drop (length l.yielded) (chars l.text)) ≡ flat_map bytes_of (chars l.text)
