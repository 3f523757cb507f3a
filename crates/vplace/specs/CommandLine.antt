-- The command line (our own): how its words are shown to the parser, which takes only text, and the subcommands with their options.
use Rattle.std.specs.Prelude.{ℕ, ◌+◌, ◌-◌, ◌&&◌, Bool, true, false, not, nat_le, nat_lt, if◌then◌else◌, List, [], ◌∷◌, map, codes, Some, None, pos, encode_utf8}
use Rattle.std.specs.List.{flat_map, list_any}
use Rattle.std.specs.Str.{chars, encode_utf8_all, is_utf8}
use Rattle.clap.specs.Walk.{Rule, Text}
use Rattle.clap.specs.Simple.{App, Shape, new_rule, new_shape, with_rule}
use Rattle.clap.specs.declared.builder.action.ArgAction.TheVariants.{Set}
use Rattle.clap.specs.declared.builder.value_parser.ValueParser.TheVariants.{Signed, Unsigned}
use Rattle.vplace.specs.declared.options.Takes.{Takes}
use Rattle.vplace.specs.declared.options.Takes.TheVariants.{NeededFile, File, Side, Whole, Decimal}

-- the letter that shows a byte of a word that is not UTF-8: U+10FF00 + b for a byte b from 128 on
abbrev pub letter_of : ℕ → ℕ
letter_of byte = if nat_lt byte 128 then byte else 1113856 + byte

-- a letter from U+10FF80 on, one of the last of Unicode, stands for a byte
abbrev pub is_stand_in : ℕ → Bool
is_stand_in letter = nat_le 1113984 letter

-- A word as the parser sees it. A word that is UTF-8 is shown as it is, unless one of its letters stands for a byte. In any other word,
-- each byte is shown as a letter.
abbrev pub shown : List ℕ → Text
shown word = if is_utf8 word && not (list_any is_stand_in (chars word)) then word else encode_utf8_all (map letter_of word)

-- the bytes of a letter: the one that it stands for, or its own
abbrev pub bytes_of : ℕ → List ℕ
bytes_of letter = if is_stand_in letter then (letter - 1113856) ∷ [] else encode_utf8 letter

-- the word that a text shows
abbrev pub word_of : Text → List ℕ
word_of text = flat_map bytes_of (chars text)

-- the words of a command line as the parser sees them: after the program's name
abbrev pub shown_after_name : List (List ℕ) → List Text
shown_after_name words = codes "vplace" ∷ map shown words

-- ---- the subcommands and their options

-- an option `--name VALUE`
abbrev pub option : Text → Rule
option name = record (new_rule name) { long = Some name; action = Some Set; value_names = 1 }

-- the same, which must be given
abbrev pub needed : Text → Rule
needed name = record (option name) { required = true }

-- the same, whose value is a number below 2^16
abbrev pub side : Text → Rule
side name = record (option name) { parser = Some (Signed (pos 0) (pos 65535)) }

-- the same, whose value is a number below 2^64
abbrev pub whole : Text → Rule
whole name = record (option name) { parser = Some (Unsigned 0 18446744073709551615) }

-- the option with a default
abbrev pub with_default : Text → Rule → Rule
with_default value rule = record rule { defaults = value ∷ [] }

-- the options that `place` and `resume` end with
abbrev pub run_options : List Rule
run_options =
    with_default (codes "64") (whole (codes "batch")) ∷ with_default (codes "4") (whole (codes "workers"))
    ∷ whole (codes "stop") ∷ option (codes "save") ∷ []

abbrev pub place_options : List Rule
place_options =
    needed (codes "arch") ∷ needed (codes "net") ∷ needed (codes "out") ∷ option (codes "pads")
    ∷ side (codes "nx") ∷ side (codes "ny") ∷ with_default (codes "1") (whole (codes "seed"))
    ∷ with_default (codes "100") (option (codes "init-t")) ∷ with_default (codes "0.01") (option (codes "exit-t"))
    ∷ with_default (codes "0.8") (option (codes "alpha-t")) ∷ with_default (codes "10") (whole (codes "inner"))
    ∷ whole (codes "moves") ∷ run_options

abbrev pub resume_options : List Rule
resume_options = needed (codes "arch") ∷ needed (codes "net") ∷ needed (codes "point") ∷ needed (codes "out") ∷ run_options

abbrev pub check_options : List Rule
check_options = needed (codes "arch") ∷ needed (codes "net") ∷ needed (codes "place") ∷ []

-- the rule of an option that takes this
abbrev pub rule_for : Text → Takes → Rule
rule_for name NeededFile = needed name
rule_for name File = option name
rule_for name Side = side name
rule_for name (Whole None) = whole name
rule_for name (Whole (Some value)) = with_default value.now (whole name)
rule_for name (Decimal value) = with_default value.now (option name)

-- the command with these options after its own
abbrev pub with_rules : App → List Rule → App
with_rules app [] = app
with_rules app (rule ∷ rules) = with_rules (with_rule app rule) rules

-- a command with these options
abbrev pub command : Text → List Rule → Shape
command name options = record (new_shape name) { rules = options }

-- the program: it has a version, and one of its subcommands is required
abbrev pub vplace : App
vplace = record {
  top = record (new_shape (codes "vplace")) { is_leaf = false; has_version = true; subcommand_required = true };
  subs = command (codes "place") place_options ∷ command (codes "resume") resume_options ∷ command (codes "check") check_options ∷ [];
}
