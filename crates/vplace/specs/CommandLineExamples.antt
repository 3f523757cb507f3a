-- Worked command lines (our own).
use Rattle.std.specs.Prelude.{ℕ, ◌≡◌, List, [], ◌∷◌, Option, Some, codes, option_map, refl}
use Rattle.std.specs.Char.{encode_utf8}
use Rattle.std.specs.Str.{chars, is_utf8}
use Rattle.clap.specs.Walk.{Text, bundle_met, first_of, walked}
use Rattle.clap.specs.Faults.{defaults_fault, flags_fault, walk_fault}
use Rattle.clap.specs.declared.error.kind.ErrorKind.TheVariants.{MissingRequiredArgument, MissingSubcommand}
use Rattle.vplace.specs.Asking.{faults, subcommand}
use Rattle.vplace.specs.CommandLine.{shown}

abbrev pub check_words : List (List ℕ)
check_words = codes "check" ∷ codes "--net=b" ∷ codes "--arch" ∷ (255 ∷ 97 ∷ []) ∷ codes "--place" ∷ codes "c" ∷ []

-- the byte 255 is shown as U+10FFFF
pub a_word_that_is_not_utf8 : shown (255 ∷ 97 ∷ []) ≡ 244 ∷ 143 ∷ 191 ∷ 191 ∷ 97 ∷ []
unfolding is_utf8 chars encode_utf8
a_word_that_is_not_utf8 = refl

abbrev given : Text → List (List ℕ) → Option (Text × Option Text)
given name words = option_map (λ used. (used.0, first_of name used.1)) (subcommand words)

pub the_netlist_of_a_check : given (codes "net") check_words ≡ Some (codes "check", Some (codes "b"))
unfolding walked bundle_met is_utf8 chars encode_utf8
the_netlist_of_a_check = refl

pub the_architecture_of_a_check : given (codes "arch") check_words ≡ Some (codes "check", Some (244 ∷ 143 ∷ 191 ∷ 191 ∷ 97 ∷ []))
unfolding walked bundle_met is_utf8 chars encode_utf8
the_architecture_of_a_check = refl

pub they_are_right : faults check_words ≡ []
unfolding walked bundle_met is_utf8 chars encode_utf8 flags_fault walk_fault defaults_fault
they_are_right = refl

pub a_check_without_its_placement : faults (codes "check" ∷ codes "--net=b" ∷ codes "--arch=a" ∷ []) ≡ MissingRequiredArgument ∷ []
unfolding walked bundle_met is_utf8 chars encode_utf8 flags_fault walk_fault defaults_fault
a_check_without_its_placement = refl

pub the_default_batch : given (codes "batch") (codes "resume" ∷ codes "--arch=a" ∷ []) ≡ Some (codes "resume", Some (codes "64"))
unfolding walked bundle_met is_utf8 chars encode_utf8
the_default_batch = refl

pub no_words : faults [] ≡ MissingSubcommand ∷ []
unfolding walked bundle_met is_utf8 chars encode_utf8 flags_fault walk_fault defaults_fault
no_words = refl
