-- What the words of the command line ask for (our own).
use Rattle.std.specs.Prelude.{ℕ, ◌≡◌, ◌⊎◌, List, [], ◌∷◌, Option, Some, codes}
use Rattle.fab_text.specs.Failures.{grown}
use Rattle.clap.specs.Walk.{Row, Text}
use Rattle.clap.specs.Simple.{subcommand_of}
use Rattle.clap.specs.Faults.{fault_of}
use Rattle.clap.specs.Kinds.{IsAmong, Kinds}
use Rattle.clap.specs.declared.error.kind.ErrorKind.TheVariants.{DisplayHelp, DisplayVersion}
use Rattle.vplace.specs.declared.flags.Asked.{Asked}
use Rattle.vplace.specs.declared.flags.Asked.TheVariants.{Example, Check, Place, Resume}
use Rattle.vplace.specs.declared.status.Status.{Status}
use Rattle.vplace.specs.declared.status.Status.TheVariants.{Done, NoMemory, Device}
use Rattle.vplace.specs.CommandLine.{shown_after_name, vplace}
use Rattle.vplace.specs.Given.{AreGivenBy, AreGivenToCheck, AreGivenToResume}

-- the subcommand that the words name, with the rows of its options
abbrev pub subcommand : List (List ℕ) → Option (Text × List Row)
subcommand words = subcommand_of vplace (shown_after_name words)

-- the kinds of the parser's message about the words, by the first thing that is wrong with them or asks for help; none if they are right
abbrev pub faults : List (List ℕ) → Kinds
faults words = fault_of vplace (shown_after_name words)

-- help or the version is what the words ask for
abbrev pub AskForHelp : List (List ℕ) → Type 0
AskForHelp words = IsAmong DisplayHelp (faults words) ⊎ IsAmong DisplayVersion (faults words)

-- help or the version is all that the words ask for, and nothing in them is wrong
abbrev pub AskForHelpAlone : List (List ℕ) → Type 0
AskForHelpAlone words = (words ≡ [] → ⊥) × ((faults words ≡ DisplayHelp ∷ []) ⊎ (faults words ≡ DisplayVersion ∷ []))

-- a text that was asked for was printed, unless memory ran out or the output failed
abbrev pub IsServed : Status → ℕ → ℕ → Type 0
IsServed status failed_old failed_new = (status ≡ Done) ⊎ ((status ≡ NoMemory) ⊎ ((status ≡ Device) × (failed_new ≡ grown failed_old)))

-- it is one of the three subcommands
abbrev pub IsOneOfThree : Option (Text × List Row) → Type 0
IsOneOfThree used = (name : Text) × (rows : List Row) × (used ≡ Some (name, rows)) × ((name ≡ codes "place") ⊎ ((name ≡ codes "resume") ⊎ (name ≡ codes "check")))

-- A subcommand of this name, with these rows of options, asks for this; no subcommand asks for the built-in example.
abbrev pub IsAskedBy : Option (Text × List Row) → Asked → Type 0
IsAskedBy used Example = ⊥
IsAskedBy used (Check names) = (rows : List Row) × (used ≡ Some (codes "check", rows)) × AreGivenToCheck rows names
IsAskedBy used (Place words) = (rows : List Row) × (used ≡ Some (codes "place", rows)) × AreGivenBy rows words
IsAskedBy used (Resume words) = (rows : List Row) × (used ≡ Some (codes "resume", rows)) × AreGivenToResume rows words

-- The words after the program's name ask for this. No words ask for the check of the built-in example. Words that are right ask for what
-- their subcommand and its options give.
abbrev pub Asks : List (List ℕ) → Asked → Type 0
Asks words Example = words ≡ []
Asks words asked = (faults words ≡ []) × IsAskedBy (subcommand words) asked
