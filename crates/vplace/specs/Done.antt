-- What a run of the program did that ended with status 0 (our own).
use Rattle.std.specs.Prelude.{ℕ, ◌≡◌, ◌<◌, ◌⊎◌, List, Option, length}
use Rattle.std.specs.Io.KnownBytes.{Appends}
use Rattle.fab_run.specs.Check.{IsReported}
use Rattle.vplace.specs.declared.requests.PlaceWords.{PlaceWords}
use Rattle.vplace.specs.declared.requests.ResumeWords.{ResumeWords}
use Rattle.vplace.specs.declared.check_command.CheckNames.{CheckNames}
use Rattle.vplace.specs.declared.flags.Asked.{Asked}
use Rattle.vplace.specs.declared.flags.Asked.TheVariants.{Example, Check, Place, Resume}
use Rattle.vplace.specs.Asking.{AskForHelp, Asks}
use Rattle.vplace.specs.Files.{Held}
use Rattle.vplace.specs.Placing.{AreGiven, DidPlace}
use Rattle.vplace.specs.Resuming.{DidResume}

-- a text that is not empty was written
abbrev pub IsTold : Option (List ℕ) → Option (List ℕ) → Type 0
IsTold old new = (text : List ℕ) × (0 < length text) × Appends old new text

-- the report of a check of the files of these names was written
abbrev pub DidCheck : CheckNames → Option Held → Option (List ℕ) → Option (List ℕ) → Type 0
DidCheck names held old new =
    (arch : List ℕ) × (net : List ℕ) × (place : List ℕ) × (cost : ℕ) × AreGiven held names arch net place × IsReported arch net place cost old new

-- the report of a check of named files was written
abbrev pub IsChecked : Option Held → Option (List ℕ) → Option (List ℕ) → Type 0
IsChecked held old new = (names : CheckNames) × DidCheck names held old new

-- the report of a run of named files was written, and what it left was put at its name
abbrev pub IsPlaced : Option Held → Option Held → Option (List ℕ) → Option (List ℕ) → Type 0
IsPlaced held held_new old new = (words : PlaceWords) × DidPlace words held held_new old new

-- the report of a run that goes on from a named checkpoint was written, and what it left was put at its name
abbrev pub IsResumed : Option Held → Option Held → Option (List ℕ) → Option (List ℕ) → Type 0
IsResumed held held_new old new = (words : ResumeWords) × DidResume words held held_new old new

-- the report of a check of these texts was written
abbrev pub IsExample : List ℕ → List ℕ → List ℕ → Option (List ℕ) → Option (List ℕ) → Type 0
IsExample arch net place old new = (cost : ℕ) × IsReported arch net place cost old new

-- What was asked for was done; a check writes no file. The texts are those of the built-in example.
abbrev pub Did : List ℕ → List ℕ → List ℕ → Asked → Option Held → Option Held → Option (List ℕ) → Option (List ℕ) → Type 0
Did arch net place Example held held_new old new = IsExample arch net place old new × (held_new ≡ held)
Did arch net place (Check names) held held_new old new = DidCheck names held old new × (held_new ≡ held)
Did arch net place (Place words) held held_new old new = DidPlace words held held_new old new
Did arch net place (Resume words) held held_new old new = DidResume words held held_new old new

-- The words asked for help or the version, and a text was written, and no file; or what they ask for was done.
abbrev pub IsAsAsked : List ℕ → List ℕ → List ℕ → List (List ℕ) → Option Held → Option Held → Option (List ℕ) → Option (List ℕ) → Type 0
IsAsAsked arch net place words held held_new old new =
    (AskForHelp words × IsTold old new × (held_new ≡ held)) ⊎ ((asked : Asked) × Asks words asked × Did arch net place asked held held_new old new)
