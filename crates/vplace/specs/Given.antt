-- Which option gives which file name, number and text (our own). `rows` are what the parser found, by the names of the options.
use Rattle.std.specs.Prelude.{ℕ, ◌≡◌, ◌<◌, ◌^◌, List, [], Option, Some, None, codes, unwrap_or, option_map}
use Rattle.std.specs.Str.Parse.{IsNumeral, digits_value, without_leading_plus}
use Rattle.clap.specs.Walk.{Row, first_of, one_of}
use Rattle.vplace.specs.declared.requests.PlaceWords.{PlaceWords}
use Rattle.vplace.specs.declared.requests.ResumeWords.{ResumeWords}
use Rattle.vplace.specs.declared.check_command.CheckNames.{CheckNames}
use Rattle.vplace.specs.CommandLine.{word_of}

-- the text is a number below 2^bits: digits, perhaps after a plus sign
abbrev pub IsWhole : ℕ → List ℕ → Type 0
IsWhole bits text = IsNumeral 10 (without_leading_plus text) × (digits_value 10 (without_leading_plus text) < 2 ^ bits)

-- the number of a text; none if there is no text or the text is no such number
abbrev pub IsNumberOf : ℕ → Option (List ℕ) → Option ℕ → Type 0
IsNumberOf bits given None = (text : List ℕ) → given ≡ Some text → IsWhole bits text → ⊥
IsNumberOf bits given (Some n) = (text : List ℕ) × (given ≡ Some text) × IsWhole bits text × (n ≡ digits_value 10 (without_leading_plus text))

-- the number that an option gives
abbrev pub GivesNumber : ℕ → List Row → List ℕ → Option ℕ → Type 0
GivesNumber bits rows option n = IsNumberOf bits (one_of option rows) n

-- the number in the row of an option that has a default. The parser puts the default there if none is given. 0 only if the row has no
-- number
abbrev pub GivesDefault : List Row → List ℕ → ℕ → Type 0
GivesDefault rows option n = (given : Option ℕ) × GivesNumber 64 rows option given × (n ≡ unwrap_or given 0)

-- the text of an option that has a default
abbrev pub GivesText : List Row → List ℕ → List ℕ → Type 0
GivesText rows option text = text ≡ unwrap_or (first_of option rows) []

-- the file name that a required option gives
abbrev pub GivesName : List Row → List ℕ → List ℕ → Type 0
GivesName rows option name = name ≡ word_of (unwrap_or (first_of option rows) [])

-- the file name that an option gives, if it gives one
abbrev pub GivesOptionalName : List Row → List ℕ → Option (List ℕ) → Type 0
GivesOptionalName rows option name = name ≡ option_map word_of (first_of option rows)

-- each file name, number and decimal text of `place` is that of its option
pub record AreGivenBy (rows : List Row) (w : PlaceWords) : Type 0 where
  pub arch : GivesName rows (codes "arch") w.arch.items
  pub net : GivesName rows (codes "net") w.net.items
  pub out : GivesName rows (codes "out") w.out.items
  pub pads : GivesOptionalName rows (codes "pads") (option_map (λ name. name.items) w.pads)
  pub nx : GivesNumber 16 rows (codes "nx") w.nx
  pub ny : GivesNumber 16 rows (codes "ny") w.ny
  pub seed : GivesDefault rows (codes "seed") w.seed
  pub init : GivesText rows (codes "init-t") w.init_t.items
  pub exit : GivesText rows (codes "exit-t") w.exit_t.items
  pub alpha : GivesText rows (codes "alpha-t") w.alpha_t.items
  pub inner : GivesDefault rows (codes "inner") w.inner
  pub moves : GivesNumber 64 rows (codes "moves") w.moves
  pub batch : GivesDefault rows (codes "batch") w.batch
  pub workers : GivesDefault rows (codes "workers") w.workers
  pub stop : GivesNumber 64 rows (codes "stop") w.stop
  pub save : GivesOptionalName rows (codes "save") (option_map (λ name. name.items) w.save)

-- each file name and number of `resume` is that of its option
pub record AreGivenToResume (rows : List Row) (w : ResumeWords) : Type 0 where
  pub arch : GivesName rows (codes "arch") w.arch.items
  pub net : GivesName rows (codes "net") w.net.items
  pub point : GivesName rows (codes "point") w.point.items
  pub out : GivesName rows (codes "out") w.out.items
  pub batch : GivesDefault rows (codes "batch") w.batch
  pub workers : GivesDefault rows (codes "workers") w.workers
  pub stop : GivesNumber 64 rows (codes "stop") w.stop
  pub save : GivesOptionalName rows (codes "save") (option_map (λ name. name.items) w.save)

-- each file name of `check` is that of its option
pub record AreGivenToCheck (rows : List Row) (n : CheckNames) : Type 0 where
  pub arch : GivesName rows (codes "arch") n.arch.items
  pub net : GivesName rows (codes "net") n.net.items
  pub place : GivesName rows (codes "place") n.place.items
