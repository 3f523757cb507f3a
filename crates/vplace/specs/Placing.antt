-- What `place` and `check` read, print and write (our own).
use Rattle.std.specs.Prelude.{ℕ, ◌≡◌, ◌⊎◌, List, [], Option, Some, None, option_map}
use Rattle.fab_run.specs.declared.inputs.Options.{Options}
use Rattle.fab_run.specs.Ends.{Answer}
use Rattle.fab_run.specs.Placed.{AskFor, IsPlaced}
use Rattle.fab_run.specs.Setting.{Texts}
use Rattle.vplace.specs.declared.check_command.CheckNames.{CheckNames}
use Rattle.vplace.specs.declared.requests.PlaceWords.{PlaceWords}
use Rattle.vplace.specs.Asked.{AreAsked}
use Rattle.vplace.specs.Files.{Gives, Held}
use Rattle.vplace.specs.Leaving.{IsPut}
use Rattle.vplace.specs.Said.{IsUnread}
use Rattle.vplace.specs.declared.messages.Role.TheVariants.{Arch, Net, Pads, Place}
use Rattle.vplace.specs.declared.status.Status.{Status}

-- the architecture and the netlist were read
abbrev pub AreTextsGiven : Option Held → List ℕ → List ℕ → Type 0
AreTextsGiven held arch net = ((text : List ℕ) × Gives held arch text) × ((text : List ℕ) × Gives held net text)

-- the architecture was not read; or it was, and the netlist was not
abbrev pub AreTextsUnread : Option Held → List ℕ → List ℕ → Status → (List ℕ → Type 0) → Type 0
AreTextsUnread held arch net status Said =
    IsUnread held Arch arch status Said ⊎ (((text : List ℕ) × Gives held arch text) × IsUnread held Net net status Said)

-- a file of a check was not read: the first unread one of architecture, netlist and placement
abbrev pub IsCheckUnread : Option Held → CheckNames → Status → (List ℕ → Type 0) → Type 0
IsCheckUnread held n status Said =
    AreTextsUnread held n.arch.items n.net.items status Said
    ⊎ (AreTextsGiven held n.arch.items n.net.items × IsUnread held Place n.place.items status Said)

-- the texts of a check are those that its names give
pub record AreGiven (held : Option Held) (n : CheckNames) (arch net place : List ℕ) : Type 0 where
  pub arch_file : Gives held n.arch.items arch
  pub net_file : Gives held n.net.items net
  pub place_file : Gives held n.place.items place

-- the text of a location file, if one is named
abbrev pub GivesPads : Option Held → Option (List ℕ) → Option (List ℕ) → Type 0
GivesPads held None text = text ≡ None
GivesPads held (Some name) text = (bytes : List ℕ) × (text ≡ Some bytes) × Gives held name bytes

-- the name of the location file, if there is one
abbrev pub name_of : PlaceWords → Option (List ℕ)
name_of w = option_map (λ name. name.items) w.pads

-- the save name, if there is one
abbrev pub save_name : PlaceWords → Option (List ℕ)
save_name w = option_map (λ name. name.items) w.save

-- a location file that is named was not read
abbrev pub IsPadsUnread : Option Held → Option (List ℕ) → Status → (List ℕ → Type 0) → Type 0
IsPadsUnread held None status Said = ⊥
IsPadsUnread held (Some name) status Said = IsUnread held Pads name status Said

-- a file of a run was not read: the first unread one of architecture, netlist and location file
abbrev pub AreUnread : Option Held → PlaceWords → Status → (List ℕ → Type 0) → Type 0
AreUnread held w status Said =
    AreTextsUnread held w.arch.items w.net.items status Said
    ⊎ (AreTextsGiven held w.arch.items w.net.items × IsPadsUnread held (name_of w) status Said)

-- the texts of a run are those that the names in the words give; the place text shows the names themselves
pub record AreNamed (held : Option Held) (w : PlaceWords) (t : Texts) : Type 0 where
  pub arch : Gives held w.arch.items t.arch
  pub net : Gives held w.net.items t.net
  pub pads : GivesPads held (name_of w) t.pads
  pub net_label : t.net_label ≡ w.net.items
  pub arch_label : t.arch_label ≡ w.arch.items

-- `place` with these words did what it was asked: the report of a run of the named files was written, and what the run left was put at its
-- name
pub record DidPlace (w : PlaceWords) (held held_new : Option Held) (old new : Option (List ℕ)) : Type 0 where
  pub texts : Texts
  pub options : Options
  pub answer : Answer
  pub place : List ℕ  -- the text of its placement; empty if it stopped
  pub named : AreNamed held w texts
  pub asked : AreAsked w options
  pub placed : IsPlaced (AskFor texts options) texts answer old new (Some []) (Some place)
  pub put : IsPut held held_new w.out.items (save_name w) texts options.seed answer.ending place
