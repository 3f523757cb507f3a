-- What `resume` reads, prints and writes (our own).
use Rattle.std.specs.Prelude.{ℕ, ◌≡◌, ◌⊎◌, List, [], Option, Some, None, option_map}
use Rattle.fab_run.specs.Ends.{Answer}
use Rattle.fab_run.specs.Going.{Going, HasPoint}
use Rattle.fab_run.specs.Placed.{AskToGoOn, IsPlaced}
use Rattle.fab_run.specs.Setting.{Texts}
use Rattle.vplace.specs.declared.requests.ResumeWords.{ResumeWords}
use Rattle.vplace.specs.Asked.{stop_asked}
use Rattle.vplace.specs.Files.{Gives, Held}
use Rattle.vplace.specs.Leaving.{IsPut}
use Rattle.vplace.specs.Placing.{AreTextsGiven, AreTextsUnread}
use Rattle.vplace.specs.Said.{IsUnread}
use Rattle.vplace.specs.declared.messages.Role.TheVariants.{Point as PointRole}
use Rattle.vplace.specs.declared.status.Status.{Status}

-- the save name, if there is one
abbrev pub save_name : ResumeWords → Option (List ℕ)
save_name w = option_map (λ name. name.items) w.save

-- the texts of a resumed run are those that the names in the words give; the place text shows the names themselves
pub record AreNamedToResume (held : Option Held) (w : ResumeWords) (t : Texts) (point : List ℕ) : Type 0 where
  pub arch : Gives held w.arch.items t.arch
  pub net : Gives held w.net.items t.net
  pub point_file : Gives held w.point.items point
  pub pads : t.pads ≡ None
  pub net_label : t.net_label ≡ w.net.items
  pub arch_label : t.arch_label ≡ w.arch.items

-- a file of a resumed run was not read: the first unread one of architecture, netlist and checkpoint
abbrev pub AreUnreadToResume : Option Held → ResumeWords → Status → (List ℕ → Type 0) → Type 0
AreUnreadToResume held w status Said =
    AreTextsUnread held w.arch.items w.net.items status Said
    ⊎ (AreTextsGiven held w.arch.items w.net.items × IsUnread held PointRole w.point.items status Said)

-- `resume` with these words did what it was asked: the report of the piece that goes on from the named checkpoint was written, and what the
-- run left was put at its name; a new checkpoint has the seed of the one that was read
pub record DidResume (w : ResumeWords) (held held_new : Option Held) (old new : Option (List ℕ)) : Type 0 where
  pub texts : Texts
  pub point : List ℕ
  pub stop : Option ℕ
  pub going : Going  -- what the checkpoint that was read stands for
  pub answer : Answer
  pub place : List ℕ  -- the text of its placement; empty if it stopped
  pub named : AreNamedToResume held w texts point
  pub asked : stop_asked w.stop w.save ≡ Some stop
  pub read : HasPoint texts point going
  pub placed : IsPlaced (AskToGoOn texts point w.batch w.workers stop) texts answer old new (Some []) (Some place)
  pub put : IsPut held held_new w.out.items (save_name w) texts going.seed answer.ending place
