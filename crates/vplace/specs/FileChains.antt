-- Calls of the program one after another, over files in memory (our own): `place` begins a run, and each `resume` goes on from the
-- checkpoint that the call before it saved.
use Rattle.std.specs.Prelude.{ℕ, ◌≡◌, List, [], ◌∷◌, ◌++◌, Option, Some, None, codes, refl}
use Rattle.fab_run.specs.declared.inputs.Ending.{Ending}
use Rattle.fab_run.specs.declared.inputs.Ending.TheVariants.{Finished, Stopped}
use Rattle.fab_run.specs.declared.inputs.Options.{Options}
use Rattle.fab_run.specs.Ends.{Answer}
use Rattle.fab_run.specs.Placed.{AskFor, IsPlaced}
use Rattle.fab_run.specs.Setting.{Texts}
use Rattle.vplace.specs.declared.requests.PlaceWords.{PlaceWords}
use Rattle.vplace.specs.declared.requests.ResumeWords.{ResumeWords}
use Rattle.vplace.specs.Asked.{AreAsked}
use Rattle.vplace.specs.Files.{Held, text_among}
use Rattle.vplace.specs.Placing.{DidPlace, GivesPads, name_of, save_name}
use Rattle.vplace.specs.Resuming.{DidResume, save_name as saves_at}

-- a call of `place` that did what it was asked: the files before and after it, and its report
pub record PlaceCall : Type 0 where
  pub words : PlaceWords
  pub before : Held
  pub after : Held
  pub report : List ℕ
  pub did : DidPlace words (Some before) (Some after) (Some []) (Some report)

-- such a call of `resume`
pub record ResumeCall : Type 0 where
  pub words : ResumeWords
  pub before : Held
  pub after : Held
  pub report : List ℕ
  pub did : DidResume words (Some before) (Some after) (Some []) (Some report)

-- what a name gives, if there is one
abbrev pub given_at : Option (List ℕ) → Held → Option (List ℕ)
given_at (Some name) held = held name
given_at None held = None

pub at_a_save_name : given_at (Some (codes "t.point")) (text_among ((codes "t.point", Some (codes "x")) ∷ [])) ≡ Some (codes "x")
at_a_save_name = refl

-- a call finds these two texts at its names of the architecture and the netlist, and this one at its name of the checkpoint
pub record Finds (c : ResumeCall) (arch_text net_text saved : Option (List ℕ)) : Type 0 where
  pub arch : c.before c.words.arch.items ≡ arch_text
  pub net : c.before c.words.net.items ≡ net_text
  pub point : c.before c.words.point.items ≡ saved

-- calls after one that had this ending and saved this. Each finds the architecture and the netlist of the run, and what the call before it
-- saved when it stopped. The last one finished
abbrev pub AreBehind : Option (List ℕ) → Option (List ℕ) → Ending → Option (List ℕ) → List ResumeCall → Type 0
AreBehind arch net Finished saved [] = Unit {0}
AreBehind arch net (Stopped q) saved [] = ⊥
AreBehind arch net Finished saved (c ∷ cs) = ⊥
AreBehind arch net (Stopped q) saved (c ∷ cs) =
    Finds c arch net saved × AreBehind arch net c.did.answer.ending (given_at (saves_at c.words) c.after) cs

-- the calls are pieces of one run
abbrev pub ArePieces : PlaceCall → List ResumeCall → Type 0
ArePieces c cs =
    AreBehind (c.before c.words.arch.items) (c.before c.words.net.items) c.did.answer.ending (given_at (save_name c.words) c.after) cs

-- their reports, joined
abbrev pub reports_of : List ResumeCall → List ℕ
reports_of [] = []
reports_of (c ∷ cs) = c.report ++ reports_of cs

-- what the last call leaves: the names that its place text shows, and what its out name gives after it
pub record LastOf : Type 0 where
  pub net_name : List ℕ
  pub arch_name : List ℕ
  pub lies : Option (List ℕ)

-- the names of the last of some calls, and what its out name gives
abbrev pub last_of : LastOf → List ResumeCall → LastOf
last_of l [] = l
last_of l (c ∷ cs) =
    last_of (record { net_name = c.words.net.items; arch_name = c.words.arch.items; lies = c.after c.words.out.items }) cs

-- the same, of a first call and those after it
abbrev pub last_call : PlaceCall → List ResumeCall → LastOf
last_call c cs = last_of (record { net_name = c.words.net.items; arch_name = c.words.arch.items; lies = c.after c.words.out.items }) cs

-- the words of `place` without a stop
abbrev pub without_stop : PlaceWords → PlaceWords
without_stop w = record w { stop = None; save = None }

-- what one call of `place` without a stop reports and writes, with the files and the numbers of the first call, and the names that the last
-- one shows: the reports joined, and what the last out name gives
pub record IsOneRun (c : PlaceCall) (cs : List ResumeCall) : Type 0 where
  pub texts : Texts
  pub options : Options
  pub answer : Answer
  pub place : List ℕ
  pub arch : c.before c.words.arch.items ≡ Some texts.arch
  pub net : c.before c.words.net.items ≡ Some texts.net
  pub pads : GivesPads (Some c.before) (name_of c.words) texts.pads
  pub net_label : texts.net_label ≡ (last_call c cs).net_name
  pub arch_label : texts.arch_label ≡ (last_call c cs).arch_name
  pub asked : AreAsked (without_stop c.words) options
  pub placed : IsPlaced (AskFor texts options) texts answer (Some []) (Some (c.report ++ reports_of cs)) (Some []) (Some place)
  pub finished : answer.ending ≡ Finished
  pub lies : (last_call c cs).lies ≡ Some place

-- pieces of a run are one run, wherever they stop
abbrev pub PiecesAreOneRun : Type 0
PiecesAreOneRun = (c : PlaceCall) (cs : List ResumeCall) → ArePieces c cs → IsOneRun c cs

-- the words ask for the same run as these, apart from batch and workers, without a stop
pub record AskTheSame (u w : PlaceWords) : Type 0 where
  pub nx : u.nx ≡ w.nx
  pub ny : u.ny ≡ w.ny
  pub seed : u.seed ≡ w.seed
  pub init_t : u.init_t.items ≡ w.init_t.items
  pub exit_t : u.exit_t.items ≡ w.exit_t.items
  pub alpha_t : u.alpha_t.items ≡ w.alpha_t.items
  pub inner : u.inner ≡ w.inner
  pub moves : u.moves ≡ w.moves
  pub stop : u.stop ≡ None

-- a call of `place` is this run unbroken: it finds the texts that the first call finds, its words ask for the same, and its place text
-- shows the names that the last call shows
pub record IsUnbroken (u c : PlaceCall) (cs : List ResumeCall) : Type 0 where
  pub words : AskTheSame u.words c.words
  pub arch : u.before u.words.arch.items ≡ c.before c.words.arch.items
  pub net : u.before u.words.net.items ≡ c.before c.words.net.items
  pub pads : given_at (name_of u.words) u.before ≡ given_at (name_of c.words) c.before
  pub net_name : u.words.net.items ≡ (last_call c cs).net_name
  pub arch_name : u.words.arch.items ≡ (last_call c cs).arch_name

-- so each such call reports what the pieces report, and puts at its out name what the last out name gives
abbrev pub UnbrokenCallsAreTold : Type 0
UnbrokenCallsAreTold = (c : PlaceCall) (cs : List ResumeCall) (u : PlaceCall) → ArePieces c cs → IsUnbroken u c cs
    → (u.report ≡ c.report ++ reports_of cs) × (u.after u.words.out.items ≡ (last_call c cs).lies)
