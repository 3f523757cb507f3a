-- What the words of `place` and of `resume` ask for (our own).
use Rattle.std.specs.Prelude.{ℕ, ◌≡◌, List, Option, Some, None, Ok, Err, codes, refl}
use Rattle.fab_text.specs.Decimal.{decimal_of}
use Rattle.fab_sched.specs.declared.schedules.Cooling.{Cooling}
use Rattle.fab_sched.specs.declared.schedules.Cooling.TheVariants.{Factor, Adaptive}
use Rattle.fab_run.specs.declared.inputs.Moves.{Moves}
use Rattle.fab_run.specs.declared.inputs.Moves.TheVariants.{Given, Inner}
use Rattle.fab_run.specs.declared.inputs.Options.{Options}
use Rattle.vplace.specs.declared.requests.Number.TheVariants.{InitT, ExitT, AlphaT}
use Rattle.vplace.specs.declared.requests.WordFault.{WordFault}
use Rattle.vplace.specs.declared.requests.WordFault.TheVariants.{SizeInPart, StopInPart, BadNumber}
use Rattle.vplace.specs.declared.requests.PlaceWords.{PlaceWords}
use Rattle.vplace.specs.declared.requests.ResumeWords.{ResumeWords}

-- the requested size of the array: two numbers give one, and no number requests none. One number alone is refused
abbrev pub size_asked : Option ℕ → Option ℕ → Option (Option (ℕ × ℕ))
size_asked (Some nx) (Some ny) = Some (Some (nx, ny))
size_asked None None = Some None
size_asked nx ny = None

pub columns_alone : size_asked (Some 3) None ≡ None
columns_alone = refl

pub no_size : size_asked None None ≡ Some None
no_size = refl

-- the requested stop: a stop with a save name gives one. Without both, no stop is requested. One of them alone is refused
abbrev pub stop_asked : {A : Type 0} → Option ℕ → Option A → Option (Option ℕ)
stop_asked (Some stop) (Some save) = Some (Some stop)
stop_asked None None = Some None
stop_asked stop save = None

pub a_stop_and_a_name : stop_asked (Some 5) (Some (codes "t.point")) ≡ Some (Some 5)
a_stop_and_a_name = refl

pub a_name_alone : stop_asked None (Some (codes "t.point")) ≡ None
a_name_alone = refl

-- the text asks for this cooling: the word `adaptive`, or a factor with at most three decimal places
abbrev pub IsCoolingAsked : List ℕ → Cooling → Type 0
IsCoolingAsked text Adaptive = text ≡ codes "adaptive"
IsCoolingAsked text (Factor alpha) = decimal_of text 3 ≡ Ok alpha

-- the moves of a stage: their number if it is given, else VPR's rule
abbrev pub moves_asked : Option ℕ → ℕ → Moves
moves_asked (Some moves) inner = Given moves
moves_asked None inner = Inner inner

-- the words ask for these numbers; temperatures have at most four decimal places, and are in ten-thousandths
pub record AreAsked (w : PlaceWords) (o : Options) : Type 0 where
  pub seed : o.seed ≡ w.seed
  pub size : size_asked w.nx w.ny ≡ Some o.size
  pub init : decimal_of w.init_t.items 4 ≡ Ok o.init_t
  pub exit : decimal_of w.exit_t.items 4 ≡ Ok o.exit_t
  pub cooling : IsCoolingAsked w.alpha_t.items o.cooling
  pub moves : o.moves ≡ moves_asked w.moves w.inner
  pub batch : o.batch ≡ w.batch
  pub workers : o.workers ≡ w.workers
  pub stop : stop_asked w.stop w.save ≡ Some o.stop

-- the size is given in full, or not at all
abbrev HasSize : PlaceWords → Type 0
HasSize w = (size : Option (ℕ × ℕ)) × (size_asked w.nx w.ny ≡ Some size)

-- the stop is given in full, or not at all
abbrev HasStop : PlaceWords → Type 0
HasStop w = (stop : Option ℕ) × (stop_asked w.stop w.save ≡ Some stop)

-- the text is a number with at most this many decimal places
abbrev IsNumber : List ℕ → ℕ → Type 0
IsNumber text places = (n : ℕ) × (decimal_of text places ≡ Ok n)

-- the first fault of the words, in this order: the size, the stop, the first temperature, the last one, the factor
abbrev pub IsWordFault : PlaceWords → WordFault → Type 0
IsWordFault w SizeInPart = size_asked w.nx w.ny ≡ None
IsWordFault w StopInPart = HasSize w × (stop_asked w.stop w.save ≡ None)
IsWordFault w (BadNumber InitT e) = HasSize w × HasStop w × (decimal_of w.init_t.items 4 ≡ Err e)
IsWordFault w (BadNumber ExitT e) = HasSize w × HasStop w × IsNumber w.init_t.items 4 × (decimal_of w.exit_t.items 4 ≡ Err e)
IsWordFault w (BadNumber AlphaT e) =
    HasSize w × HasStop w × IsNumber w.init_t.items 4 × IsNumber w.exit_t.items 4 × (w.alpha_t.items ≡ codes "adaptive" → ⊥) × (decimal_of w.alpha_t.items 3 ≡ Err e)

-- the fault of the words of `resume`, if they have one
abbrev pub IsResumeFault : ResumeWords → WordFault → Type 0
IsResumeFault w StopInPart = stop_asked w.stop w.save ≡ None
IsResumeFault w fault = ⊥
