-- The rule of the dial's cell, and what its two steps return. Our own, in the form that a ruled cell requires.
use Rattle.std.specs.Prelude.{◌≡◌, ◌⊎◌, ℕ, List, [], ◌∷◌, ◌++◌, true, false}
use mathlib.Core.Option.{some}
use lib.ListN.{get_elem?}
use Rattle.fab_dial.specs.declared.readings.Reading.{Reading}
use Rattle.fab_dial.specs.declared.rule.View.{View}
use Rattle.fab_dial.specs.Shown.{StartsWith, EndsWith}

-- the view of a shower that showed these readings, and so has seen them
abbrev pub shower : List Reading → View
shower shown = record { is_shower = true; shown = shown; seen = shown }

-- the view of a watcher that has seen these readings
abbrev pub watcher : List Reading → View
watcher seen = record { is_shower = false; shown = []; seen = seen }

-- the view of a pass that was handed on
abbrev pub nobody : View
nobody = watcher []

-- the view v, with what the view w has seen
abbrev pub joined : View → View → View
joined v w = record { is_shower = v.is_shower; shown = v.shown; seen = w.seen }

-- the pass of this number fits the list: only the shower's pass knows the whole list, and each pass has seen a prefix
pub record Fits (shower_pass : ℕ) (list : List Reading) (pass : ℕ) (v : View) : Type 0 where
  pub whole : v.is_shower ≡ true → (pass ≡ shower_pass) × (v.shown ≡ list)
  pub begun : StartsWith list v.seen

-- there is one list, which every pass fits; it is empty, or the cell holds its last reading
pub record Kept (held : Reading) (views : List View) : Type 0 where
  pub shower_pass : ℕ
  pub list : List Reading
  pub last : (list ≡ []) ⊎ EndsWith list held
  pub fits : (pass : ℕ) (v : View) → get_elem? views pass ≡ some v → Fits shower_pass list pass v

-- a store of `new` puts it at the end of what was shown
abbrev pub Stores : View → Reading → Reading → View → Type 0
Stores v held new w = w ≡ shower (v.shown ++ new ∷ [])

-- after a load of `held`, the list up to it is seen. For the shower, that is everything that it showed
pub record Loads (v : View) (held same : Reading) (w : View) : Type 0 where
  pub kept : w ≡ joined v w
  pub goes_on : StartsWith w.seen v.seen
  pub last : EndsWith w.seen held
  pub whole : v.is_shower ≡ true → w.seen ≡ v.shown
