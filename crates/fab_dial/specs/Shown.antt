-- Lists of readings, the oldest first. Our own.
use Rattle.std.specs.Prelude.{◌≡◌, List, [], ◌∷◌, ◌++◌, refl}
use Rattle.fab_dial.specs.declared.readings.Reading.{Reading}

-- the list begins with the readings `these`
abbrev pub StartsWith : List Reading → List Reading → Type 0
StartsWith list these = (rest : List Reading) × (list ≡ these ++ rest)

-- the list ends with this reading
abbrev pub EndsWith : List Reading → Reading → Type 0
EndsWith list reading = (before : List Reading) × (list ≡ before ++ reading ∷ [])

-- at the start, and after 3 moves, 1 of them accepted
start : Reading
start = record { moves = 0; accepted = 0; cost = 40000 }

third : Reading
third = record { moves = 3; accepted = 1; cost = 30000 }

-- a watcher that saw the first of two readings saw a beginning
begins_example : StartsWith (start ∷ third ∷ []) (start ∷ [])
begins_example = (third ∷ [], refl)

-- and one that saw both saw a beginning too
whole_example : StartsWith (start ∷ third ∷ []) (start ∷ third ∷ [])
whole_example = ([], refl)

-- the last of the two is the later
last_example : EndsWith (start ∷ third ∷ []) third
last_example = (start ∷ [], refl)
