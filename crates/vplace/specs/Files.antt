-- Files by their names, as far as they are known (our own).
use Rattle.std.specs.Prelude.{ℕ, ◌≡◌, Bool, true, false, not, List, [], ◌∷◌, Option, Some, None, if◌then◌else◌, codes, refl}
use Rattle.std.specs.List.{list_any}
use Rattle.std.specs.Str.{bytes_eq}

-- what names give: the bytes of a file, if there is one
abbrev pub Held : Type 0
Held = List ℕ → Option (List ℕ)

-- a name gave these bytes; nothing is claimed if the files are not known, like those of the system
abbrev pub Gives : Option Held → List ℕ → List ℕ → Type 0
Gives None name bytes = Unit {0}
Gives (Some held) name bytes = held name ≡ Some bytes

-- no file has the name; nothing is claimed if the files are not known
abbrev pub Lacks : Option Held → List ℕ → Type 0
Lacks None name = Unit {0}
Lacks (Some held) name = held name ≡ None

-- which names no bytes can be put at
abbrev pub Shut : Type 0
Shut = List ℕ → Bool

-- no bytes can be put at the name. If such names are not known, like those of the system, this is true of every name, so that an answer
-- which says so claims nothing
abbrev pub is_shut : Option Shut → List ℕ → Bool
is_shut None name = true
is_shut (Some shut) name = shut name

-- the name takes no file; true of every name if that is not known
abbrev pub IsShut : Option Shut → List ℕ → Type 0
IsShut shut name = is_shut shut name ≡ true

-- bytes were put at a name: it gives them now, and each other name gives what it gave before
abbrev pub Puts : Option Held → Option Held → List ℕ → List ℕ → Type 0
Puts None new name bytes = Unit {0}
Puts (Some old) None name bytes = ⊥
Puts (Some old) (Some new) name bytes = (new name ≡ Some bytes) × ((other : List ℕ) → (other ≡ name → ⊥) → new other ≡ old other)

-- files in memory: the text of the first that has the name
abbrev pub text_among : List (List ℕ × Option (List ℕ)) → Held
text_among [] name = None
text_among (file ∷ files) name = if bytes_eq file.0 name then file.1 else text_among files name

-- all names but these are shut
abbrev pub shut_but : List (List ℕ) → Shut
shut_but names name = not (list_any (λ known. bytes_eq known name) names)

pub an_open_name : shut_but (codes "a" ∷ codes "b" ∷ []) (codes "b") ≡ false
an_open_name = refl

pub the_second_of_two : text_among ((codes "a", Some (codes "x")) ∷ (codes "b", Some (codes "y")) ∷ []) (codes "b") ≡ Some (codes "y")
the_second_of_two = refl

pub of_no_name : text_among ((codes "a", Some (codes "x")) ∷ []) (codes "b") ≡ None
of_no_name = refl
