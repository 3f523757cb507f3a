-- The first fault of a text, defined once for all readers (our own).
use Rattle.std.specs.Prelude.{ℕ, ◌≡◌, ◌==◌, Bool, List, [], ◌∷◌, ◌++◌, length, Option, Some, None, if◌then◌else◌, refl}

-- the first fault if there is one, else the later fault if there is one
abbrev pub or_else : {E : Type 0} → Option E → Option E → Option E
or_else None later = later
or_else (Some fault) later = Some fault

-- `fault` if a test failed, else none
abbrev pub unless : {E : Type 0} → Bool → E → Option E
unless passed fault = if passed then None else Some fault

-- the first fault of lines that follow the lines `before`. Whether a line is faulty depends on the lines before it. Faults of the whole
-- text come after those of all lines
abbrev pub fault_behind : {L E : Type 0} → (List L → L → Option E) → (List L → Option E) → List L → List L → Option E
fault_behind of_line of_text before [] = of_text before
fault_behind of_line of_text before (l ∷ ls) = or_else (of_line before l) (fault_behind of_line of_text (before ++ l ∷ []) ls)

-- the first fault of all the lines of a text
abbrev pub fault_of_all : {L E : Type 0} → (List L → L → Option E) → (List L → Option E) → List L → Option E
fault_of_all of_line of_text ls = fault_behind of_line of_text [] ls

-- no fault of a whole text
abbrev pub no_text_fault : {L E : Type 0} → List L → Option E
no_text_fault ls = None

-- the lines that were taken from the front of `all` have no fault, and `left` is the rest. If this holds when memory runs out, the reader
-- has not hidden a fault that it found
abbrev pub TookNoFault : {L E : Type 0} → (List L → L → Option E) → List L → List L → Type 0
TookNoFault {L = L} of_line all left = (taken : List L) × (taken ++ left ≡ all) × (fault_of_all of_line no_text_fault taken ≡ None)

-- in the examples a line is a number. It is faulty if it equals the number of lines before it. A text is faulty if it is empty
abbrev stands_at_its_number : List ℕ → ℕ → Option ℕ
stands_at_its_number before n = if length before == n then Some n else None

abbrev is_empty : List ℕ → Option ℕ
is_empty [] = Some 1000
is_empty (n ∷ ns) = None

pub first_of_two_faulty_lines : fault_of_all stands_at_its_number is_empty (5 ∷ 1 ∷ 2 ∷ []) ≡ Some 1
first_of_two_faulty_lines = refl

pub fault_of_the_whole_text : fault_of_all stands_at_its_number is_empty [] ≡ Some 1000
fault_of_the_whole_text = refl

pub one_line_without_a_fault_taken : TookNoFault stands_at_its_number (7 ∷ 1 ∷ []) (1 ∷ [])
one_line_without_a_fault_taken = (7 ∷ [], refl, refl)

pub no_fault_at_all : fault_of_all stands_at_its_number is_empty (7 ∷ 7 ∷ []) ≡ None
no_fault_at_all = refl
