-- Answers by number. Our own.
use Rattle.std.specs.Prelude.{ℕ, ◌<◌, List, length, Option, IfSome, slice_index_or}

-- each slot that is full has an answer for its number
abbrev pub Placed : {T : Type 0} → (ℕ → T → Type 0) → List (Option T) → Type 0
Placed {T} P slots = (k : ℕ) (d : Option T) → k < length slots → IfSome (slice_index_or slots k d) (P k)

-- answer k is one for number k
abbrev pub AllAnswered : {T : Type 0} → (ℕ → T → Type 0) → List T → Type 0
AllAnswered {T} P answers = (k : ℕ) (d : T) → k < length answers → P k (slice_index_or answers k d)
