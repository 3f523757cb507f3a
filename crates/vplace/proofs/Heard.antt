-- What was said of a fault after calls that said nothing.
use Rattle.std.proofs.Common.{ℕ, ◌≡◌, List, Option, subst}
use Rattle.vplace.specs.Said.{IsFaultSaid, IsSaid}

pub said_since : (old middle new : Option (List ℕ)) (failed_old failed_middle failed_new : ℕ) → middle ≡ old → failed_middle ≡ failed_old
    → IsFaultSaid middle new failed_middle failed_new → IsFaultSaid old new failed_old failed_new
said_since old middle new failed_old failed_middle failed_new same failed_same said =
    subst (λ before. IsFaultSaid before new failed_old failed_new) same (subst (λ before. IsFaultSaid middle new before failed_new) failed_same said)

pub line_since : (old middle new : Option (List ℕ)) (failed_old failed_middle failed_new : ℕ) (line : List ℕ) → middle ≡ old → failed_middle ≡ failed_old
    → IsSaid line middle new failed_middle failed_new → IsSaid line old new failed_old failed_new
line_since old middle new failed_old failed_middle failed_new line same failed_same said =
    subst (λ before. IsSaid line before new failed_old failed_new) same (subst (λ before. IsSaid line middle new before failed_new) failed_same said)
