-- Lines that were taken without a fault.
use Rattle.std.proofs.Common.{◌≡◌, List, [], ◌∷◌, ◌++◌, Option, Some, None, refl, sym, ap, ◌∙◌, append_assoc}
use Rattle.std.proofs.lemmas.List.{append-nil}
use Rattle.fab_text.specs.FirstFault.{or_else, fault_behind, fault_of_all, no_text_fault}

-- neither of two possible faults is there
pub none_of_both : {E : Type 0} (f g : Option E) → or_else f g ≡ None → (f ≡ None) × (g ≡ None)
none_of_both None g h = (refl, h)
none_of_both (Some e) g h = cc

both_none : {E : Type 0} (f g : Option E) → f ≡ None → g ≡ None → or_else f g ≡ None
both_none f g h k = rw h k

behind_push : {L E : Type 0} (of_line : List L → L → Option E) (before ls : List L) (l : L) → fault_behind of_line no_text_fault before ls ≡ None → of_line (before ++ ls) l ≡ None → fault_behind of_line no_text_fault before (ls ++ l ∷ []) ≡ None
behind_push of_line before [] l h k = both_none (of_line before l) None (ap (λ b. of_line b l) (sym (append-nil before)) ∙ k) refl
behind_push of_line before (m ∷ ls) l h k =
    let none = none_of_both (of_line before m) (fault_behind of_line no_text_fault (before ++ m ∷ []) ls) h in
    both_none (of_line before m) (fault_behind of_line no_text_fault (before ++ m ∷ []) (ls ++ l ∷ [])) none.0
    (behind_push of_line (before ++ m ∷ []) ls l none.1 (ap (λ b. of_line b l) (append_assoc before (m ∷ []) ls) ∙ k))

-- one more line without a fault
pub one_more : {L E : Type 0} (of_line : List L → L → Option E) (taken : List L) (l : L) → fault_of_all of_line no_text_fault taken ≡ None → of_line taken l ≡ None → fault_of_all of_line no_text_fault (taken ++ l ∷ []) ≡ None
one_more of_line taken l h k = behind_push of_line [] taken l h k
