-- What follows of a beginning and of a last reading, for those who call the dial.
use Rattle.std.proofs.Common.{◌≡◌, List, [], ◌∷◌, ◌++◌, All, Some, fold, ap, sym, subst, ◌∙◌, arith}
use Rattle.std.proofs.lemmas.List.Elements.{All-pop}
use Rattle.std.proofs.lemmas.List.Prefix.{front_fits, front_reads}
use Rattle.std.proofs.lemmas.List.Sums.{fold_push}
use Rattle.fab_dial.specs.declared.readings.Reading.{Reading}
use Rattle.fab_dial.specs.Shown.{StartsWith, EndsWith}

abbrev later : Reading → Reading → Reading
later _ y = y

-- a list has one last reading
pub last_is : (list : List Reading) (x y : Reading) → EndsWith (list ++ x ∷ []) y → y ≡ x
last_is list x y ends = sym (fold_push later x ends.0 y) ∙ ap (λ (l : List Reading). fold later x l) (sym ends.1) ∙ fold_push later x list x

-- what is true of all that was shown is true of all that a watcher has seen
pub All-seen : (P : Reading → Type 0) (shown seen : List Reading) → StartsWith shown seen → All P shown → All P seen
All-seen P shown seen begins all k d l = let fits = front_fits shown seen begins.0 begins.1 in subst P (front_reads d shown seen begins.0 begins.1 k l) (all k d (omega arith))

-- and of the reading that it read last
pub All-last : (P : Reading → Type 0) (seen : List Reading) (x : Reading) → EndsWith seen x → All P seen → P x
All-last P seen x ends all = (All-pop P seen ends.0 (Some x) ends.1 all).1
