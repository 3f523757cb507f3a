-- Watchers that are held against the list one by one, from the end of theirs.
use Rattle.std.proofs.Common.{◌≡◌, List, [], ◌∷◌, ◌++◌, All, Some, sym, ap, ◌∙◌, arith, append_assoc, append-nil}
use Rattle.std.proofs.lemmas.List.Elements.{All-pop, All-cons, All-same}
use Rattle.atomic_table.specs.Seated.{TableId}
use Rattle.fab_dial.specs.declared.readings.Reading.{Reading}
use Rattle.fab_dial.specs.Shown.{StartsWith}
use Rattle.fab_dial.specs.Models.{WatcherModel}

-- those that are left are of this dial, and the others have seen a beginning of what was shown
pub record Gathers (dial : TableId) (shown : List Reading) (all left : List WatcherModel) : Type 0 where
  pub done : List WatcherModel
  pub whole : all ≡ left ++ done
  pub seen : All (λ w. StartsWith shown w.seen) done
  pub own : All (λ w. w.dial ≡ dial) left

module _ (dial : TableId) (shown : List Reading) (all : List WatcherModel) where
  pub gathers_none : All (λ w. w.dial ≡ dial) all → Gathers dial shown all all
  gathers_none own = record { done = []; whole = sym (append-nil all); seen = λ k d l. absurd (omega arith); own = own }

  pub last_own : (xs ys : List WatcherModel) (w : WatcherModel) → xs ≡ ys ++ w ∷ [] → Gathers dial shown all xs → w.dial ≡ dial
  last_own xs ys w is r = (All-pop (λ (w : WatcherModel). w.dial ≡ dial) xs ys (Some w) is r.own).1

  pub gathers_last : (xs ys : List WatcherModel) (w : WatcherModel) → xs ≡ ys ++ w ∷ [] → Gathers dial shown all xs → StartsWith shown w.seen → Gathers dial shown all ys
  gathers_last xs ys w is r seen = record {
    done = w ∷ r.done;
    whole = r.whole ∙ (ap (λ (l : List WatcherModel). l ++ r.done) is ∙ append_assoc ys (w ∷ []) r.done);
    seen = All-cons (λ (w : WatcherModel). StartsWith shown w.seen) w r.done seen r.seen;
    own = (All-pop (λ (w : WatcherModel). w.dial ≡ dial) xs ys (Some w) is r.own).0;
  }

  pub gathers_all : (left : List WatcherModel) → Gathers dial shown all left → left ≡ [] → All (λ w. StartsWith shown w.seen) all
  gathers_all left r none_left = All-same (λ (w : WatcherModel). StartsWith shown w.seen) all r.done (r.whole ∙ ap (λ (l : List WatcherModel). l ++ r.done) none_left) r.seen
