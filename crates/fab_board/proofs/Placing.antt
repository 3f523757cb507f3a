-- The last post, and answers that are put into their places.
use Rattle.std.proofs.Common.{◌≡◌, ℕ, ◌<◌, List, [], ◌∷◌, ◌++◌, length, map, replicate, set, get_or, Option, Some, None, Result, Ok, Err, refl, sym, ap, ◌∙◌, subst, arith, length-set, get_or-set_same, get_or-set_other}
use Rattle.std.specs.Prelude.{IfOk, IfSome}
use Rattle.std.proofs.Math.ListN.{get_or-map, length-replicate}
use Rattle.std.proofs.lemmas.List.{get_or-replicate, length-map}
use mathlib.Core.Logic.{dite}
use native.Mathlib.Decide.{ℕ_discrete}
use Rattle.fab_board.specs.Posts.{latest}
use Rattle.fab_board.specs.Follows.{followed, IsAnswerAfter, IsAnswered}
use Rattle.fab_board.specs.Judged.{AllAnswered, Placed}

pub latest_push : {E : Type 0} (xs : List E) (e : E) → latest (xs ++ e ∷ []) ≡ Some e
latest_push [] e = refl
latest_push (x ∷ []) e = refl
latest_push (x ∷ y ∷ xs) e = latest_push (y ∷ xs) e

-- an answer for a slot, if there is one, is put into it
pub placed_set : {T : Type 0} (P : ℕ → T → Type 0) (slots : List (Option T)) (i : ℕ) (x : Option T) → i < length slots → IfSome x (P i) → Placed P slots → Placed P (set slots i x)
placed_set {T} P slots i x inside p h k d l = dite (ℕ_discrete k i)
    (λ e. subst (λ (j : ℕ). IfSome (get_or (set slots i x) j d) (P j)) (sym e) (subst (λ (o : Option T). IfSome o (P i)) (sym (get_or-set_same slots i x d inside)) p))
    (λ ne. subst (λ (o : Option T). IfSome o (P k)) (sym (get_or-set_other slots i k x d ne)) (h k d (let n = length-set slots i x in omega arith)))

-- an answer on the state after some posts, if it holds one
pub answered_if : {S E T : Type 0} (after : S → E → S) (answer : S → ℕ → Option T → Type 0) (start : Option S) (posts : List E) (n : ℕ) (x : Option T) → IsAnswerAfter after answer start posts n x → IfSome x (λ a. IsAnswered after answer start n (Some a))
answered_if after answer start posts n None h = tt
answered_if after answer start posts n (Some a) h = (posts, h)

vacant : {T : Type 0} (P : ℕ → T → Type 0) (n : ℕ) → Placed {T = T} P (replicate n None)
vacant {T} P n k d l = let none : Option T = None in let e = length-replicate n none in subst (λ (o : Option T). IfSome o (P k)) (sym (get_or-replicate n k None d (omega arith))) tt

pub vacant_places : {T : Type 0} (P : ℕ → T → Type 0) (n : ℕ) (slots : List (Option T)) → slots ≡ replicate n None → (length slots ≡ n) × Placed P slots
vacant_places {T} P n slots is = let none : Option T = None in (ap (λ (l : List (Option T)). length l) is ∙ length-replicate n none, subst (λ (l : List (Option T)). Placed P l) (sym is) (vacant P n))

-- the answers in their places are those of the places
pub unwrapped : {T : Type 0} (P : ℕ → T → Type 0) (slots : List (Option T)) (xs : List T) → map (λ (x : T). Some x) xs ≡ slots → Placed P slots → (j : ℕ) (d : T) → j < length slots → P j (get_or xs j d)
unwrapped {T} P slots xs is placed j d l = subst (λ (o : Option T). IfSome o (P j)) (ap (λ (s : List (Option T)). get_or s j (Some d)) (sym is) ∙ get_or-map (λ (x : T). Some x) xs j d) (placed j (Some d) l)

-- answers that were taken out of their places are answers for their numbers
pub all_unwrapped : {T : Type 0} (P : ℕ → T → Type 0) (slots : List (Option T)) (xs : List T) → map (λ (x : T). Some x) xs ≡ slots → Placed P slots → AllAnswered P xs
all_unwrapped {T} P slots xs is placed k d l = unwrapped P slots xs is placed k d (let n = sym (length-map xs (λ (x : T). Some x)) ∙ ap (λ (s : List (Option T)). length s) is in omega (arith, n, l))

pub if_ok : {A E : Type 0} (P Q : A → Type 0) (r : Result A E) → ((x : A) → P x → Q x) → IfOk r P → IfOk r Q
if_ok P Q (Ok x) f h = f x h
if_ok P Q (Err e) f h = tt

-- a state that no post changes stays
still : {S E : Type 0} (s : S) (posts : List E) → followed (λ t e. t) s posts ≡ s
still s [] = refl
still s (e ∷ es) = still s es

-- an answer after some posts, where no post changes what judges, is one of what judges
pub given_by : {B E T : Type 0} (gives : B → ℕ → T → Type 0) (by : B) (n : ℕ) (x : T) → IsAnswered {E = E} (λ b e. b) (λ b k y. IfSome y (λ a. gives b k a)) (Some by) n (Some x) → gives by n x
given_by gives by n x h = subst (λ b. gives b n x) (still by h.0) (h.1 by refl)
