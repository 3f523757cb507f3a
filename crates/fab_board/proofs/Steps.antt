-- Steps of following and judging.
use Rattle.std.proofs.Common.{◌≡◌, ℕ, ◌+◌, ◌<◌, List, [], ◌∷◌, ◌++◌, length, All, zero, suc, Option, Some, refl, sym, subst, get_or, ap, ◌∙◌, arith, length-append}
use mathlib.Core.List.{IsPrefix}
use Rattle.fab_board.specs.Posts.{latest}
use Rattle.fab_board.specs.Follows.{followed, Follows, MayFollow, MayNow}
use Rattle.fab_board.proofs.Placing.{latest_push}

-- a list that another begins, and that is one longer, is that one and its last entry
pub one_more : {A : Type 0} (xs ys : List A) (e : A) → IsPrefix xs ys → length ys ≡ length xs + 1 → latest ys ≡ Some e → ys ≡ xs ++ e ∷ []
one_more {A} xs ys e p len last = go p.0 p.1
  where
    go : (rest : List A) → xs ++ rest ≡ ys → ys ≡ xs ++ e ∷ []
    go [] is = absurd (omega (arith, len, sym (ap length is) ∙ length-append xs []))
    go (z ∷ []) is =
        let same : Some z ≡ Some e = sym (latest_push xs z) ∙ (ap latest is ∙ last) in
        let z_is : z ≡ e = cc same in
        sym is ∙ ap (λ (w : A). xs ++ w ∷ []) z_is
    go (z ∷ w ∷ ws) is = absurd (omega (arith, len, sym (ap length is) ∙ length-append xs (z ∷ w ∷ ws)))

-- a post more is a step more
pub followed_push : {S E : Type 0} (after : S → E → S) (s : S) (es : List E) (e : E) → followed after s (es ++ e ∷ []) ≡ after (followed after s es) e
followed_push after s [] e = refl
followed_push after s (x ∷ es) e = followed_push after (after s x) es e

-- what may be followed behind the posts may be followed from the state after them
pub may_step : {S E : Type 0} (may : S → E → Type 0) (after : S → E → S) (start : Option S) (es posts : List E) (e : E) (s : S) → posts ≡ es ++ e ∷ [] → Follows after start es s → MayFollow may after start posts e → may s e
may_step {S} may after start es posts e s is f m = subst (λ (t : S). may t e) (sym f.2) (m f.0 es f.1 is)

pub follows_step : {S E : Type 0} (after : S → E → S) (start : Option S) (es posts : List E) (e : E) (s t : S) → posts ≡ es ++ e ∷ [] → t ≡ after s e → Follows after start es s → Follows after start posts t
follows_step {S} {E} after start es posts e s t is step f = (f.0, f.1, step ∙ (ap (λ (u : S). after u e) f.2 ∙ (sym (followed_push after f.0 es e) ∙ ap (λ (l : List E). followed after f.0 l) (sym is))))

snoc_same : {A : Type 0} (xs ys : List A) (x y : A) → xs ++ x ∷ [] ≡ ys ++ y ∷ [] → xs ≡ ys
snoc_same [] [] x y is = refl
snoc_same [] (b ∷ ys) x y is = absurd (omega (arith, ap length is, length-append ys (y ∷ [])))
snoc_same (a ∷ xs) [] x y is = absurd (omega (arith, ap length is, length-append xs (x ∷ [])))
snoc_same (a ∷ xs) (b ∷ ys) x y is = let r : xs ≡ ys = snoc_same xs ys x y (cc is) in cc (is, r)

-- a post that may be followed now may be followed where it stands last
pub may_push : {S E : Type 0} (may : S → E → Type 0) (after : S → E → S) (start : Option S) (es : List E) (e : E) → MayNow may after start es e → MayFollow may after start (es ++ e ∷ []) e
may_push may after start es e m s0 fs is same = subst (λ l. may (followed after s0 l) e) (snoc_same es fs e e same) (m s0 is)

pub both_empty : {A : Type 0} (xs ys : List A) → xs ≡ [] → ys ≡ [] → ◌≡◌ {A = List A × List A} (xs, ys) ([], [])
both_empty {A} xs ys p q =
    let P : List A → Type 0 = λ l. ◌≡◌ {A = List A × List A} (l, ys) ([], []) in
    let Q : List A → Type 0 = λ l. ◌≡◌ {A = List A × List A} ([], l) ([], []) in
    subst P (sym p) (subst Q (sym q) refl)

-- what holds of all holds of the last, and of all before it
pub all_rest : {A : Type 0} (P : A → Type 0) (xs ys : List A) (x : A) → xs ≡ ys ++ x ∷ [] → All P xs → All P ys × P x
all_rest {A} P xs ys x is h =
    let all : All P (ys ++ x ∷ []) = subst (λ (l : List A). All P l) is h in
    ((λ k d l. subst P (before ys k d l) (all k d (omega (arith, length-append ys (x ∷ []))))), subst P (here ys x) (all (length ys) x (omega (arith, length-append ys (x ∷ [])))))
  where
    before : (ys : List A) (k : ℕ) (d : A) → k < length ys → get_or (ys ++ x ∷ []) k d ≡ get_or ys k d
    before [] k d l = absurd (omega arith)
    before (y ∷ ys) zero d l = refl
    before (y ∷ ys) (suc k) d l = before ys k d (omega arith)

    here : (ys : List A) (x : A) → get_or (ys ++ x ∷ []) (length ys) x ≡ x
    here [] x = refl
    here (y ∷ ys) x = here ys x
