-- The lane-wise least of vectors.
use Rattle.std.proofs.Common.{◌≡◌, ℕ, zero, suc, ◌+◌, ◌-◌, ◌*◌, ◌<◌, ◌≤◌, min, replicate, cond, ltb, List, [], ◌∷◌, ◌++◌, map, take, length, get_or, refl, sym, ap, ◌∙◌, subst, arith}
use Rattle.std.proofs.lemmas.Bool.Decides.{nat_tests}
use Rattle.std.proofs.lemmas.List.{take_all, take_more}
use Rattle.std.specs.List.{sum_by}
use Rattle.std.proofs.lemmas.List.Sums.{sum_by_more}
use lib.Lanes.{Each1, Each2, zip2, sel_l, sum_l, fold_l, top}
use Rattle.std.proofs.lemmas.Simd.{tops_compared, length-zip2, sum_bound}
use mir.Syntax.{w16}
use Rattle.fab_cost.specs.Runs.{AreLanes, no_lanes, least_of, least_among}

sel_min : (xs ys : List ℕ) → sel_l (zip2 ltb xs ys) xs ys ≡ zip2 (λ x y. min x y) xs ys
sel_min [] ys = refl
sel_min (x ∷ xs) [] = refl
sel_min (x ∷ xs) (y ∷ ys) =
    let h : cond (ltb x y) x y ≡ min x y = grind (arith, nat_tests) in
    let t = sel_min xs ys in
    λ i. h i ∷ t i

pub min_selected : (xs ys : List ℕ) → sel_l (map (top 15) (zip2 (λ a b. cond (ltb a b) 65535 0) xs ys)) xs ys ≡ least_of xs ys
min_selected xs ys = ap (λ m. sel_l m xs ys) (tops_compared w16 ltb xs ys) ∙ sel_min xs ys

fold_snoc : (f : ℕ → List ℕ) (v : List ℕ) (ks : List ℕ) (k : ℕ) → fold_l (λ v k. least_of v (f k)) v (ks ++ k ∷ []) ≡ least_of (fold_l (λ v k. least_of v (f k)) v ks) (f k)
fold_snoc f v [] k = refl
fold_snoc f v (c ∷ ks) k = fold_snoc f (least_of v (f c)) ks k

-- one more block
pub least_more : (f : ℕ → List ℕ) (ks : List ℕ) (i z : ℕ) (v w r : List ℕ) → i < length ks → v ≡ least_among f (take i ks) → w ≡ f (get_or ks i z) → r ≡ least_of v w → r ≡ least_among f (take (i + 1) ks)
least_more f ks i z v w r h ev ew er =
    er ∙ (λ j. least_of (ev j) (ew j)) ∙ sym (fold_snoc f no_lanes (take i ks) (get_or ks i z)) ∙ ap (least_among f) (sym (take_more ks i z h))

pub least_all : (f : ℕ → List ℕ) (ks : List ℕ) (i : ℕ) (v : List ℕ) → length ks ≤ i → v ≡ least_among f (take i ks) → v ≡ least_among f ks
least_all f ks i v h e = e ∙ ap (least_among f) (take_all i ks h)

-- no lane sum is above that of either
pub total_le : (xs ys : List ℕ) → sum_l (least_of xs ys) ≤ sum_l ys
total_le [] ys = omega arith
total_le (x ∷ xs) [] = omega arith
total_le (x ∷ xs) (y ∷ ys) = omega (arith, total_le xs ys)

-- a lane sum with each lane raised by 1001 and lowered by that of another vector

least_low : (xs ys : List ℕ) → Each1 (λ y. y ≤ 1001) ys → Each1 (λ z. z ≤ 1001) (least_of xs ys)
least_low [] ys h = tt
least_low (x ∷ xs) [] h = tt
least_low (x ∷ xs) (y ∷ ys) h = let l = h.0 in (omega (arith, l), least_low xs ys h.1)

fits_raised : (n : ℕ) (xs ys : List ℕ) → Each1 (λ y. y ≤ 1001) ys → Each2 (λ x y. y ≤ x) (zip2 (λ x y. x + y) xs (replicate n 1001)) ys
fits_raised n [] ys h = tt
fits_raised zero (x ∷ xs) ys h = tt
fits_raised (suc n) (x ∷ xs) [] h = tt
fits_raised (suc n) (x ∷ xs) (y ∷ ys) h = let l = h.0 in (omega (arith, l), fits_raised n xs ys h.1)

fall_of : (n : ℕ) (xs ys : List ℕ) → length xs ≡ n → length ys ≡ n → Each1 (λ y. y ≤ 1001) ys → sum_l (zip2 (λ x y. x - y) (zip2 (λ x y. x + y) xs (replicate n 1001)) ys) + sum_l ys ≡ sum_l xs + 1001 * n
fall_of zero [] [] ex ey h = refl
fall_of zero [] (y ∷ ys) ex ey h = absurd (omega (arith, ey))
fall_of zero (x ∷ xs) ys ex ey h = absurd (omega (arith, ex))
fall_of (suc n) [] ys ex ey h = absurd (omega (arith, ex))
fall_of (suc n) (x ∷ xs) [] ex ey h = absurd (omega (arith, ey))
fall_of (suc n) (x ∷ xs) (y ∷ ys) ex ey h =
    let l = h.0 in
    let r = fall_of n xs ys (omega (arith, ex)) (omega (arith, ey)) h.1 in
    omega (arith, l, r)

pub least_sum : (all base v : List ℕ) → AreLanes base → v ≡ least_of all base → sum_l v ≤ 4004
least_sum all base v are ev =
    let t = total_le all base in
    let b = sum_bound 1001 base are.low in
    let l = are.four in
    omega (arith, ap sum_l ev, t, b, l)

pub raised_fits : (all target v w : List ℕ) → AreLanes target → w ≡ least_of all target → Each2 (λ x y. y ≤ x) (zip2 (λ x y. x + y) v (1001 ∷ 1001 ∷ 1001 ∷ 1001 ∷ [])) w
raised_fits all target v w are ew = fits_raised 4 v w (subst (λ u. Each1 (λ y. y ≤ 1001) u) (sym ew) (least_low all target are.low))

least_four : (all one v : List ℕ) → length all ≡ 4 → length one ≡ 4 → v ≡ least_of all one → length v ≡ 4
least_four all one v la lo ev = ap length ev ∙ length-zip2 (λ x y. min x y) all one (la ∙ sym lo) ∙ la

pub fall_is : (all base target v w : List ℕ) (fall : ℕ) → length all ≡ 4 → AreLanes base → AreLanes target → v ≡ least_of all base → w ≡ least_of all target
    → fall ≡ sum_l (zip2 (λ x y. x - y) (zip2 (λ x y. x + y) v (1001 ∷ 1001 ∷ 1001 ∷ 1001 ∷ [])) w) → fall + sum_l (least_of all target) ≡ sum_l (least_of all base) + 4004
fall_is all base target v w fall la ab at ev ew ef =
    let f = fall_of 4 v w (least_four all base v la ab.four ev) (least_four all target w la at.four ew) (subst (λ u. Each1 (λ y. y ≤ 1001) u) (sym ew) (least_low all target at.low)) in
    omega (arith, f, ef, ap sum_l ev, ap sum_l ew)

pub weighed_fall : (q s t b p r : ℕ) → p ≡ q → r ≡ s → s + t ≡ b + 4004 → p * r + q * t ≡ 4004 * q + q * b
weighed_fall q s t b p r ep er e =
    let k : p * r ≡ q * s = λ i. ep i * er i in
    let a : q * (s + t) ≡ q * (b + 4004) = ap (λ v. q * v) e in
    let c : q * (s + t) ≡ q * s + q * t = omega arith in
    let d : q * (b + 4004) ≡ q * b + 4004 * q = omega arith in
    omega (arith, k, a, c, d)

-- a sum over records, one by one
pub change_more : {A : Type 0} (before after : A → ℕ) (rs : List A) (i : ℕ) (z : A) (gained lost won gone : ℕ) → i < length rs → gained + sum_by after (take i rs) ≡ lost + sum_by before (take i rs)
    → won + after (get_or rs i z) ≡ gone + before (get_or rs i z) → gained + won + sum_by after (take (i + 1) rs) ≡ lost + gone + sum_by before (take (i + 1) rs)
change_more before after rs i z gained lost won gone h e w = omega (arith, sum_by_more before rs i z h, sum_by_more after rs i z h, e, w)

pub change_all : {A : Type 0} (before after : A → ℕ) (rs : List A) (i gained lost : ℕ) → length rs ≤ i → gained + sum_by after (take i rs) ≡ lost + sum_by before (take i rs) → gained + sum_by after rs ≡ lost + sum_by before rs
change_all before after rs i gained lost h e =
    let a = ap (sum_by before) (take_all i rs h) in
    let b = ap (sum_by after) (take_all i rs h) in
    omega (arith, a, b, e)
