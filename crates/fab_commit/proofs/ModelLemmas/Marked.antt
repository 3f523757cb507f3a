-- Sites, marks, and lists that share one.
use Rattle.std.proofs.Common.{◌≡◌, ℕ, Bool, true, false, cond, ◌&&◌, ◌||◌, ◌==◌, List, [], ◌∷◌, ◌++◌, map, refl, sym, ap, subst, ◌∙◌, inl, inr}
use Rattle.std.specs.List.{filter}
use Rattle.std.proofs.lemmas.Bool.{eqb-true, eq-eqb, and_parts, and_from, or_cases, or_left, or_right, false≢true}
use Rattle.fab_arch.specs.declared.array.Site.{Site}
use Rattle.fab_move.specs.declared.marks.Mark.{Mark}
use Rattle.fab_move.specs.declared.marks.Mark.TheVariants.{Block, Place, Net}
use Rattle.fab_net.specs.Netlist.{has_number}
use Rattle.fab_site.specs.Placement.{same_site}
use Rattle.fab_move.specs.Judge.{same_mark, has_mark, meet}

pub same_site-true : (a b : Site) → same_site a b ≡ true → a ≡ b
same_site-true a b h =
    let p = and_parts (a.x == b.x && a.y == b.y) (a.sub == b.sub) h in
    let q = and_parts (a.x == b.x) (a.y == b.y) p.0 in
    let ex : a.x ≡ b.x = eqb-true _ _ q.0 in
    let ey : a.y ≡ b.y = eqb-true _ _ q.1 in
    let es : a.sub ≡ b.sub = eqb-true _ _ p.1 in
    λ i. record { x = ex i; y = ey i; sub = es i }

pub same_site_refl : (a : Site) → same_site a a ≡ true
same_site_refl a = and_from _ _ (and_from _ _ (eq-eqb a.x a.x refl) (eq-eqb a.y a.y refl)) (eq-eqb a.sub a.sub refl)

-- in a step of a recursion by ||
or_map : (x a b : Bool) → (a ≡ true → b ≡ true) → (x || a) ≡ true → (x || b) ≡ true
or_map true a b f h = refl
or_map false a b f h = f h

same_mark-true : (a b : Mark) → same_mark a b ≡ true → a ≡ b
same_mark-true (Block a) (Block b) h = let e = eqb-true _ _ h in λ i. Block (record { 0 = e i })
same_mark-true (Place a) (Place b) h = ap Place (same_site-true a b h)
same_mark-true (Net a) (Net b) h = let e = eqb-true _ _ h in λ i. Net (record { 0 = e i })
same_mark-true (Block a) (Place b) h = absurd (false≢true h)
same_mark-true (Block a) (Net b) h = absurd (false≢true h)
same_mark-true (Place a) (Block b) h = absurd (false≢true h)
same_mark-true (Place a) (Net b) h = absurd (false≢true h)
same_mark-true (Net a) (Block b) h = absurd (false≢true h)
same_mark-true (Net a) (Place b) h = absurd (false≢true h)

-- two lists that share a mark meet
pub meet_shared : (m : Mark) (xs ys : List Mark) → has_mark m xs ≡ true → has_mark m ys ≡ true → meet xs ys ≡ true
meet_shared m xs [] h k = k
meet_shared m xs (y ∷ ys) h k =
    elim (or_cases (same_mark m y) (has_mark m ys) k) [
      | inl e ↦ or_left (has_mark y xs) (meet xs ys) (subst (λ (v : Mark). has_mark v xs ≡ true) (same_mark-true m y e) h)
      | inr e ↦ or_right (has_mark y xs) (meet xs ys) (meet_shared m xs ys h e)
    ]

pub has_mark-append_left : (m : Mark) (xs ys : List Mark) → has_mark m xs ≡ true → has_mark m (xs ++ ys) ≡ true
has_mark-append_left m [] ys h = absurd (false≢true h)
has_mark-append_left m (x ∷ xs) ys h = or_map (same_mark m x) _ _ (has_mark-append_left m xs ys) h

pub has_mark-append_right : (m : Mark) (xs ys : List Mark) → has_mark m ys ≡ true → has_mark m (xs ++ ys) ≡ true
has_mark-append_right m [] ys h = h
has_mark-append_right m (x ∷ xs) ys h = or_right _ _ (has_mark-append_right m xs ys h)

pub has_mark-nets : (n : ℕ) (ns : List ℕ) → has_number n ns ≡ true → has_mark (Net (record { 0 = n })) (map (λ k. Net (record { 0 = k })) ns) ≡ true
has_mark-nets n [] h = h
has_mark-nets n (x ∷ ns) h = or_map (n == x) _ _ (has_mark-nets n ns) h

-- a number that passes the test is in the filtered list
filter_has : (p : ℕ → Bool) (n x : ℕ) (xs : List ℕ) → p n ≡ true → (has_number n xs ≡ true → has_number n (filter p xs) ≡ true) → (n == x || has_number n xs) ≡ true → (b : Bool) → p x ≡ b → has_number n (cond b (x ∷ filter p xs) (filter p xs)) ≡ true
filter_has p n x xs h rest k true e = or_map (n == x) _ _ rest k
filter_has p n x xs h rest k false e =
    elim (or_cases (n == x) (has_number n xs) k) [
      | inl q ↦ absurd (false≢true (sym e ∙ ap p (sym (eqb-true n x q)) ∙ h))
      | inr q ↦ rest q
    ]

pub has_number-filter : (p : ℕ → Bool) (n : ℕ) (xs : List ℕ) → p n ≡ true → has_number n xs ≡ true → has_number n (filter p xs) ≡ true
has_number-filter p n [] h k = k
has_number-filter p n (x ∷ xs) h k = filter_has p n x xs h (has_number-filter p n xs h) k (p x) refl
