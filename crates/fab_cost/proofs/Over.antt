-- Boxes made from positions.
use Rattle.std.proofs.Common.{◌≡◌, ℕ, ◌+◌, ◌<◌, ◌≤◌, List, [], ◌∷◌, ◌++◌, map, take, length, get_or, sym, ap, ◌∙◌, arith, length-append}
use Rattle.std.proofs.lemmas.List.{map-append, length-map, get_or-map, take_all, take_more, get_or_append_left, length-take-le}
use Rattle.fab_cost.specs.declared.edge_counts.Edges.{Edges}
use Rattle.fab_cost.specs.declared.edge_counts.CountedBox.{CountedBox}
use Rattle.fab_cost.specs.Edges.{edges_of, times, AreEdgesWith}
use Rattle.fab_cost.specs.Swapping.{Position}
use Rattle.fab_cost.specs.Runs.{counted_over, lanes_for, no_position, no_lanes, table_from}
use Rattle.fab_cost.proofs.Moves.{edges_small}

abbrev pub x_at : List Position → ℕ → ℕ
x_at ps k = (get_or ps k no_position).x

abbrev pub y_at : List Position → ℕ → ℕ
y_at ps k = (get_or ps k no_position).y

-- the vector of a block
lanes_at_block : (table : List (List ℕ)) (ps : List Position) (k : ℕ) (z : List ℕ) → table ≡ table_from ps → k < length ps → get_or table k z ≡ lanes_for (get_or ps k no_position)
lanes_at_block table ps k z e h =
    ap (λ v. get_or v k z) e ∙ get_or_append_left (map lanes_for ps) (no_lanes ∷ []) z k (let l = length-map ps lanes_for in omega (arith, h, l)) ∙ get_or-map lanes_for ps k no_position z h

pub lane_x : (table : List (List ℕ)) (ps : List Position) (k : ℕ) (z v : List ℕ) → table ≡ table_from ps → k < length ps → v ≡ get_or table k z → get_or v 0 0 ≡ x_at ps k
lane_x table ps k z v e h ev = ap (λ w. get_or w 0 0) (ev ∙ lanes_at_block table ps k z e h)

pub lane_y : (table : List (List ℕ)) (ps : List Position) (k : ℕ) (z v : List ℕ) → table ≡ table_from ps → k < length ps → v ≡ get_or table k z → get_or v 2 0 ≡ y_at ps k
lane_y table ps k z v e h ev = ap (λ w. get_or w 2 0) (ev ∙ lanes_at_block table ps k z e h)

pub table_low : (table : List (List ℕ)) (ps : List Position) (k : ℕ) → table ≡ table_from ps → k < length ps → k < length table
table_low table ps k e h = let l = length-map ps lanes_for in let a = length-append (map lanes_for ps) (no_lanes ∷ []) in omega (arith, h, l, a, ap length e)

length_first : (f : ℕ → ℕ) (ks : List ℕ) (i : ℕ) → i ≤ length ks → length (map f (take i ks)) ≡ i
length_first f ks i h = length-map (take i ks) f ∙ length-take-le i ks h

pub edges_few : (f : ℕ → ℕ) (ks : List ℕ) (i : ℕ) (e : Edges) → i ≤ length ks → e ≡ edges_of (map f (take i ks)) → (e.least.count ≤ i) × (e.greatest.count ≤ i)
edges_few f ks i e h is =
    let s = edges_small e (map f (take i ks)) is in
    let l = length_first f ks i h in
    (omega arith, omega arith)

pub more_edges : (f : ℕ → ℕ) (ks : List ℕ) (i z v : ℕ) (e r : Edges) → 0 < i → i < length ks → v ≡ f (get_or ks i z) → e ≡ edges_of (map f (take i ks)) → AreEdgesWith e v r → r ≡ edges_of (map f (take (i + 1) ks))
unfolding AreEdgesWith
more_edges f ks i z v e r some h ev is with_it =
    let l = length_first f ks i (omega arith) in
    with_it (map f (take i ks)) (omega arith) is ∙ (λ j. edges_of (map f (take i ks) ++ ev j ∷ [])) ∙ ap edges_of (sym (ap (map f) (take_more ks i z h) ∙ map-append f (take i ks) (get_or ks i z ∷ [])))

pub box_whole : (ps : List Position) (ks : List ℕ) (i : ℕ) (x y : Edges) → length ks ≤ i → x ≡ edges_of (map (x_at ps) (take i ks)) → y ≡ edges_of (map (y_at ps) (take i ks)) → record { x = x; y = y } ≡ counted_over ps ks
unfolding counted_over
box_whole ps ks i x y h ex ey =
    let a = ex ∙ ap (λ v. edges_of (map (x_at ps) v)) (take_all i ks h) in
    let b = ey ∙ ap (λ v. edges_of (map (y_at ps) v)) (take_all i ks h) in
    λ j. record { x = a j; y = b j }

pub box_none : (ps : List Position) (ks : List ℕ) (b : CountedBox) → length ks ≤ 0 → b ≡ record { x = record { least = record { at = 0; count = 0 }; greatest = record { at = 0; count = 0 } }; y = record { least = record { at = 0; count = 0 }; greatest = record { at = 0; count = 0 } } } → b ≡ counted_over ps ks
unfolding counted_over edges_of times
box_none ps [] b h e = e
box_none ps (k ∷ ks) b h e = absurd (omega arith)
