-- The least of vectors as the box of a net, and what the nets of a block cost by their records.
use Rattle.std.proofs.Common.{◌≡◌, ◌≢◌, ℕ, zero, suc, ◌+◌, ◌-◌, ◌*◌, ◌<◌, ◌≤◌, min, cond, eqb, not, ◌&&◌, true, List, [], ◌∷◌, map, length, get_or, set, refl, sym, ap, ◌∙◌, arith, inl, inr, get_or-set_other, get_or-set_same}
use Rattle.std.specs.List.{sum_by}
use Rattle.std.proofs.lemmas.Bool.{and_parts, cases_eq, cases_lt, false≢true, ne_eqb, eq-eqb}
use Rattle.std.proofs.lemmas.List.{get_or-map, get_or_past, length-map}
use Rattle.std.proofs.lemmas.List.Sums.{sum_by-cons}
use Rattle.std.proofs.lemmas.Simd.{map-map}
use lib.Lanes.{fold_l, sum_l}
use Rattle.fab_arch.specs.declared.array.Site.{Site}
use Rattle.fab_arch.specs.Grid.{GridShape}
use Rattle.fab_net.specs.Netlist.{Netlist, has_number, IsLawful}
use Rattle.fab_site.specs.Placement.{nowhere, site_of}
use Rattle.fab_cost.specs.Cost.{clip, least, greatest, least_with, greatest_with, box_on, half_perimeter, net_box, net_cost}
use Rattle.fab_cost.specs.Swapping.{blocks_of}
use Rattle.fab_cost.specs.Runs.{four, no_lanes, lanes_at, lanes_in, least_of, least_among, table_of, seen_in, weight, IsRecord, AreRecords}
use Rattle.fab_cost.specs.declared.records.Record.{Record}
use Rattle.fab_cost.proofs.Bounds.{AreSides}
use Rattle.fab_cost.proofs.Numbers.{has_first, has_later, has_apart, has_none, absent_from_each}

-- the least of some numbers, and where there are none the far end
abbrev pub lowest : List ℕ → ℕ
lowest [] = 65535
lowest (x ∷ xs) = min x (lowest xs)

low_top : (xs : List ℕ) → lowest xs ≤ 65535
low_top [] = omega arith
low_top (x ∷ xs) = omega (arith, low_top xs)

low_le : (h : ℕ → ℕ) (k : ℕ) (ks : List ℕ) → has_number k ks ≡ true → lowest (map h ks) ≤ h k
low_le h k [] e = absurd (false≢true (sym (has_none k) ∙ e))
low_le h k (c ∷ ks) e = elim (cases_eq c k) [
  | inl q ↦ let v : h c ≡ h k = ap h q in omega (arith, v)
  | inr ne ↦ omega (arith, low_le h k ks (sym (has_apart k c ks ne) ∙ e))
]

low_bound : (v : ℕ) (h : ℕ → ℕ) (ks : List ℕ) → v ≤ 65535 → ((k : ℕ) → has_number k ks ≡ true → v ≤ h k) → v ≤ lowest (map h ks)
low_bound v h [] top each = top
low_bound v h (c ∷ ks) top each = omega (arith, each c (has_first c ks), low_bound v h ks top (λ k e. each k (has_later k c ks e)))

-- a coordinate of the site with a number, or the far end past the last
abbrev pub or_far : (Site → ℕ) → List Site → ℕ → ℕ
or_far h sites k = get_or (map h sites) k 65535

pub far_within : (h : Site → ℕ) (sites : List Site) (k : ℕ) → k < length sites → or_far h sites k ≡ h (site_of sites k)
far_within h sites k l = get_or-map h sites k nowhere 65535 l

far_past : (h : Site → ℕ) (sites : List Site) (k : ℕ) → length sites ≤ k → or_far h sites k ≡ 65535
far_past h sites k l = get_or_past (map h sites) k 65535 (omega (arith, length-map sites h))

-- the net's blocks, where one of them stands at a site: the others, and it
lane_is : (h : Site → ℕ) → ((s : Site) → h s ≤ 65535) → (sites : List Site) (b : ℕ) (s : Site) (bs os : List ℕ) → b < length sites → has_number b bs ≡ true
    → ((k : ℕ) → k < length sites → has_number k os ≡ (has_number k bs && not (eqb k b))) → ((k : ℕ) → has_number k bs ≡ true → k < length sites)
    → min (lowest (map (or_far h sites) os)) (h s) ≡ lowest (map (λ k. h (site_of (set sites b s) k)) bs)
lane_is h top sites b s bs os lb on each within =
    let at : ℕ → ℕ = λ k. h (site_of (set sites b s) k) in
    let here : at b ≡ h s = ap h (get_or-set_same sites b s nowhere lb) in
    let t = top s in
    let one : min (lowest (map (or_far h sites) os)) (h s) ≤ lowest (map at bs) =
    low_bound (min (lowest (map (or_far h sites) os)) (h s)) at bs (omega arith) (λ k e. elim (cases_eq k b) [
      | inl q ↦ let v : at k ≡ at b = ap at q in omega (arith, v, here)
      | inr ne ↦
          let w = within k e in
          let v : at k ≡ h (site_of sites k) = ap h (get_or-set_other sites b k s nowhere ne) in
          let u : has_number k os ≡ true = each k w ∙ (λ i. e i && not (eqb k b)) ∙ ap not (ne_eqb k b ne) in
          omega (arith, v, far_within h sites k w, low_le (or_far h sites) k os u)
    ]) in
    let two : lowest (map at bs) ≤ lowest (map (or_far h sites) os) =
    low_bound (lowest (map at bs)) (or_far h sites) os (low_top (map at bs)) (λ k e. elim (cases_lt k (length sites)) [
      | inl l ↦
          let p = and_parts (has_number k bs) (not (eqb k b)) (sym (each k l) ∙ e) in
          let ne : k ≢ b = λ q. false≢true (sym (ap not (eq-eqb k b q)) ∙ p.1) in
          let v : at k ≡ h (site_of sites k) = ap h (get_or-set_other sites b k s nowhere ne) in
          omega (arith, v, far_within h sites k l, low_le at k bs p.0)
      | inr l ↦ omega (arith, far_past h sites k (omega arith), low_top (map at bs))
    ]) in
    omega (arith, one, two, low_le at b bs on, here)

-- how far a box reaches along one axis, by the least distances from both ends

pub least_low : (x : ℕ) (f : ℕ → ℕ) (ks : List ℕ) → x ≤ 65535 → least_with x (map f ks) ≡ min x (lowest (map f ks))
least_low x f [] h = omega arith
least_low x f (k ∷ ks) h = omega (arith, least_low x f ks h)

pub greatest_low : (x : ℕ) (f : ℕ → ℕ) (ks : List ℕ) → x ≤ 1000 → ((k : ℕ) → f k ≤ 1000) → greatest_with x (map f ks) + min (1001 - x) (lowest (map (λ k. 1001 - f k) ks)) ≡ 1001
greatest_low x f [] h few = omega arith
greatest_low x f (k ∷ ks) h few = omega (arith, few k, greatest_low x f ks h few)

span_is : (f : ℕ → ℕ) (ks : List ℕ) → 0 < length ks → ((k : ℕ) → f k ≤ 1000) → (greatest (map f ks) - least (map f ks) + 1) + (lowest (map f ks) + lowest (map (λ k. 1001 - f k) ks)) ≡ 1002
span_is f [] some few = absurd (omega arith)
span_is f (k ∷ ks) some few = let w = few k in omega (arith, w, least_low (f k) f ks (omega arith), greatest_low (f k) f ks w few)

pub clip_le : (n at : ℕ) → 1 ≤ n → n ≤ 1000 → clip n at ≤ 1000
unfolding clip
clip_le n at h k = omega arith

-- the vectors of sites, lane by lane

pub lanes_four : (g : GridShape) (sites : List Site) (k : ℕ) → lanes_in g sites k ≡ four (or_far (λ (s : Site). clip g.nx s.x) sites k) (or_far (λ (s : Site). 1001 - clip g.nx s.x) sites k) (or_far (λ (s : Site). clip g.ny s.y) sites k) (or_far (λ (s : Site). 1001 - clip g.ny s.y) sites k)
lanes_four g [] k = refl
lanes_four g (s ∷ sites) zero = refl
lanes_four g (s ∷ sites) (suc k) = lanes_four g sites k

fold_four : (f : ℕ → List ℕ) (a b c e : ℕ → ℕ) → ((k : ℕ) → f k ≡ four (a k) (b k) (c k) (e k)) → (ks : List ℕ) (p q r s : ℕ) → p ≤ 65535 → q ≤ 65535 → r ≤ 65535 → s ≤ 65535
    → fold_l (λ v k. least_of v (f k)) (four p q r s) ks ≡ four (min p (lowest (map a ks))) (min q (lowest (map b ks))) (min r (lowest (map c ks))) (min s (lowest (map e ks)))
fold_four f a b c e is [] p q r s hp hq hr hs =
    let ep : p ≡ min p 65535 = omega arith in
    let eq : q ≡ min q 65535 = omega arith in
    let er : r ≡ min r 65535 = omega arith in
    let es : s ≡ min s 65535 = omega arith in
    λ i. four (ep i) (eq i) (er i) (es i)
fold_four f a b c e is (k ∷ ks) p q r s hp hq hr hs =
    let step : least_of (four p q r s) (f k) ≡ four (min p (a k)) (min q (b k)) (min r (c k)) (min s (e k)) = ap (least_of (four p q r s)) (is k) in
    let rest = fold_four f a b c e is ks (min p (a k)) (min q (b k)) (min r (c k)) (min s (e k)) (omega arith) (omega arith) (omega arith) (omega arith) in
    let ep : min (min p (a k)) (lowest (map a ks)) ≡ min p (min (a k) (lowest (map a ks))) = omega arith in
    let eq : min (min q (b k)) (lowest (map b ks)) ≡ min q (min (b k) (lowest (map b ks))) = omega arith in
    let er : min (min r (c k)) (lowest (map c ks)) ≡ min r (min (c k) (lowest (map c ks))) = omega arith in
    let es : min (min s (e k)) (lowest (map e ks)) ≡ min s (min (e k) (lowest (map e ks))) = omega arith in
    ap (λ v. fold_l (λ v k. least_of v (f k)) v ks) step ∙ rest ∙ (λ i. four (ep i) (eq i) (er i) (es i))

pub among_four : (f : ℕ → List ℕ) (a b c e : ℕ → ℕ) → ((k : ℕ) → f k ≡ four (a k) (b k) (c k) (e k)) → (ks : List ℕ) → least_among f ks ≡ four (lowest (map a ks)) (lowest (map b ks)) (lowest (map c ks)) (lowest (map e ks))
among_four f a b c e is ks =
    let ea : min 65535 (lowest (map a ks)) ≡ lowest (map a ks) = omega (arith, low_top (map a ks)) in
    let eb : min 65535 (lowest (map b ks)) ≡ lowest (map b ks) = omega (arith, low_top (map b ks)) in
    let ec : min 65535 (lowest (map c ks)) ≡ lowest (map c ks) = omega (arith, low_top (map c ks)) in
    let ee : min 65535 (lowest (map e ks)) ≡ lowest (map e ks) = omega (arith, low_top (map e ks)) in
    fold_four f a b c e is ks 65535 65535 65535 65535 (omega arith) (omega arith) (omega arith) (omega arith) ∙ (λ i. four (ea i) (eb i) (ec i) (ee i))

-- the half perimeter of a net's box, and the lanes of its least vector, make 2004

pub half_is : (g : GridShape) (sites : List Site) (b : ℕ) (s : Site) (bs os : List ℕ) → AreSides g → b < length sites → has_number b bs ≡ true → 0 < length bs
    → ((k : ℕ) → k < length sites → has_number k os ≡ (has_number k bs && not (eqb k b))) → ((k : ℕ) → has_number k bs ≡ true → k < length sites)
    → half_perimeter (box_on g (map (site_of (set sites b s)) bs)) + sum_l (least_of (least_among (lanes_in g sites) os) (lanes_at g s)) ≡ 2004
unfolding half_perimeter box_on
half_is g sites b s bs os sides lb on some each within =
    let xf : Site → ℕ = λ (t : Site). clip g.nx t.x in
    let yf : Site → ℕ = λ (t : Site). clip g.ny t.y in
    let xg : Site → ℕ = λ (t : Site). 1001 - clip g.nx t.x in
    let yg : Site → ℕ = λ (t : Site). 1001 - clip g.ny t.y in
    let cx : (t : Site) → xf t ≤ 1000 = λ t. clip_le g.nx t.x sides.columns.0 sides.columns.1 in
    let cy : (t : Site) → yf t ≤ 1000 = λ t. clip_le g.ny t.y sides.rows.0 sides.rows.1 in
    let at : ℕ → Site = site_of (set sites b s) in
    let x0 = lane_is xf (λ t. let v = cx t in omega arith) sites b s bs os lb on each within in
    let x1 = lane_is xg (λ t. omega arith) sites b s bs os lb on each within in
    let y0 = lane_is yf (λ t. let v = cy t in omega arith) sites b s bs os lb on each within in
    let y1 = lane_is yg (λ t. omega arith) sites b s bs os lb on each within in
    let v : sum_l (least_of (least_among (lanes_in g sites) os) (lanes_at g s)) ≡ sum_l (least_of (four (lowest (map (or_far xf sites) os)) (lowest (map (or_far xg sites) os)) (lowest (map (or_far yf sites) os)) (lowest (map (or_far yg sites) os))) (lanes_at g s)) =
    ap (λ w. sum_l (least_of w (lanes_at g s))) (among_four (lanes_in g sites) (or_far xf sites) (or_far xg sites) (or_far yf sites) (or_far yg sites) (lanes_four g sites) os) in
    let ex : map xf (map at bs) ≡ map (λ k. xf (at k)) bs = map-map xf at bs in
    let ey : map yf (map at bs) ≡ map (λ k. yf (at k)) bs = map-map yf at bs in
    let hx : greatest (map xf (map at bs)) - least (map xf (map at bs)) + 1 ≡ greatest (map (λ k. xf (at k)) bs) - least (map (λ k. xf (at k)) bs) + 1 = ap (λ w. greatest w - least w + 1) ex in
    let hy : greatest (map yf (map at bs)) - least (map yf (map at bs)) + 1 ≡ greatest (map (λ k. yf (at k)) bs) - least (map (λ k. yf (at k)) bs) + 1 = ap (λ w. greatest w - least w + 1) ey in
    let sx = span_is (λ k. xf (at k)) bs some (λ k. cx (at k)) in
    let sy = span_is (λ k. yf (at k)) bs some (λ k. cy (at k)) in
    omega (arith, v, x0, x1, y0, y1, hx, hy, sx, sy)

-- what is seen in the table of a placement, where a block is seen at another place

map_set : (h : Site → List ℕ) (sites : List Site) (a : ℕ) (s : Site) → map h (set sites a s) ≡ set (map h sites) a (h s)
map_set h [] a s = refl
map_set h (t ∷ sites) zero s = refl
map_set h (t ∷ sites) (suc a) s = ap (λ v. h t ∷ v) (map_set h sites a s)

pub in_table : (g : GridShape) (sites : List Site) (k : ℕ) → get_or (table_of g sites) k no_lanes ≡ lanes_in g sites k
in_table g [] zero = refl
in_table g [] (suc k) = refl
in_table g (s ∷ sites) zero = refl
in_table g (s ∷ sites) (suc k) = in_table g sites k

pub seen_is : (g : GridShape) (sites : List Site) (a : ℕ) (s : Site) (k : ℕ) → a < length sites → seen_in (table_of g sites) a (lanes_at g s) k ≡ lanes_in g (set sites a s) k
seen_is g sites a s k l = elim (cases_eq k a) [
  | inl q ↦
      (λ i. cond (eq-eqb k a q i) (lanes_at g s) (get_or (table_of g sites) k no_lanes))
      ∙ sym (ap (λ v. get_or (map (lanes_at g) (set sites a s)) v no_lanes) q ∙ ap (λ v. get_or v a no_lanes) (map_set (lanes_at g) sites a s) ∙ get_or-set_same (map (lanes_at g) sites) a (lanes_at g s) no_lanes (omega (arith, l, length-map sites (lanes_at g))))
  | inr ne ↦
      (λ i. cond (ne_eqb k a ne i) (lanes_at g s) (get_or (table_of g sites) k no_lanes)) ∙ in_table g sites k
      ∙ sym (ap (λ v. get_or v k no_lanes) (map_set (lanes_at g) sites a s) ∙ get_or-set_other (map (lanes_at g) sites) a k (lanes_at g s) no_lanes ne)
]

-- where the block at another place is none of the table's
pub unseen : (g : GridShape) (sites : List Site) (a k : ℕ) → length sites ≤ a → seen_in (table_of g sites) a no_lanes k ≡ lanes_in g sites k
unseen g sites a k far = elim (cases_eq k a) [
  | inl q ↦ (λ i. cond (eq-eqb k a q i) no_lanes (get_or (table_of g sites) k no_lanes)) ∙ sym (ap (λ v. get_or (map (lanes_at g) sites) v no_lanes) q ∙ get_or_past (map (lanes_at g) sites) a no_lanes (omega (arith, far, length-map sites (lanes_at g))))
  | inr ne ↦ (λ i. cond (ne_eqb k a ne i) no_lanes (get_or (table_of g sites) k no_lanes)) ∙ in_table g sites k
]

mul_distrib : (q a b : ℕ) → q * (a + b) ≡ q * a + q * b
mul_distrib q a b = omega arith

-- one net

blocks_within : (d : Netlist) (n k : ℕ) → IsLawful d → has_number k (blocks_of d n) ≡ true → k < length d.kinds
blocks_within d n k is e = elim (cases_lt k (length d.kinds)) [
  | inl l ↦ l
  | inr ge ↦ absurd (false≢true (sym (absent_from_each k (blocks_of d n) (λ i h q. let w = is.within n i h in omega (arith, w, q, ge))) ∙ e))
]

net_weight : (d : Netlist) (g : GridShape) (sites : List Site) (b : ℕ) (s : Site) (n : ℕ) (os : List ℕ) (q : ℕ) → IsRecord d b n os q → IsLawful d → AreSides g → length d.kinds ≡ length sites → b < length sites
    → net_cost d g (set sites b s) n + q * sum_l (least_of (least_among (lanes_in g sites) os) (lanes_at g s)) ≡ q * 2004
unfolding net_cost net_box
net_weight d g sites b s n os q is lawful sides w lb =
    let half = half_perimeter (box_on g (map (site_of (set sites b s)) (blocks_of d n))) in
    let sum = sum_l (least_of (least_among (lanes_in g sites) os) (lanes_at g s)) in
    let h : half + sum ≡ 2004 = half_is g sites b s (blocks_of d n) os sides lb is.on (lawful.some_terminal n is.counts.within)
    (λ k l. is.each k (omega (arith, l, w))) (λ k e. let v = blocks_within d n k lawful e in omega (arith, v, w)) in
    ap (λ v. v * half + q * sum) (sym is.factor) ∙ sym (mul_distrib q half sum) ∙ ap (λ v. q * v) h

-- the nets of some records

records_rest : {W : ℕ} (d : Netlist) (b n : ℕ) (ns : List ℕ) (r : Record W) (rs : List (Record W)) → AreRecords d b (n ∷ ns) (r ∷ rs) → AreRecords d b ns rs
records_rest d b n ns r rs are = record {
  long = (let l = are.long in omega (arith, l));
  each = λ i z h. are.each (suc i) z (omega (arith, h));
}

row_weight : {W : ℕ} (d : Netlist) (g : GridShape) (sites : List Site) (b : ℕ) (s : Site) → IsLawful d → AreSides g → length d.kinds ≡ length sites → b < length sites
    → (ns : List ℕ) (rs : List (Record W)) → AreRecords d b ns rs → sum_by (net_cost d g (set sites b s)) ns + sum_by (weight (lanes_in g sites) (lanes_at g s)) rs ≡ sum_by (λ (r : Record W). r.factor * 2004) rs
row_weight d g sites b s lawful sides w lb [] [] are = refl
row_weight d g sites b s lawful sides w lb [] (r ∷ rs) are = absurd (let l = are.long in omega (arith, l))
row_weight d g sites b s lawful sides w lb (n ∷ ns) [] are = absurd (let l = are.long in omega (arith, l))
row_weight {W = W} d g sites b s lawful sides w lb (n ∷ ns) (r ∷ rs) are =
    let one = net_weight d g sites b s n r.others r.factor (are.each 0 r (omega arith)) lawful sides w lb in
    let rest = row_weight {W = W} d g sites b s lawful sides w lb ns rs (records_rest {W = W} d b n ns r rs are) in
    let f : Record W → ℕ = weight (lanes_in g sites) (lanes_at g s) in
    let h : Record W → ℕ = λ (r : Record W). r.factor * 2004 in
    let a = sum_by-cons (net_cost d g (set sites b s)) n ns in
    let c = sum_by-cons f r rs in
    let e = sum_by-cons h r rs in
    omega (arith, one, rest, a, c, e)

pub run_step : {W : ℕ} (d : Netlist) (g : GridShape) (sites : List Site) (b : ℕ) (s t : Site) → IsLawful d → AreSides g → length d.kinds ≡ length sites → b < length sites
    → (ns : List ℕ) (rs : List (Record W)) → AreRecords d b ns rs → (f : ℕ → List ℕ) → f ≡ lanes_in g sites → (gained lost : ℕ) → gained ≡ sum_by (weight f (lanes_at g s)) rs → lost ≡ sum_by (weight f (lanes_at g t)) rs
    → sum_by (net_cost d g (set sites b t)) ns + lost ≡ sum_by (net_cost d g (set sites b s)) ns + gained
run_step {W = W} d g sites b s t lawful sides w lb ns rs are f ef gained lost eg el =
    let x = row_weight {W = W} d g sites b s lawful sides w lb ns rs are in
    let y = row_weight {W = W} d g sites b t lawful sides w lb ns rs are in
    let p = eg ∙ ap (λ v. sum_by (weight {W = W} v (lanes_at g s)) rs) ef in
    let q = el ∙ ap (λ v. sum_by (weight {W = W} v (lanes_at g t)) rs) ef in
    omega (arith, x, y, p, q)
