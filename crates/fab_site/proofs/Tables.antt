-- The table of sites: two sites never share a place, and one more block goes in.
use Rattle.std.proofs.Common.{◌≡◌, ◌≢◌, ℕ, ◌+◌, ◌-◌, ◌*◌, ◌<◌, ◌≤◌, Bool, true, false, cond, eqb, ◌&&◌, ◌==◌, List, [], ◌∷◌, ◌++◌, Option, Some, None, length, set, take, suc, refl, sym, ap, ◌∙◌, inl, inr, ◌⊎◌, arith}
use Rattle.std.specs.Prelude.{nat_le, nat_lt, slice_index}
use Rattle.std.proofs.lemmas.Bool.{cases_Bool, cases_eq, and_parts, and_from, leb-true, eqb-true, eq-eqb, ne_eqb, ltb-true, false≢true}
use Rattle.std.proofs.lemmas.List.{get_or-set_same, get_or-set_other, length-set, take_more, take_all, length-take, get_or-take}
use Rattle.std.proofs.Math.Nat.{mul-le-mul_right}
use Rattle.fab_arch.specs.declared.array.Site.{Site}
use Rattle.fab_arch.specs.Grid.{GridShape, is_logic_site}
use Rattle.fab_net.specs.declared.netlist_types.BlockId.{BlockId}
use Rattle.fab_site.specs.Placement.{site_of, same_site, nowhere, at, at_from, AreApart}
use Rattle.fab_site.specs.Index.{place_of, pad_index, index_of, site_count, held, IsIndexed}
use Rattle.fab_site.proofs.Sites.{logic_bounds}

-- a row and a column of a table tell each other apart
rows_apart : (n a b c d : ℕ) → b < n → d < n → a * n + b ≡ c * n + d → a < c → ⊥
rows_apart n a b c d hb hd e lt =
    let more : (a + 1) * n ≤ c * n = mul-le-mul_right n (omega arith) in
    omega (arith, more)

one_place : (n a b c d : ℕ) → b < n → d < n → a * n + b ≡ c * n + d → (a ≡ c) × (b ≡ d)
one_place n a b c d hb hd e =
    elim (cases_eq a c) [
      | inl same ↦ (same, let f : a * n ≡ c * n = ap (λ v. v * n) same in omega (arith, f))
      | inr ne ↦ elim (order a c ne) [
        | inl lt ↦ absurd (rows_apart n a b c d hb hd e lt)
        | inr lt ↦ absurd (rows_apart n c d a b hd hb (sym e) lt)
      ]
    ]
  where
    order : (a c : ℕ) → a ≢ c → (a < c) ⊎ (c < a)
    order a c ne = first_of (search arith, omega arith, grind arith)

-- where a position number comes from
pub record IsPlace (nx ny x y p : ℕ) : Type 0 where
  pub below : p < ny + nx + ny + nx
  pub is : ((x ≡ 0) × (1 ≤ y) × (y ≤ ny) × (p ≡ y - 1)) ⊎ (((y ≡ ny + 1) × (1 ≤ x) × (x ≤ nx) × (p ≡ ny + (x - 1))) ⊎ (((x ≡ nx + 1) × (1 ≤ y) × (y ≤ ny) × (p ≡ ny + nx + (ny - y))) ⊎ ((y ≡ 0) × (1 ≤ x) × (x ≤ nx) × (p ≡ ny + nx + ny + (nx - x)))))

some_same : (a b : ℕ) → Some a ≡ Some b → a ≡ b
some_same a b h = cc

within_is : (n v : ℕ) → (nat_le 1 v && nat_le v n) ≡ true → (1 ≤ v) × (v ≤ n)
within_is n v h = let a = and_parts (nat_le 1 v) (nat_le v n) h in (leb-true 1 v a.0, leb-true v n a.1)

none_is_some : (p : ℕ) → None ≡ Some p → ⊥
none_is_some p h = cc

pub place_is : (nx ny x y p : ℕ) → place_of nx ny x y ≡ Some p → IsPlace nx ny x y p
place_is nx ny x y p h = elim (cases_Bool (nat_le 1 y && nat_le y ny)) [
  | inl rows ↦
      let w = within_is ny y rows in
      elim (cases_Bool (x == 0)) [
        | inl left ↦
            let e : y - 1 ≡ p = some_same (y - 1) p (rw (rows, left) at h) in
            record { below = omega (arith, w.0, w.1); is = inl (eqb-true x 0 left, w.0, w.1, sym e) }
        | inr not_left ↦ elim (cases_Bool (x == nx + 1)) [
          | inl right ↦
              let e : ny + nx + (ny - y) ≡ p = some_same _ p (rw (rows, not_left, right) at h) in
              record { below = omega (arith, w.0, w.1); is = inr (inr (inl (eqb-true x (nx + 1) right, w.0, w.1, sym e))) }
          | inr not_right ↦ absurd (none_is_some p (rw (rows, not_left, not_right) at h))
        ]
      ]
  | inr not_rows ↦ elim (cases_Bool (nat_le 1 x && nat_le x nx)) [
    | inl columns ↦
        let w = within_is nx x columns in
        elim (cases_Bool (y == ny + 1)) [
          | inl top ↦
              let e : ny + (x - 1) ≡ p = some_same _ p (rw (not_rows, columns, top) at h) in
              record { below = omega (arith, w.0, w.1); is = inr (inl (eqb-true y (ny + 1) top, w.0, w.1, sym e)) }
          | inr not_top ↦ elim (cases_Bool (y == 0)) [
            | inl bottom ↦
                let e : ny + nx + ny + (nx - x) ≡ p = some_same _ p (rw (not_rows, columns, not_top, bottom) at h) in
                record { below = omega (arith, w.0, w.1); is = inr (inr (inr (eqb-true y 0 bottom, w.0, w.1, sym e))) }
            | inr not_bottom ↦ absurd (none_is_some p (rw (not_rows, columns, not_top, not_bottom) at h))
          ]
        ]
    | inr not_columns ↦ absurd (none_is_some p (rw (not_rows, not_columns) at h))
  ]
]

-- two positions with one number are one
places_apart : (nx ny x y v w p : ℕ) → IsPlace nx ny x y p → IsPlace nx ny v w p → (x ≡ v) × (y ≡ w)
places_apart nx ny x y v w p a b = elim a.is [
  | inl k ↦ elim b.is [
    | inl m ↦ (omega (arith, k.0, m.0), omega (arith, k, m))
    | inr q ↦ elim q [
      | inl m ↦ absurd (omega (arith, k, m))
      | inr r ↦ elim r [ inl m ↦ absurd (omega (arith, k, m)) | inr m ↦ absurd (omega (arith, k, m)) ]
    ]
  ]
  | inr k' ↦ elim k' [
    | inl k ↦ elim b.is [
      | inl m ↦ absurd (omega (arith, k, m))
      | inr q ↦ elim q [
        | inl m ↦ (omega (arith, k, m), omega (arith, k, m))
        | inr r ↦ elim r [ inl m ↦ absurd (omega (arith, k, m)) | inr m ↦ absurd (omega (arith, k, m)) ]
      ]
    ]
    | inr k'' ↦ elim k'' [
      | inl k ↦ elim b.is [
        | inl m ↦ absurd (omega (arith, k, m))
        | inr q ↦ elim q [
          | inl m ↦ absurd (omega (arith, k, m))
          | inr r ↦ elim r [ inl m ↦ (omega (arith, k, m), omega (arith, k, m)) | inr m ↦ absurd (omega (arith, k, m)) ]
        ]
      ]
      | inr k ↦ elim b.is [
        | inl m ↦ absurd (omega (arith, k, m))
        | inr q ↦ elim q [
          | inl m ↦ absurd (omega (arith, k, m))
          | inr r ↦ elim r [ inl m ↦ absurd (omega (arith, k, m)) | inr m ↦ (omega (arith, k, m), omega (arith, k, m)) ]
        ]
      ]
    ]
  ]
]

-- where a place of the table comes from
pub record IsLogicIndex (g : GridShape) (s : Site) (i : ℕ) : Type 0 where
  pub logic : is_logic_site g s ≡ true
  pub is : i ≡ (s.y - 1) * g.nx + (s.x - 1)

pub record IsPadIndex (g : GridShape) (s : Site) (i : ℕ) : Type 0 where
  pub place : ℕ
  pub there : IsPlace g.nx g.ny s.x s.y place
  pub sub : s.sub < g.io_rat
  pub is : i ≡ g.nx * g.ny + (place * g.io_rat + s.sub)

pad_index_is : (g : GridShape) (s : Site) (i : ℕ) (o : Option ℕ) → place_of g.nx g.ny s.x s.y ≡ o → pad_index g s.sub o ≡ Some i → IsPadIndex g s i
pad_index_is g s i None e h = absurd (none_is_some i h)
pad_index_is g s i (Some p) e h = elim (cases_Bool (nat_lt s.sub g.io_rat)) [
  | inl y ↦ record { place = p; there = place_is g.nx g.ny s.x s.y p e; sub = ltb-true s.sub g.io_rat y; is = sym (some_same _ i (rw y at h)) }
  | inr n ↦ absurd (none_is_some i (rw n at h))
]

pub index_is : (g : GridShape) (s : Site) (i : ℕ) → index_of g s ≡ Some i → IsLogicIndex g s i ⊎ IsPadIndex g s i
unfolding index_of
index_is g s i h = elim (cases_Bool (is_logic_site g s)) [
  | inl y ↦ inl (record { logic = y; is = sym (some_same _ i (rw y at h)) })
  | inr n ↦ inr (pad_index_is g s i (place_of g.nx g.ny s.x s.y) refl (rw n at h))
]

pub logic_below : (g : GridShape) (s : Site) (i : ℕ) → IsLogicIndex g s i → i < g.nx * g.ny
logic_below g s i h =
    let b = logic_bounds g s h.logic in
    let room : (s.y - 1 + 1) * g.nx ≤ g.ny * g.nx = mul-le-mul_right g.nx (omega (arith, b.y_low, b.y_high)) in
    omega (arith, room, h.is, b.x_low, b.x_high)

pub index_below : (g : GridShape) (s : Site) (i : ℕ) → index_of g s ≡ Some i → i < site_count g
index_below g s i h = elim (index_is g s i h) [
  | inl k ↦ let l = logic_below g s i k in omega (arith, l)
  | inr k ↦
      let room : (k.place + 1) * g.io_rat ≤ (g.ny + g.nx + g.ny + g.nx) * g.io_rat = mul-le-mul_right g.io_rat (omega (arith, k.there.below)) in
      omega (arith, room, k.is, k.sub)
]

same_fields : (s t : Site) → s.x ≡ t.x → s.y ≡ t.y → s.sub ≡ t.sub → s ≡ t
same_fields s t x y z = let e : s ≡ record { x = s.x; y = s.y; sub = s.sub } = refl in e ∙ rw (x, y, z) refl

-- two sites with one place are one
pub index_apart : (g : GridShape) (s t : Site) (i : ℕ) → index_of g s ≡ Some i → index_of g t ≡ Some i → s ≡ t
index_apart g s t i h k = elim (index_is g s i h) [
  | inl a ↦ elim (index_is g t i k) [
    | inl b ↦
        let p = logic_bounds g s a.logic in
        let q = logic_bounds g t b.logic in
        let o = one_place g.nx (s.y - 1) (s.x - 1) (t.y - 1) (t.x - 1) (omega (arith, p.x_low, p.x_high)) (omega (arith, q.x_low, q.x_high)) (sym a.is ∙ b.is) in
        same_fields s t (omega (arith, o.1, p.x_low, q.x_low)) (omega (arith, o.0, p.y_low, q.y_low)) (p.sub ∙ sym q.sub)
    | inr b ↦ let l = logic_below g s i a in absurd (omega (arith, l, b.is))
  ]
  | inr a ↦ elim (index_is g t i k) [
    | inl b ↦ let l = logic_below g t i b in absurd (omega (arith, l, a.is))
    | inr b ↦
        let o = one_place g.io_rat a.place s.sub b.place t.sub a.sub b.sub (omega (arith, a.is, b.is)) in
        let r = places_apart g.nx g.ny s.x s.y t.x t.y a.place a.there (rw (sym o.0) at b.there) in
        same_fields s t r.0 r.1 o.1
  ]
]

-- the blocks of a list on a site, one block on

pub same_is : (a b : Site) → same_site a b ≡ true → a ≡ b
same_is a b h =
    let p = and_parts (a.x == b.x && a.y == b.y) (a.sub == b.sub) h in
    let q = and_parts (a.x == b.x) (a.y == b.y) p.0 in
    same_fields a b (eqb-true a.x b.x q.0) (eqb-true a.y b.y q.1) (eqb-true a.sub b.sub p.1)

pub itself : (a : Site) → same_site a a ≡ true
itself a = and_from _ _ (and_from _ _ (eq-eqb a.x a.x refl) (eq-eqb a.y a.y refl)) (eq-eqb a.sub a.sub refl)

at_push_other : (n : ℕ) (xs : List Site) (x s : Site) → same_site x s ≡ false → at_from n (xs ++ x ∷ []) s ≡ at_from n xs s
at_push_other n [] x s h = rw h refl
at_push_other n (y ∷ ys) x s h = ap (cond (same_site y s) (Some (record { 0 = n }))) (at_push_other (n + 1) ys x s h)

at_push_here : (n : ℕ) (xs : List Site) (x s : Site) → at_from n xs s ≡ None → same_site x s ≡ true → at_from n (xs ++ x ∷ []) s ≡ Some (record { 0 = n + length xs })
at_push_here n [] x s none h = let e : n + 0 ≡ n = omega arith in rw (h, e) refl
at_push_here n (y ∷ ys) x s none h = elim (cases_Bool (same_site y s)) [
  | inl k ↦ let e : Some (record { 0 = n }) ≡ None = rw k at none in absurd (no_some (record { 0 = n }) e)
  | inr k ↦ let e : n + 1 + length ys ≡ n + length (y ∷ ys) = omega arith in rw (k, ← e) (at_push_here (n + 1) ys x s (rw k at none) h)
]
  where
    no_some : (b : BlockId) → Some b ≡ None → ⊥
    no_some b h = cc

-- no block of a list stands on a site where none of its places is that site
pub none_there : (n : ℕ) (xs : List Site) (s : Site) → ((a : ℕ) → a < length xs → same_site (site_of xs a) s ≡ false) → at_from n xs s ≡ None
none_there n [] s h = refl
none_there n (x ∷ xs) s h = let k : same_site x s ≡ false = h 0 (omega arith) in rw k (none_there (n + 1) xs s (λ a lt. h (suc a) (omega arith)))

pub false_of : (b : Bool) → (b ≡ true → ⊥) → b ≡ false
false_of true h = absurd (h refl)
false_of false h = refl

-- what holds once the sites of the first blocks are in the table
pub record IsFilled (g : GridShape) (sites : List Site) (b : ℕ) (holders : List ℕ) : Type 0 where
  pub size : length holders ≡ site_count g
  pub each : (s : Site) → held holders (index_of g s) ≡ at (take b sites) s

pub held_zero : (holders : List ℕ) (o : Option ℕ) → ((i : ℕ) → slice_index holders i ≡ 0) → held holders o ≡ None
held_zero holders None h = refl
held_zero holders (Some i) h = let e = h i in rw e refl

pub filled_none : (g : GridShape) (sites : List Site) (holders : List ℕ) → length holders ≡ site_count g → ((i : ℕ) → slice_index holders i ≡ 0) → IsFilled g sites 0 holders
filled_none g sites holders n zeros = record { size = n; each = λ s. held_zero holders (index_of g s) zeros }

pub held_other : (holders : List ℕ) (i v : ℕ) (o : Option ℕ) → (o ≡ Some i → ⊥) → held (set holders i v) o ≡ held holders o
held_other holders i v None h = refl
held_other holders i v (Some j) h = let e : slice_index (set holders i v) j ≡ slice_index holders j = get_or-set_other holders i j v 0 (λ e. h (ap Some e)) in rw e refl

pub held_here : (holders : List ℕ) (i b : ℕ) → i < length holders → held (set holders i (b + 1)) (Some i) ≡ Some (record { 0 = b })
held_here holders i b lt =
    let e : slice_index (set holders i (b + 1)) i ≡ b + 1 = get_or-set_same holders i (b + 1) 0 lt in
    let z : eqb (b + 1) 0 ≡ false = ne_eqb (b + 1) 0 (λ k. omega (arith, k)) in
    let m : b + 1 - 1 ≡ b = omega arith in
    rw (e, z, m) refl

-- one more block goes into the table
pub filled_step : (g : GridShape) (sites : List Site) (b : ℕ) (holders : List ℕ) (i : ℕ) → b < length sites → AreApart sites → index_of g (site_of sites b) ≡ Some i → IsFilled g sites b holders → IsFilled g sites (b + 1) (set holders i (b + 1))
filled_step g sites b holders i lt apart at_i f = record { size = length-set holders i (b + 1) ∙ f.size; each = each }
  where
    each : (s : Site) → held (set holders i (b + 1)) (index_of g s) ≡ at (take (b + 1) sites) s
    each s =
        let more : take (b + 1) sites ≡ take b sites ++ site_of sites b ∷ [] = take_more sites b nowhere lt in
        let below = index_below g (site_of sites b) i at_i in
        elim (cases_Bool (same_site (site_of sites b) s)) [
          | inl y ↦
              let same : site_of sites b ≡ s = same_is (site_of sites b) s y in
              let there : index_of g s ≡ Some i = ap (index_of g) (sym same) ∙ at_i in
              let none : at (take b sites) s ≡ None = none_there 0 (take b sites) s (λ a k. before a k (sym same)) in
              let long : 0 + length (take b sites) ≡ b = omega (arith, length-take b sites) in
              rw (there, more) (held_here holders i b (omega (arith, below, f.size)) ∙ sym (at_push_here 0 (take b sites) (site_of sites b) s none y ∙ ap (λ n. Some (record { 0 = n })) long))
          | inr n ↦
              let away : index_of g s ≡ Some i → ⊥ = λ e. false≢true (sym n ∙ ap (λ t. same_site (site_of sites b) t) (index_apart g s (site_of sites b) i e at_i) ∙ itself (site_of sites b)) in
              rw more (held_other holders i (b + 1) (index_of g s) away ∙ f.each s ∙ sym (at_push_other 0 (take b sites) (site_of sites b) s n))
        ]
      where
        before : (a : ℕ) → a < length (take b sites) → s ≡ site_of sites b → same_site (site_of (take b sites) a) s ≡ false
        before a k is =
            let l = length-take b sites in
            let low : a < b = omega (arith, k, l) in
            let e : site_of (take b sites) a ≡ site_of sites a = get_or-take b sites a nowhere low in
            false_of (same_site (site_of (take b sites) a) s) (λ t.
            let m : a ≡ b = apart a b (omega (arith, low, lt)) lt (sym e ∙ same_is (site_of (take b sites) a) s t ∙ is) in
            omega (arith, m, low))

pub filled_all : (g : GridShape) (sites : List Site) (b : ℕ) (holders : List ℕ) → length sites ≤ b → length sites ≤ 65535 → AreApart sites → IsFilled g sites b holders → IsIndexed g sites holders
filled_all g sites b holders le few apart f =
    let all : take b sites ≡ sites = take_all b sites le in
    record { size = f.size; few = few; each = λ s. f.each s ∙ ap (λ xs. at xs s) all; apart = apart }
