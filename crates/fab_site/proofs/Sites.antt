-- What it takes to be a site.
use Rattle.std.proofs.Common.{◌≡◌, ℕ, ◌+◌, ◌≤◌, true, ◌&&◌, ◌||◌, ◌==◌, Option, Some, None, refl, sym, ◌∙◌, inl, inr, arith}
use Rattle.std.specs.Prelude.{nat_le, nat_lt, is_some}
use Rattle.std.specs.List.{list_any}
use Rattle.std.proofs.lemmas.Bool.{cases_Bool, and_parts, and_from, leb-true, eqb-true, false≢true}
use Rattle.std.proofs.lemmas.Bool.Decides.{nat_tests}
use Rattle.fab_arch.specs.declared.array.Site.{Site}
use Rattle.fab_arch.specs.declared.array.SiteKind.{SiteKind}
use Rattle.fab_arch.specs.Grid.{GridShape, perimeter, is_position, is_logic_site, is_pad_site, kind_at}
use Rattle.fab_arch.proofs.Perimeter.{round_is}
use Rattle.fab_site.specs.Index.{place_of, pad_index, index_of}

pub record LogicBounds (g : GridShape) (s : Site) : Type 0 where
  pub x_low : 1 ≤ s.x
  pub x_high : s.x ≤ g.nx
  pub y_low : 1 ≤ s.y
  pub y_high : s.y ≤ g.ny
  pub sub : s.sub ≡ 0

pub logic_bounds : (g : GridShape) (s : Site) → is_logic_site g s ≡ true → LogicBounds g s
logic_bounds g s h =
    let a = and_parts (nat_le 1 s.x && nat_le s.x g.nx && (nat_le 1 s.y && nat_le s.y g.ny)) (s.sub == 0) h in
    let b = and_parts (nat_le 1 s.x && nat_le s.x g.nx) (nat_le 1 s.y && nat_le s.y g.ny) a.0 in
    let x = and_parts (nat_le 1 s.x) (nat_le s.x g.nx) b.0 in
    let y = and_parts (nat_le 1 s.y) (nat_le s.y g.ny) b.1 in
    record { x_low = leb-true 1 s.x x.0; x_high = leb-true s.x g.nx x.1; y_low = leb-true 1 s.y y.0; y_high = leb-true s.y g.ny y.1; sub = eqb-true s.sub 0 a.1 }

-- a position round the array has a number
place_there : (nx ny x y : ℕ) → (((nat_le 1 y && nat_le y ny) && (x == 0 || x == nx + 1)) || ((nat_le 1 x && nat_le x nx) && (y == 0 || y == ny + 1))) ≡ true → is_some (place_of nx ny x y) ≡ true
place_there nx ny x y h = grind (arith, nat_tests)

pad_there : (g : GridShape) (sub : ℕ) (place : Option ℕ) → is_some place ≡ true → nat_lt sub g.io_rat ≡ true → is_some (pad_index g sub place) ≡ true
pad_there g sub None h k = absurd (false≢true h)
pad_there g sub (Some p) h k = rw k refl

-- each site of the array has a place in the table
pub index_there : (g : GridShape) (s : Site) → is_some (kind_at g s) ≡ true → is_some (index_of g s) ≡ true
unfolding index_of
index_there g s h = elim (cases_Bool (is_logic_site g s)) [
  | inl y ↦ rw y refl
  | inr n ↦ elim (cases_Bool (is_pad_site g s)) [
    | inl y ↦
        let p = and_parts (list_any (is_position s) (perimeter g)) (nat_lt s.sub g.io_rat) y in
        let round = sym (round_is g.nx g.ny g.io_rat s) ∙ p.0 in
        rw n (pad_there g s.sub (place_of g.nx g.ny s.x s.y) (place_there g.nx g.ny s.x s.y round) p.1)
    | inr m ↦ let e : is_some {T = SiteKind} None ≡ true = rw (n, m) at h in absurd (false≢true e)
  ]
]

-- the number of a place in the table comes from a site of the array

pad_from : (g : GridShape) (sub : ℕ) (place : Option ℕ) → is_some (pad_index g sub place) ≡ true → (is_some place ≡ true) × (nat_lt sub g.io_rat ≡ true)
pad_from g sub None h = absurd (false≢true h)
pad_from g sub (Some p) h = elim (cases_Bool (nat_lt sub g.io_rat)) [
  | inl y ↦ (refl, y)
  | inr n ↦ let e : is_some {T = ℕ} None ≡ true = rw n at h in absurd (false≢true e)
]

place_from : (nx ny x y : ℕ) → is_some (place_of nx ny x y) ≡ true → (((nat_le 1 y && nat_le y ny) && (x == 0 || x == nx + 1)) || ((nat_le 1 x && nat_le x nx) && (y == 0 || y == ny + 1))) ≡ true
place_from nx ny x y h = grind (arith, nat_tests)

pub site_from : (g : GridShape) (s : Site) → is_some (index_of g s) ≡ true → is_some (kind_at g s) ≡ true
unfolding index_of
site_from g s h = elim (cases_Bool (is_logic_site g s)) [
  | inl y ↦ rw y refl
  | inr n ↦
      let p : is_some (pad_index g s.sub (place_of g.nx g.ny s.x s.y)) ≡ true = rw n at h in
      let parts = pad_from g s.sub (place_of g.nx g.ny s.x s.y) p in
      let round = round_is g.nx g.ny g.io_rat s ∙ place_from g.nx g.ny s.x s.y parts.0 in
      let pad : is_pad_site g s ≡ true = and_from (list_any (is_position s) (perimeter g)) (nat_lt s.sub g.io_rat) round parts.1 in
      rw (n, pad) refl
]
