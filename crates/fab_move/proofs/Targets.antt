-- A target is a site of the block's kind.
use Rattle.std.proofs.Common.{◌≡◌, ℕ, ◌+◌, ◌/◌, ◌<◌, ◌≤◌, Bool, true, false, cond, ◌&&◌, ◌||◌, ◌==◌, List, [], ◌∷◌, length, get_or, Some, zero, suc, slice_get, refl, sym, ap, ◌∙◌, inl, inr, arith}
use Rattle.std.specs.Prelude.{nat_le, nat_lt}
use Rattle.std.specs.List.{list_any, filter, All, AllByRecursion}
use Rattle.std.proofs.lemmas.Bool.{and_parts, and_from, or_cases, or_left, or_right, le-leb, lt-ltb, eqb-true, eq-eqb, false≢true}
use Rattle.std.proofs.lemmas.List.Elements.{All-filter, All-from_recursion}
use Rattle.fab_arch.specs.declared.array.Site.{Site}
use Rattle.fab_arch.specs.declared.array.SiteKind.TheVariants as site_kind
use Rattle.fab_arch.specs.Grid.{GridShape, perimeter, is_logic_site, is_position, is_pad_site, kind_at}
use Rattle.fab_arch.proofs.Perimeter.{round_is}
use Rattle.std.proofs.lemmas.Bool.Decides.{nat_tests}
use Rattle.fab_net.specs.declared.netlist_types.BlockKind.{BlockKind}
use Rattle.fab_net.specs.declared.netlist_types.BlockKind.TheVariants.{Logic}
use Rattle.fab_net.specs.Netlist.{Netlist, is_logic, is_logic_at}
use Rattle.fab_site.specs.Placement.{Fits, kind_wanted, site}
use Rattle.fab_move.specs.Propose.{logic_target, within, near_positions, pad_target, target}

nonempty_at : {X : Type 0} (p t : X → Bool) (x : X) (xs : List X) → (t x || list_any t xs) ≡ true → (t x ≡ true → p x ≡ true) → (list_any t xs ≡ true → 0 < length (filter p xs)) → (b : Bool) → p x ≡ b → 0 < length (cond b (x ∷ filter p xs) (filter p xs))
nonempty_at p t x xs h only rest true e = omega arith
nonempty_at p t x xs h only rest false e =
    elim (or_cases (t x) (list_any t xs) h) [
      | inl q ↦ absurd (false≢true (sym e ∙ only q))
      | inr q ↦ rest q
    ]

-- where some element passes t, and what passes t passes p, the filter by p keeps one
nonempty : {X : Type 0} (p t : X → Bool) (xs : List X) → ((x : X) → t x ≡ true → p x ≡ true) → list_any t xs ≡ true → 0 < length (filter p xs)
nonempty p t [] only h = absurd (false≢true h)
nonempty p t (x ∷ xs) only h = nonempty_at p t x xs h (only x) (nonempty p t xs only) (p x) refl

abbrev same_position : (ℕ × ℕ) → (ℕ × ℕ) → Bool
same_position e at = at.0 == e.0 && at.1 == e.1

each_there : (all xs : List (ℕ × ℕ)) → ((e : ℕ × ℕ) → list_any (same_position e) xs ≡ true → list_any (same_position e) all ≡ true) → AllByRecursion (λ (e : ℕ × ℕ). list_any (same_position e) all ≡ true) xs
each_there all [] h = tt
each_there all (x ∷ xs) h = (
  h x (or_left _ (list_any (same_position x) xs) (and_from _ _ (eq-eqb x.0 x.0 refl) (eq-eqb x.1 x.1 refl))),
  each_there all xs (λ e k. h e (or_right (same_position e x) (list_any (same_position e) xs) k)),
)

own_is_near : (from : Site) (reach : ℕ) (at : ℕ × ℕ) → is_position from at ≡ true → (within reach from.x at.0 && within reach from.y at.1) ≡ true
own_is_near from reach at h =
    let p = and_parts (at.0 == from.x) (at.1 == from.y) h in
    let x : at.0 ≡ from.x = eqb-true at.0 from.x p.0 in
    let y : at.1 ≡ from.y = eqb-true at.1 from.y p.1 in
    and_from (within reach from.x at.0) (within reach from.y at.1)
    (and_from _ _ (le-leb from.x (at.0 + reach) (omega (arith, x))) (le-leb at.0 (from.x + reach) (omega (arith, x))))
    (and_from _ _ (le-leb from.y (at.1 + reach) (omega (arith, y))) (le-leb at.1 (from.y + reach) (omega (arith, y))))

-- a pad's own position is near it
pub some_near : (g : GridShape) (from : Site) (reach : ℕ) → is_pad_site g from ≡ true → 0 < length (near_positions g from reach)
some_near g from reach h =
    let parts = and_parts (list_any (is_position from) (perimeter g)) (nat_lt from.sub g.io_rat) h in
    nonempty (λ at. within reach from.x at.0 && within reach from.y at.1) (is_position from) (perimeter g) (own_is_near from reach) parts.0

pad_fits : (g : GridShape) (from : Site) (reach n sub : ℕ) → n < length (near_positions g from reach) → sub < g.io_rat → is_pad_site g (site (get_or (near_positions g from reach) n (0, 0)).0 (get_or (near_positions g from reach) n (0, 0)).1 sub) ≡ true
pad_fits g from reach n sub n_in below =
    let test : (ℕ × ℕ) → Bool = (λ at. within reach from.x at.0 && within reach from.y at.1) in
    let here = near_positions g from reach in
    let P : (ℕ × ℕ) → Type 0 = (λ e. list_any (same_position e) (perimeter g) ≡ true) in
    let there : All P (perimeter g) = All-from_recursion P (perimeter g) (each_there (perimeter g) (perimeter g) (λ e k. k)) in
    let is_there : P (get_or here n (0, 0)) = All-filter test P (perimeter g) there n (0, 0) n_in in
    and_from (list_any (same_position (get_or here n (0, 0))) (perimeter g)) (nat_lt sub g.io_rat) is_there (lt-ltb sub g.io_rat below)

-- a pad is just outside the logic sites
pub pad_bounds : (g : GridShape) (s : Site) → is_pad_site g s ≡ true → (s.x ≤ g.nx + 1) × (s.y ≤ g.ny + 1)
pad_bounds g s h =
    let parts = and_parts (list_any (is_position s) (perimeter g)) (nat_lt s.sub g.io_rat) h in
    bounds g.nx g.ny s.x s.y (sym (round_is g.nx g.ny g.io_rat s) ∙ parts.0)
  where
    bounds : (nx ny x y : ℕ) → (((nat_le 1 y && nat_le y ny) && (x == 0 || x == nx + 1)) || ((nat_le 1 x && nat_le x nx) && (y == 0 || y == ny + 1))) ≡ true → (x ≤ nx + 1) × (y ≤ ny + 1)
    bounds nx ny x y h = grind (arith, nat_tests)

pad_not_logic : (g : GridShape) (s : Site) → is_pad_site g s ≡ true → is_logic_site g s ≡ false
pad_not_logic g s h =
    let parts = and_parts (list_any (is_position s) (perimeter g)) (nat_lt s.sub g.io_rat) h in
    ap (λ b. b && s.sub == 0) (outside g.nx g.ny s.x s.y (sym (round_is g.nx g.ny g.io_rat s) ∙ parts.0))
  where
    outside : (nx ny x y : ℕ) → (((nat_le 1 y && nat_le y ny) && (x == 0 || x == nx + 1)) || ((nat_le 1 x && nat_le x nx) && (y == 0 || y == ny + 1))) ≡ true → (nat_le 1 x && nat_le x nx && (nat_le 1 y && nat_le y ny)) ≡ false
    outside nx ny x y h = grind (arith, nat_tests)

pub pad_kind : (g : GridShape) (s : Site) → is_pad_site g s ≡ true → kind_at g s ≡ Some site_kind.Pad
pad_kind g s h = rw (pad_not_logic g s h, h) refl

pub logic_kind : (g : GridShape) (s : Site) → is_logic_site g s ≡ true → kind_at g s ≡ Some site_kind.Logic
logic_kind g s h = rw h refl

pub logic_near : (g : GridShape) (x y : ℕ) → 1 ≤ x → x ≤ g.nx → 1 ≤ y → y ≤ g.ny → kind_at g (site x y 0) ≡ Some site_kind.Logic
logic_near g x y a b c d =
    logic_kind g (site x y 0) (and_from _ (0 == 0) (and_from _ _ (and_from _ _ (le-leb 1 x a) (le-leb x g.nx b)) (and_from _ _ (le-leb 1 y c) (le-leb y g.ny d))) refl)

pub pad_near : (g : GridShape) (from : Site) (reach n sub : ℕ) → n < length (near_positions g from reach) → sub < g.io_rat → kind_at g (site (get_or (near_positions g from reach) n (0, 0)).0 (get_or (near_positions g from reach) n (0, 0)).1 sub) ≡ Some site_kind.Pad
pad_near g from reach n sub h k = pad_kind g _ (pad_fits g from reach n sub h k)

-- the target, by the kind of the block
pub target_logic : (d : Netlist) (g : GridShape) (b : ℕ) (from : Site) (range : ℕ) (ws : List ℕ) → is_logic_at d b ≡ true → target d g b from range ws ≡ logic_target g from (range / 1000) ws
unfolding target
target_logic d g b from range ws h = rw h refl

pub target_pad : (d : Netlist) (g : GridShape) (b : ℕ) (from : Site) (range : ℕ) (ws : List ℕ) → is_logic_at d b ≡ false → target d g b from range ws ≡ pad_target g from (range / 1000) ws
unfolding target
target_pad d g b from range ws h = rw h refl

wanted_logic : (d : Netlist) (b : ℕ) → is_logic_at d b ≡ true → kind_wanted d b ≡ site_kind.Logic
wanted_logic d b h = rw h refl

wanted_pad : (d : Netlist) (b : ℕ) → is_logic_at d b ≡ false → kind_wanted d b ≡ site_kind.Pad
wanted_pad d b h = rw h refl

pub fits_logic : (d : Netlist) (g : GridShape) (b : ℕ) (s : Site) → is_logic_at d b ≡ true → kind_at g s ≡ Some site_kind.Logic → Fits d g b s
fits_logic d g b s h k = k ∙ ap (λ x. Some x) (sym (wanted_logic d b h))

pub fits_pad : (d : Netlist) (g : GridShape) (b : ℕ) (s : Site) → is_logic_at d b ≡ false → kind_at g s ≡ Some site_kind.Pad → Fits d g b s
fits_pad d g b s h k = k ∙ ap (λ x. Some x) (sym (wanted_pad d b h))

pub kind_known : (d : Netlist) (b : ℕ) (k : BlockKind) → slice_get d.kinds b ≡ Some k → is_logic_at d b ≡ is_logic k
kind_known d b k e = ap is_logic (known d.kinds b k e)
  where
    known : (ks : List BlockKind) (i : ℕ) (x : BlockKind) → slice_get ks i ≡ Some x → get_or ks i Logic ≡ x
    known [] i x h = absurd cc
    known (y ∷ ks) zero x h = (let g : Some y ≡ Some x = h in cc)
    known (y ∷ ks) (suc i) x h = known ks i x h
