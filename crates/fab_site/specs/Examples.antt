-- Examples of legal placements and of given sites: a pad and a logic block on an array of two by two.
use Rattle.std.specs.Prelude.{ℕ, zero, suc, ◌≡◌, ◌<◌, [], ◌∷◌, Option, Some, None, true, is_some, slice_get, codes, refl}
use Rattle.std.proofs.Common.{sym, ap, ◌∙◌, arith, lit<}
use Rattle.fab_arch.specs.declared.array.Site.{Site}
use Rattle.fab_arch.specs.Grid.{GridShape, shape}
use Rattle.fab_net.specs.declared.netlist_types.BlockKind.TheVariants.{InputPad, Logic}
use Rattle.fab_net.specs.Netlist.{Netlist}
use Rattle.fab_site.specs.Placement.{Fits, fixed_at, site, site_of, IsLegal}
use Rattle.fab_site.specs.Pins.{ArePins, given_at}

abbrev pub pad_and_logic : Netlist
pad_and_logic = record { kinds = InputPad ∷ Logic ∷ []; names = codes "a" ∷ codes "b" ∷ []; terminals = []; globals = [] }

abbrev pub two_by_two : GridShape
two_by_two = shape 2 2 1

abbrev x_of : Option Site → ℕ
x_of None = 0
x_of (Some s) = s.x

none_some : {X : Type 0} (x : X) → None ≡ Some x → ⊥
none_some x h = cc

some_none : {X : Type 0} (x : X) → Some x ≡ None → ⊥
some_none x h = cc

some_same : {X : Type 0} (x y : X) → Some x ≡ Some y → x ≡ y
some_same x y h = cc

two_sites : Some (site 0 1 0) ≡ Some (site 2 2 0) → ⊥
two_sites h = let e : 0 ≡ 2 = ap x_of h in omega (arith, e)

pub each_on_a_site_of_its_kind : IsLegal pad_and_logic two_by_two (None ∷ Some (site 2 2 0) ∷ []) (site 0 1 0 ∷ site 2 2 0 ∷ [])
each_on_a_site_of_its_kind = record { all = refl; fit = fit; apart = apart; stay = stay }
  where
    fit : (b : ℕ) → b < 2 → Fits pad_and_logic two_by_two b (site_of (site 0 1 0 ∷ site 2 2 0 ∷ []) b)
    fit zero lt = refl
    fit (suc zero) lt = refl
    fit (suc (suc b)) lt = absurd (omega arith)

    apart : (a b : ℕ) → a < 2 → b < 2 → site_of (site 0 1 0 ∷ site 2 2 0 ∷ []) a ≡ site_of (site 0 1 0 ∷ site 2 2 0 ∷ []) b → a ≡ b
    apart zero zero la lb e = refl
    apart zero (suc zero) la lb e = absurd (two_sites (ap (λ (s : Site). Some s) e))
    apart (suc zero) zero la lb e = absurd (two_sites (ap (λ (s : Site). Some s) (sym e)))
    apart (suc zero) (suc zero) la lb e = refl
    apart (suc (suc a)) b la lb e = absurd (omega arith)
    apart a (suc (suc b)) la lb e = absurd (omega arith)

    stay : (b : ℕ) (s : Site) → fixed_at (None ∷ Some (site 2 2 0) ∷ []) b ≡ Some s → slice_get (site 0 1 0 ∷ site 2 2 0 ∷ []) b ≡ Some s
    stay zero s h = absurd (none_some s h)
    stay (suc zero) s h = h
    stay (suc (suc b)) s h = absurd (none_some s h)

pub a_pad_on_a_logic_site_is_not_legal : ¬ IsLegal pad_and_logic two_by_two [] (site 1 1 0 ∷ site 2 2 0 ∷ [])
a_pad_on_a_logic_site_is_not_legal h = let e = h.fit 0 (lit< tt) in cc

pub a_block_that_left_its_fixed_site_is_not_legal : ¬ IsLegal pad_and_logic two_by_two (Some (site 0 2 0) ∷ []) (site 0 1 0 ∷ site 2 2 0 ∷ [])
a_block_that_left_its_fixed_site_is_not_legal h = let e : 1 ≡ 2 = ap y_of (h.stay 0 (site 0 2 0) refl) in omega (arith, e)
  where
    y_of : Option Site → ℕ
    y_of None = 0
    y_of (Some s) = s.y

pub one_fixed_and_one_begun : ArePins pad_and_logic two_by_two (None ∷ Some (site 2 2 0) ∷ []) (Some (site 0 1 0) ∷ [])
one_fixed_and_one_begun = record { within = within; fit = fit; apart = apart; once = once }
  where
    given : ℕ → Option Site
    given b = given_at (None ∷ Some (site 2 2 0) ∷ []) (Some (site 0 1 0) ∷ []) b

    within : (b : ℕ) (s : Site) → given b ≡ Some s → b < 2
    within zero s h = lit< tt
    within (suc zero) s h = lit< tt
    within (suc (suc b)) s h = absurd (none_some s h)

    fit : (b : ℕ) (s : Site) → given b ≡ Some s → Fits pad_and_logic two_by_two b s
    fit zero s h = let e : site 0 1 0 ≡ s = some_same (site 0 1 0) s h in rw (← e) refl
    fit (suc zero) s h = let e : site 2 2 0 ≡ s = some_same (site 2 2 0) s h in rw (← e) refl
    fit (suc (suc b)) s h = absurd (none_some s h)

    apart : (a b : ℕ) (s : Site) → given a ≡ Some s → given b ≡ Some s → a ≡ b
    apart zero zero s h k = refl
    apart zero (suc zero) s h k = absurd (two_sites (h ∙ sym k))
    apart (suc zero) zero s h k = absurd (two_sites (k ∙ sym h))
    apart (suc zero) (suc zero) s h k = refl
    apart (suc (suc a)) b s h k = absurd (none_some s h)
    apart a (suc (suc b)) s h k = absurd (none_some s k)

    once : (b : ℕ) → is_some (fixed_at (None ∷ Some (site 2 2 0) ∷ []) b) ≡ true → fixed_at (Some (site 0 1 0) ∷ []) b ≡ None
    once zero h = cc
    once (suc b) h = refl

pub a_block_fixed_and_begun_is_given_twice : ¬ ArePins pad_and_logic two_by_two (Some (site 0 1 0) ∷ []) (Some (site 0 2 0) ∷ [])
a_block_fixed_and_begun_is_given_twice h = some_none (site 0 2 0) (h.once 0 refl)
