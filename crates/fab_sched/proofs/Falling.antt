-- Temperatures fall from stage to stage, so the stages are few.
use Rattle.std.proofs.Common.{◌≡◌, ℕ, zero, suc, ◌+◌, ◌-◌, ◌*◌, ◌/◌, ◌<◌, ◌≤◌, ◌^◌, ◌⊎◌, cond, false, eqb, ltb, Option, Some, None, IfSome, refl, sym, ap, ◌∙◌, arith, inl, inr, add-one}
use Rattle.std.proofs.Math.Nat.{mul-le-mul_left}
use Rattle.std.proofs.lemmas.Nat.{mul-le}
use Rattle.std.proofs.lemmas.Bool.{cases_lt, cases_eq, lt-ltb}
use Rattle.std.proofs.lemmas.Bool.Decides.{nat_tests}
use Rattle.fab_sched.specs.declared.schedules.Cooling.{Cooling}
use Rattle.fab_sched.specs.declared.schedules.Stage.{Stage}
use Rattle.fab_sched.specs.declared.schedules.Cooling.TheVariants.{Factor, Adaptive}
use Rattle.fab_sched.specs.Annealing.{Plan, GoesOnColder, IsLawful, IsCooling, IsLastBy, IsLastIndex, IsStage, MayCoolTo, MayStand, MayStandBy, adaptive_factor, cooled, factor_after, factor_by, first_stage, fresh, heat_by, hot, next_range, stage_after}

-- a factor below one
pub cooler : (t f : ℕ) → 0 < t → f ≤ 999 → t * f / 1000 < t
cooler t f some le = let most : t * f ≤ t * 999 = mul-le-mul_left t le in omega arith

pub product_fits : (t f : ℕ) → t ≤ 1073741824 → f ≤ 999 → t * f < 2 ^ 64
product_fits t f a b = let most = mul-le t f 1073741824 999 a b in omega arith

-- a temperature that is run, or 0
hot_cases : (p : Plan) (t : ℕ) → (hot p t ≡ 0) ⊎ ((hot p t ≡ t) × (p.exit ≤ t))
hot_cases p t = elim (cases_lt t p.exit) [ inl lt ↦ inl (rw (lt-ltb t p.exit lt) refl) | inr le ↦ grind (arith, nat_tests) ]

pub hot_le : (p : Plan) (t : ℕ) → hot p t ≤ t
hot_le p t = grind (arith, nat_tests)

-- what a next temperature comes from
record Cooler (p : Plan) (f : ℕ) (before : Option ℕ) (t : ℕ) : Type 0 where
  warm : ℕ
  was : before ≡ Some warm
  some : 0 < warm
  is : t ≡ hot p (warm * f / 1000)

some_is : (a b : ℕ) → Some a ≡ Some b → a ≡ b
some_is a b h = cc

pub cooled_on : (p : Plan) (f t : ℕ) → 0 < t → cooled p f (Some t) ≡ Some (hot p (t * f / 1000))
cooled_on p f t h = let test : eqb t 0 ≡ false = grind (arith, nat_tests) in rw test refl

cooled_out : (p : Plan) (f t : ℕ) → t ≡ 0 → cooled p f (Some t) ≡ None
cooled_out p f t h = rw h refl

cooler_of : (p : Plan) (f t : ℕ) (before : Option ℕ) → cooled p f before ≡ Some t → Cooler p f before t
cooler_of p f t None h = absurd (cc)
cooler_of p f t (Some u) h =
    elim (cases_eq u 0) [
      | inl z ↦ (let out = cooled_out p f u z in absurd (cc))
      | inr ne ↦ (let some : 0 < u = omega arith in record { warm = u; was = refl; some = some; is = sym (some_is (hot p (u * f / 1000)) t (sym (cooled_on p f u some) ∙ h)) })
    ]

-- the temperature and the index together never pass the first temperature
pub heat_falls : (p : Plan) (f x t : ℕ) → f ≤ 999 → heat_by p f x ≡ Some t → t + x ≤ p.init
heat_falls p f zero t le h = let e = some_is (hot p p.init) t h in omega (arith, hot_le p p.init, e)
heat_falls p f (suc x) t le h =
    let c = cooler_of p f t (heat_by p f x) h in
    let before = heat_falls p f x c.warm le c.was in
    omega (arith, before, c.is, hot_le p (c.warm * f / 1000), cooler c.warm f c.some le)

pub next_heat_by : (p : Plan) (f x t u : ℕ) → heat_by p f x ≡ Some t → 0 < t → u ≡ hot p (t * f / 1000) → heat_by p f (x + 1) ≡ Some u
next_heat_by p f x t u h some e = ap (heat_by p f) (add-one x) ∙ ap (cooled p f) h ∙ cooled_on p f t some ∙ ap Some (sym e)

-- nothing comes after the frozen stage
later_by : (p : Plan) (f n d : ℕ) → heat_by p f n ≡ Some 0 → heat_by p f (suc (n + d)) ≡ None
later_by p f n zero h = let e : n + 0 ≡ n = omega arith in rw (e, h) refl
later_by p f n (suc d) h = let e : n + suc d ≡ suc (n + d) = omega arith in rw (e, later_by p f n d h) refl

pub none_after : (p : Plan) (f n x t : ℕ) → heat_by p f n ≡ Some t → t ≡ 0 → n < x → heat_by p f x ≡ None
none_after p f n x t h z lt = let e : x ≡ suc (n + (x - (n + 1))) = omega arith in rw e (later_by p f n (x - (n + 1)) (h ∙ ap Some z))

pub last_by : (p : Plan) (f n x t : ℕ) → heat_by p f n ≡ Some 0 → heat_by p f x ≡ Some t → x ≤ n
last_by p f n x t h k =
    elim (cases_lt n x) [ inl lt ↦ (let none = none_after p f n x 0 h refl lt in absurd (cc)) | inr le ↦ le ]

-- the same for every way of cooling
record IsBelow (p : Plan) (x t : ℕ) : Type 0 where
  index : x ≤ p.init
  heat : t ≤ p.init

below_coolest : (p : Plan) (x t : ℕ) → 1 ≤ p.exit → MayCoolTo p x t → IsBelow p x t
below_coolest p zero t some h = record { index = omega arith; heat = omega (arith, h, hot_le p p.init) }
below_coolest p (suc x) t some h =
    record { index = omega (arith, h.0); heat = elim h.1 [ inl z ↦ omega (arith, z) | inr k ↦ omega (arith, k.1) ] }

below_by : (c : Cooling) (p : Plan) (x t : ℕ) → 1 ≤ p.exit → IsCooling c → MayStandBy c p x t → IsBelow p x t
below_by (Factor f) p x t some is h = let k = heat_falls p f x t is.1 h in record { index = omega (arith, k); heat = omega (arith, k) }
below_by Adaptive p x t some is h = below_coolest p x t some h

below : (p : Plan) (x t : ℕ) → IsLawful p → MayStand p x t → IsBelow p x t
below p x t l h = below_by p.cooling p x t l.exit.0 l.cooling h

pub index_below : (p : Plan) (x t : ℕ) → IsLawful p → MayStand p x t → x ≤ 1073741824
index_below p x t l h = let k = below p x t l h in omega (arith, k.index, l.init.1)

pub heat_below : (p : Plan) (x t : ℕ) → IsLawful p → MayStand p x t → t ≤ 1073741824
heat_below p x t l h = let k = below p x t l h in omega (arith, k.heat, l.init.1)

-- one stage colder
coolest_on : (p : Plan) (x t f : ℕ) → f ≤ 999 → 0 < t → MayCoolTo p x t → MayCoolTo p (suc x) (hot p (t * f / 1000))
coolest_on p zero t f le some h =
    let fall = cooler t f some le in
    elim (hot_cases p p.init) [
      | inl z ↦ absurd (omega (arith, h, z))
      | inr k ↦ (omega (arith, k.1), elim (hot_cases p (t * f / 1000)) [ inl z ↦ inl z | inr m ↦ inr (omega (arith, m.0, m.1), omega (arith, m.0, fall, h, k.0)) ])
    ]
coolest_on p (suc x) t f le some h =
    let fall = cooler t f some le in
    elim h.1 [
      | inl z ↦ absurd (omega (arith, z))
      | inr k ↦ (omega (arith, k.0, k.1), elim (hot_cases p (t * f / 1000)) [ inl z ↦ inl z | inr m ↦ inr (omega (arith, m.0, m.1), omega (arith, m.0, fall, k.1)) ])
    ]

stands_on_by : (c : Cooling) (p : Plan) (x t range accepted : ℕ) → factor_by c p.moves range accepted ≤ 999 → 0 < t → MayStandBy c p x t → MayStandBy c p (suc x) (hot p (t * factor_by c p.moves range accepted / 1000))
stands_on_by (Factor f) p x t range accepted le some h = rw h (cooled_on p f t some)
stands_on_by Adaptive p x t range accepted le some h = coolest_on p x t (factor_by Adaptive p.moves range accepted) le some h

pub stands_on : (p : Plan) (x t range accepted f u : ℕ) → f ≡ factor_after p range accepted → f ≤ 999 → 0 < t → u ≡ hot p (t * f / 1000) → MayStand p x t → MayStand p (x + 1) u
stands_on p x t range accepted f u e le some k h =
    let here = stands_on_by p.cooling p x t range accepted (rw (sym e) le) some h in
    rw (add-one x, k, e) here

-- the greatest index
coolest_last : (p : Plan) (x t : ℕ) → MayCoolTo p x t → x ≤ cond (ltb p.init p.exit) 0 (p.init - p.exit + 1)
coolest_last p zero t h = omega arith
coolest_last p (suc x) t h = let k = h.0 in grind (arith, nat_tests)

greatest_by : (c : Cooling) (p : Plan) (n x t : ℕ) → IsLastBy c p n → MayStandBy c p x t → x ≤ n
greatest_by (Factor f) p n x t last h = last_by p f n x t last h
greatest_by Adaptive p n x t last h = omega (arith, last, coolest_last p x t h)

pub greatest : (p : Plan) (n x t : ℕ) → IsLastIndex p n → MayStand p x t → x ≤ n
greatest p n x t last h = greatest_by p.cooling p n x t last h

coolest_reached : (p : Plan) (n : ℕ) → n ≡ cond (ltb p.init p.exit) 0 (p.init - p.exit + 1) → MayCoolTo p n 0
coolest_reached p n h =
    elim (cases_lt p.init p.exit) [
      | inl lt ↦ (let test = lt-ltb p.init p.exit lt in let e : n ≡ 0 = h ∙ rw test refl in rw e (rw test refl))
      | inr le ↦ (let e : n ≡ suc (p.init - p.exit) = grind (arith, nat_tests) in rw e (omega arith, inl refl))
    ]

reached_by : (c : Cooling) (p : Plan) (n : ℕ) → IsLastBy c p n → MayStandBy c p n 0
reached_by (Factor f) p n last = last
reached_by Adaptive p n last = coolest_reached p n last

pub reached : (p : Plan) (n : ℕ) → IsLastIndex p n → MayStand p n 0
reached p n last = reached_by p.cooling p n last

-- the number of moves of a whole run
pub moves_bound : (n m : ℕ) → n ≤ 1073741824 → m ≤ 1073741824 → (n + 1) * m < 2 ^ 61
moves_bound n m a b = let p = mul-le (n + 1) m 1073741825 1073741824 (omega arith) b in omega (arith, p)

pub last_of : (p : Plan) (f n : ℕ) → p.cooling ≡ Factor f → heat_by p f n ≡ Some 0 → IsLastIndex p n
last_of p f n by h = rw by h

pub greatest_of : (p : Plan) (f n : ℕ) → p.cooling ≡ Factor f → heat_by p f n ≡ Some 0 → (x t : ℕ) → MayStand p x t → x ≤ n
greatest_of p f n by h = λ x t k. greatest p n x t (last_of p f n by h) k

pub fresh_is : (p : Plan) (side x t range : ℕ) → MayStand p x t → (1000 ≤ range) × (range ≤ 1000 * side) → IsStage p side (fresh x t range)
fresh_is p side x t range h within = record { stands = h; range = within; accepted = omega arith; done = omega arith; frozen = refl }

-- every run
first_stands : (c : Cooling) (p : Plan) → MayStandBy c p 0 (hot p p.init)
first_stands (Factor f) p = refl
first_stands Adaptive p = refl

pub first_is : (p : Plan) (side : ℕ) → IsLawful p → 1 ≤ side → IsStage p side (first_stage p side)
first_is p side l some = fresh_is p side 0 (hot p p.init) (1000 * side) (first_stands p.cooling p) (omega arith, omega arith)

range_within : (p : Plan) (side range accepted : ℕ) → 1 ≤ side → (1000 ≤ next_range p side range accepted) × (next_range p side range accepted ≤ 1000 * side)
unfolding next_range
range_within p side range accepted some = (omega arith, omega arith)

pub factor_small : (c : Cooling) (moves range accepted : ℕ) → IsCooling c → factor_by c moves range accepted ≤ 999
unfolding adaptive_factor
factor_small (Factor f) moves range accepted is = is.1
factor_small Adaptive moves range accepted is = grind (arith, nat_tests)

pub goes_on : (p : Plan) (side : ℕ) (s : Stage) (accepted : ℕ) → IsLawful p → 1 ≤ side → IsStage p side s → GoesOnColder p side s accepted
goes_on p side s accepted l some is =
    let f = factor_after p s.range accepted in
    elim (cases_eq s.t 0) [
      | inl z ↦ rw (cooled_out p f s.t z) tt
      | inr ne ↦ (
          let warm : 0 < s.t = omega arith in
          let small = factor_small p.cooling p.moves s.range accepted l.cooling in
          let next = stands_on p s.index s.t s.range accepted f (hot p (s.t * f / 1000)) refl small warm refl is.stands in
          rw (cooled_on p f s.t warm) (fresh_is p side (s.index + 1) (hot p (s.t * f / 1000)) (next_range p side s.range accepted) next (range_within p side s.range accepted some), omega (arith, hot_le p (s.t * f / 1000), cooler s.t f warm small))
          )
    ]

lawful_of : (p : Plan) (side t : ℕ) (next : Option Stage) → IfSome next (λ n. IsStage p side n × (n.t < t)) → IfSome next (IsStage p side)
lawful_of p side t None h = tt
lawful_of p side t (Some n) h = h.0

colder_of : (p : Plan) (side t : ℕ) (next : Option Stage) → IfSome next (λ n. IsStage p side n × (n.t < t)) → IfSome next (λ n. n.t < t)
colder_of p side t None h = tt
colder_of p side t (Some n) h = h.1

pub lawful_on : (p : Plan) (side : ℕ) (s : Stage) (accepted : ℕ) (next : Option Stage) → next ≡ stage_after p side s accepted → IsLawful p → 1 ≤ side → IsStage p side s → IfSome next (IsStage p side)
lawful_on p side s accepted next e l some is = rw e (lawful_of p side s.t (stage_after p side s accepted) (goes_on p side s accepted l some is))

pub colder_on : (p : Plan) (side : ℕ) (s : Stage) (accepted : ℕ) (next : Option Stage) → next ≡ stage_after p side s accepted → IsLawful p → 1 ≤ side → IsStage p side s → IfSome next (λ n. n.t < s.t)
colder_on p side s accepted next e l some is = rw e (colder_of p side s.t (stage_after p side s accepted) (goes_on p side s accepted l some is))

pub few_moves : (p : Plan) (x t : ℕ) → IsLawful p → MayStand p x t → (x + 1) * p.moves < 2 ^ 61
few_moves p x t l h = moves_bound x p.moves (index_below p x t l h) l.moves.1
