-- The stages of a schedule, and the blocks that are named.
use Rattle.std.proofs.Common.{◌≡◌, ℕ, ◌≤◌, ◌&&◌, Bool, false, cond, ltb, List, Option, Some, None, get_or, zero, suc, refl, ap, ◌∙◌, arith, inl, inr}
use Rattle.std.proofs.lemmas.Bool.{cases_eq}
use Rattle.fab_arch.specs.declared.array.Site.{Site}
use Rattle.fab_site.specs.Placement.{site_of}
use Rattle.fab_sched.specs.declared.schedules.Cooling.{Cooling}
use Rattle.fab_sched.specs.declared.schedules.Cooling.TheVariants.{Factor, Adaptive}
use Rattle.fab_sched.specs.Annealing.{MayStand, MayStandBy, Plan, cooled, heat_by, hot}

-- where the blocks below i that are named are fixed
abbrev pub fixed_upto : List Bool → List Site → ℕ → ℕ → Option Site
fixed_upto named sites i a = cond (ltb a i && get_or named a false) (Some (site_of sites a)) None

-- a stage that comes before another one has a temperature too

was_hot : (p : Plan) (f t : ℕ) (o : Option ℕ) → cooled p f o ≡ Some t → (s : ℕ) × (o ≡ Some s)
was_hot p f t None h = absurd (let none : None ≡ Some t = h in cc)
was_hot p f t (Some s) h = (s, refl)

by_factor : (p : Plan) (f last x t : ℕ) → heat_by p f last ≡ Some t → x ≤ last → (s : ℕ) × (heat_by p f x ≡ Some s)
by_factor p f zero zero t h le = (t, h)
by_factor p f zero (suc x) t h le = absurd (omega (arith, le))
by_factor p f (suc last) x t h le = elim (cases_eq x (suc last)) [
  | inl e ↦ (t, ap (heat_by p f) e ∙ h)
  | inr other ↦ let before = was_hot p f t (heat_by p f last) h in by_factor p f last x before.0 before.1 (omega (arith, le, other))
]

by_cooling : (c : Cooling) (p : Plan) (last x t : ℕ) → MayStandBy c p last t → x ≤ last → (t : ℕ) × MayStandBy c p x t
by_cooling (Factor f) p last x t h le = by_factor p f last x t h le
by_cooling Adaptive p last zero t h le = (hot p p.init, refl)
by_cooling Adaptive p zero (suc x) t h le = absurd (omega (arith, le))
by_cooling Adaptive p (suc last) (suc x) t h le = (0, (omega (arith, le, h.0), inl refl))

pub earlier : (p : Plan) (last x : ℕ) → MayStand p last 0 → x ≤ last → (t : ℕ) × MayStand p x t
earlier p last x h le = by_cooling p.cooling p last x 0 h le
