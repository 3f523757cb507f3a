-- What a move makes of a stage.
use Rattle.std.proofs.Common.{◌≡◌, ℕ, ◌+◌, ◌*◌, ◌/◌, ◌≤◌, Bool, true, cond, eqb, Option, Some, None, refl, sym, ap, subst, ◌∙◌, arith, inl, inr}
use Rattle.std.proofs.lemmas.Bool.{eq-eqb, ne_eqb, cases_eq}
use Rattle.fab_sched.specs.declared.schedules.Stage.{Stage}
use Rattle.fab_sched.specs.Annealing.{Plan, IsStage, MayStand, fresh_at, factor_after, hot, cooled, next_heat, next_range}
use Rattle.fab_commit.specs.Serial.{one_if}
use Rattle.fab_commit.specs.Run.Commits.{IsAdvanced}

range_bounds : (p : Plan) (side range accepted : ℕ) → 1 ≤ side → (1000 ≤ next_range p side range accepted) × (next_range p side range accepted ≤ 1000 * side)
unfolding next_range
range_bounds p side range accepted h = (omega arith, omega arith)

no_heat : (i r : ℕ) (h : Option ℕ) → None ≡ fresh_at i r h → h ≡ None
no_heat i r None e = refl
no_heat i r (Some t) e = absurd cc

frozen_is : (p : Plan) (f t : ℕ) → cooled p f (Some t) ≡ None → t ≡ 0
frozen_is p f t e =
    elim (cases_eq t 0) [
      | inl is ↦ is
      | inr isnt ↦ absurd (some_none (hot p (t * f / 1000)) (sym (ap (λ b. cond b None (Some (hot p (t * f / 1000)))) (ne_eqb t 0 isnt)) ∙ e))
    ]
  where
    some_none : (x : ℕ) → Some x ≡ None → ⊥
    some_none x q = cc

abbrev pub after_last : Plan → ℕ → Stage → ℕ → Stage
after_last p side s n = record { index = s.index + 1; t = 0; range = next_range p side s.range n; done = 0; accepted = 0; frozen = true }

-- the last move of all
pub after_all : (p : Plan) (side : ℕ) (s : Stage) (took : Bool) (n : ℕ) → 1 ≤ side → IsStage p side s → s.done + 1 ≡ p.moves → n ≡ s.accepted + one_if took
    → None ≡ fresh_at (s.index + 1) (next_range p side s.range n) (next_heat p s.range n (Some s.t))
    → IsAdvanced p side s took (after_last p side s n) true
after_all p side s took n low is over same none =
    let t : eqb (s.done + 1) p.moves ≡ true = eq-eqb (s.done + 1) p.moves over in
    let nothing : next_heat p s.range n (Some s.t) ≡ None = no_heat (s.index + 1) (next_range p side s.range n) (next_heat p s.range n (Some s.t)) none in
    let cold : s.t ≡ 0 = frozen_is p (factor_after p s.range n) s.t nothing in
    let bounds = range_bounds p side s.range n low in
    record {
      accepted = sym (ap (λ b. cond b 0 (s.accepted + one_if took)) t);
      range = ap (next_range p side s.range) same ∙ sym (ap (λ b. cond b (next_range p side s.range (s.accepted + one_if took)) s.range) t);
      heat = sym nothing ∙ ap (λ k. next_heat p s.range k (Some s.t)) same ∙ sym (ap (λ b. cond b (next_heat p s.range (s.accepted + one_if took) (Some s.t)) (Some s.t)) t);
      place = place_is s.index s.done p.moves over;
      stands = (bounds.0, bounds.1, refl, refl, (s.index, refl, subst (MayStand p s.index) cold is.stands));
    }
  where
    place_is : (i d m : ℕ) → d + 1 ≡ m → (i + 1) * m + 0 ≡ i * m + d + 1
    place_is i d m e = grind (arith, e)
