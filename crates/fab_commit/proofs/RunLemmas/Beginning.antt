-- What is kept before the first move, and what is told of it.
use Rattle.std.proofs.Common.{◌≡◌, ℕ, ◌+◌, ◌-◌, ◌*◌, ◌/◌, ◌%◌, ◌<◌, Bool, true, false, Some, None, sym, ap, subst, ◌∙◌, arith}
use Rattle.std.proofs.lemmas.Nat.{mod-mul-add, div-mul-add}
use Rattle.fab_sched.specs.Annealing.{MayStand}
use Rattle.fab_commit.specs.declared.run.state.State.{State}
use Rattle.fab_commit.specs.Serial.{Run, HeatStands, IsStanding, side, left_at, stage_at, stage_of}
use Rattle.fab_commit.specs.Run.Commits.{IsSound, heat_of, standing_of, StageStands}
use Rattle.fab_commit.proofs.RunLemmas.Committing.{going}

-- how many moves a stage still has, by its own count
pub left_is : (b : Bool) (i d m n t : ℕ) → b ≡ false → n ≡ i * m + d → d < m → m - d ≡ left_at m n (heat_of b t)
left_is b i d m n t e place below = sym (ap (λ c. left_at m n (heat_of c t)) e ∙ ap (λ k. m - k) (ap (λ k. k % m) place ∙ mod-mul-add i m d below))

pub none_left : (b : Bool) (m n t : ℕ) → b ≡ true → 0 ≡ left_at m n (heat_of b t)
none_left b m n t e = sym (ap (λ c. left_at m n (heat_of c t)) e)

-- the running stage, as it is told
pub stage_told : (r : Run) (s : State) → IsSound r s → s.ended ≡ false → Some s.stage ≡ stage_of r (standing_of s)
stage_told r s sound e =
    let g = going r s sound e in
    let index : s.stage.index ≡ s.done / r.plan.moves = sym (ap (λ k. k / r.plan.moves) sound.place ∙ div-mul-add s.stage.index r.plan.moves s.stage.done g.1) in
    let done : s.stage.done ≡ s.done % r.plan.moves = sym (ap (λ k. k % r.plan.moves) sound.place ∙ mod-mul-add s.stage.index r.plan.moves s.stage.done g.1) in
    (λ i. Some (record { index = index i; t = s.stage.t; range = s.stage.range; done = done i; accepted = s.stage.accepted; frozen = g.0.frozen i }))
    ∙ sym (ap (λ b. stage_at r.plan (standing_of s) (heat_of b s.stage.t)) e)

pub nothing_told : (r : Run) (s : State) → s.ended ≡ true → None ≡ stage_of r (standing_of s)
nothing_told r s e = sym (ap (λ b. stage_at r.plan (standing_of s) (heat_of b s.stage.t)) e)

-- a sound state has a standing that its run can have
pub standing_is : (r : Run) (s : State) (b : Bool) → IsSound r s → s.ended ≡ b → IsStanding r (standing_of s)
standing_is r s false sound e =
    let g = going r s sound e in
    let index : s.done / r.plan.moves ≡ s.stage.index = ap (λ k. k / r.plan.moves) sound.place ∙ div-mul-add s.stage.index r.plan.moves s.stage.done g.1 in
    let done : s.done % r.plan.moves ≡ s.stage.done = ap (λ k. k % r.plan.moves) sound.place ∙ mod-mul-add s.stage.index r.plan.moves s.stage.done g.1 in
    let few = g.0.accepted in
    record {
      legal = sound.legal;
      range = g.0.range;
      accepted = omega (arith, done, few);
      total = sound.counted;
      heat = subst (λ c. HeatStands r.plan s.done (heat_of c s.stage.t)) (sym e) (subst (λ i. MayStand r.plan i s.stage.t) (sym index) g.0.stands);
    }
standing_is r s true sound e =
    let k = subst (λ b. StageStands r.plan (side r) b s.stage) e sound.stage in
    let none = k.3 in
    record {
      legal = sound.legal;
      range = (k.0, k.1);
      accepted = omega (arith, none);
      total = sound.counted;
      heat = subst (λ c. HeatStands r.plan s.done (heat_of c s.stage.t)) (sym e) (k.4.0, sound.place ∙ placed s.stage.index s.stage.done r.plan.moves k.4.0 k.2 k.4.1, k.4.2);
    }
  where
    placed : (i d m x : ℕ) → d ≡ 0 → i ≡ x + 1 → i * m + d ≡ (x + 1) * m
    placed i d m x p q = grind (arith, p, q)
