-- A verdict that is committed moves the standing on by one, and what is kept still fits together.
use Rattle.std.proofs.Common.{◌≡◌, ℕ, ◌+◌, ◌*◌, ◌%◌, ◌<◌, ◌≤◌, ◌^◌, List, Bool, true, false, cond, eqb, Option, Some, None, refl, sym, ap, subst, ◌∙◌, arith, inl, inr}
use Rattle.std.proofs.lemmas.Bool.{eq-eqb, ne_eqb, cases_eq}
use Rattle.std.proofs.lemmas.Nat.{mod-mul-add}
use Rattle.fab_cost.specs.Swapping.{CountedStandsFor}
use Rattle.fab_arch.specs.declared.array.Site.{Site}
use Rattle.fab_arch.specs.Grid.{GridShape}
use Rattle.fab_cost.specs.declared.edge_boxes.EdgeBoxes.{EdgeBoxes}
use Rattle.fab_site.specs.declared.placement_types.Swap.{Swap}
use Rattle.fab_site.specs.declared.places.Placement.{Placement}
use Rattle.fab_site.specs.Placement.{IsLegal, IsSwapOf, swapped}
use Rattle.fab_move.specs.declared.verdicts.Decision.{Decision}
use Rattle.fab_move.specs.Judge.{IsDecision, Judged, moved}
use Rattle.fab_sched.specs.Annealing.{IsLawful, IsStage, next_heat, next_range}
use Rattle.fab_sched.proofs.Falling.{few_moves}
use Rattle.fab_commit.specs.declared.run.state.State.{State}
use Rattle.fab_commit.specs.Serial.{Run, one_if, side, after_move, judged_here}
use Rattle.fab_commit.specs.Run.Commits.{IsAdvanced, IsSound, StageStands, standing_of, heat_of}
use Rattle.fab_commit.proofs.RunLemmas.Kept.{MayMove, legal_swapped, judged_may_move}

-- a stage is over where its own moves are all made
over_is : (i d m n : ℕ) → n ≡ i * m + d → d < m → eqb ((n + 1) % m) 0 ≡ eqb (d + 1) m
over_is i d m n place below =
    elim (cases_eq (d + 1) m) [
      | inl e ↦
          let whole : n + 1 ≡ (i + 1) * m + 0 = at_end i d m n place e in
          let zero_left : (n + 1) % m ≡ 0 = ap (λ k. k % m) whole ∙ mod-mul-add (i + 1) m 0 (omega arith) in
          eq-eqb ((n + 1) % m) 0 zero_left ∙ sym (eq-eqb (d + 1) m e)
      | inr ne ↦
          let within : n + 1 ≡ i * m + (d + 1) = omega (arith, place) in
          let left : (n + 1) % m ≡ d + 1 = ap (λ k. k % m) within ∙ mod-mul-add i m (d + 1) (omega arith) in
          ne_eqb ((n + 1) % m) 0 (λ e. absurd (omega (arith, e, left))) ∙ sym (ne_eqb (d + 1) m ne)
    ]
  where
    at_end : (i d m n : ℕ) → n ≡ i * m + d → d + 1 ≡ m → n + 1 ≡ (i + 1) * m + 0
    at_end i d m n p e = grind (arith, p, e)

-- the stage of a run that goes on
pub going : (r : Run) (s : State) → IsSound r s → s.ended ≡ false → IsStage r.plan (side r) s.stage × (s.stage.done < r.plan.moves)
going r s sound e = subst (λ b. StageStands r.plan (side r) b s.stage) e sound.stage

-- what a committed move made of the state, part by part
pub record IsCommitted (r : Run) (s : State) (j : Judged) (t : State) : Type 0 where
  pub grid : t.placement.grid ≡ s.placement.grid
  pub sites : t.placement.sites ≡ moved s.placement.sites j
  pub done : t.done ≡ s.done + 1
  pub total : t.total ≡ s.total + one_if j.accepted
  pub advanced : IsAdvanced r.plan (side r) s.stage j.accepted t.stage t.ended
  pub cost : CountedStandsFor t.cost r.problem.design r.problem.grid (moved s.placement.sites j)

-- the parts of a state after a decision, by the judged move that it is one of
pub committed : (r : Run) (s t : State) (d : Decision) (j : Judged) (k : ℕ) → IsDecision d j → t.placement ≡ record s.placement { sites = moved s.placement.sites j } → t.done ≡ s.done + 1 → t.total ≡ s.total + one_if d.accepted → k ≡ side r → IsAdvanced r.plan k s.stage d.accepted t.stage t.ended → CountedStandsFor t.cost r.problem.design r.problem.grid (moved s.placement.sites j) → IsCommitted r s j t
committed r s t d j k is placed done total side_is next cost = record {
  grid = ap (λ p. p.grid) placed;
  sites = ap (λ p. p.sites) placed;
  done = done;
  total = total ∙ ap (λ b. s.total + one_if b) is.accepted;
  advanced = subst (λ b. IsAdvanced r.plan (side r) s.stage b t.stage t.ended) is.accepted (subst (λ n. IsAdvanced r.plan n s.stage d.accepted t.stage t.ended) side_is next);
  cost = cost;
}

-- what the swap of a move, if it is accepted, made of the state
pub record IsSwapped (r : Run) (s : State) (j : Judged) (m : State) : Type 0 where
  pub placement : m.placement ≡ record s.placement { sites = moved s.placement.sites j }
  pub cost : CountedStandsFor m.cost r.problem.design r.problem.grid (moved s.placement.sites j)
  pub stage : m.stage ≡ s.stage
  pub ended : m.ended ≡ s.ended
  pub done : m.done ≡ s.done
  pub total : m.total ≡ s.total
  pub accepted : m.accepted ≡ s.accepted

-- the swap was made
pub with_swap : (r : Run) (s : State) (d : Decision) (j : Judged) (x : Swap) (p : Placement) (k : EdgeBoxes) (m : State) → IsDecision d j → d.accepted ≡ true → d.swap ≡ Some x
    → m ≡ record s { placement = p; cost = k } → p ≡ record s.placement { sites = swapped s.placement.sites x }
    → CountedStandsFor k r.problem.design r.problem.grid (swapped s.placement.sites x) → IsSwapped r s j m
with_swap r s d j x p k m is took there rest placed cost =
    let made : swapped s.placement.sites x ≡ moved s.placement.sites j = made_by s.placement.sites j (sym is.accepted ∙ took) x (sym is.swap ∙ there) in
    subst (IsSwapped r s j) (sym rest) (record {
      placement = placed ∙ ap (λ sites. record s.placement { sites = sites }) made;
      cost = subst (CountedStandsFor k r.problem.design r.problem.grid) made cost;
      stage = refl;
      ended = refl;
      done = refl;
      total = refl;
      accepted = refl;
    })
  where
    made_by : (sites : List Site) (j : Judged) → j.accepted ≡ true → (x : Swap) → j.swap ≡ Some x → swapped sites x ≡ moved sites j
    made_by sites j took x there = rw (took, there) refl

-- no swap was made, since the move is rejected, or void
pub with_none : (r : Run) (s m : State) (j : Judged) → CountedStandsFor s.cost r.problem.design r.problem.grid s.placement.sites → moved s.placement.sites j ≡ s.placement.sites → m ≡ s → IsSwapped r s j m
with_none r s m j cost same is = subst (IsSwapped r s j) (sym is) (record {
  placement = ap (λ sites. record s.placement { sites = sites }) (sym same);
  cost = subst (CountedStandsFor s.cost r.problem.design r.problem.grid) (sym same) cost;
  stage = refl;
  ended = refl;
  done = refl;
  total = refl;
  accepted = refl;
})

pub rejected_stays : (sites : List Site) (d : Decision) (j : Judged) → IsDecision d j → d.accepted ≡ false → moved sites j ≡ sites
rejected_stays sites d j is e = (let no : j.accepted ≡ false = sym is.accepted ∙ e in rw no refl)

pub void_stays : (sites : List Site) (d : Decision) (j : Judged) → IsDecision d j → d.accepted ≡ true → d.swap ≡ None → moved sites j ≡ sites
void_stays sites d j is took e = (let yes : j.accepted ≡ true = sym is.accepted ∙ took in let none : j.swap ≡ None = sym is.swap ∙ e in rw (yes, none) refl)

pub stands_after : (r : Run) (s t : State) (j : Judged) → IsSound r s → s.ended ≡ false → IsCommitted r s j t → standing_of t ≡ after_move r (standing_of s) j
stands_after r s t j sound e c =
    let g = going r s sound e in
    let over = over_is s.stage.index s.stage.done r.plan.moves s.done sound.place g.1 in
    let took = s.stage.accepted + one_if j.accepted in
    let a = c.advanced.accepted ∙ sym (ap (λ b. cond b 0 took) over) in
    let range = c.advanced.range ∙ sym (ap (λ b. cond b (next_range r.plan (side r) s.stage.range took) s.stage.range) over) in
    let heat = c.advanced.heat ∙ sym (ap (λ b. cond b (next_heat r.plan s.stage.range took (heat_of s.ended s.stage.t)) (heat_of s.ended s.stage.t)) over ∙ ap (λ h. cond (eqb (s.stage.done + 1) r.plan.moves) (next_heat r.plan s.stage.range took (heat_of h s.stage.t)) (heat_of h s.stage.t)) e) in
    (λ i. record { done = c.done i; sites = c.sites i; accepted = a i; range = range i; heat = heat i; total = c.total i })

one_le : (b : Bool) → one_if b ≤ 1
one_le true = omega arith
one_le false = omega arith

accepted_le : (a b c : ℕ) (over : Bool) → c ≡ cond over 0 (a + b) → c ≤ a + b
accepted_le a b c true e = omega (arith, e)
accepted_le a b c false e = omega (arith, e)

-- what is kept still fits together
pub sound_after : (r : Run) (s t : State) (j : Judged) → IsSound r s → s.ended ≡ false → IsCommitted r s j t → IsLegal r.problem.design r.problem.grid r.problem.fixed (moved s.placement.sites j) → IsSound r t
sound_after r s t j sound e c legal =
    let one = one_le j.accepted in
    let counted = sound.counted in
    let few = accepted_le s.stage.accepted (one_if j.accepted) t.stage.accepted (eqb (s.stage.done + 1) r.plan.moves) c.advanced.accepted in
    let total = c.total in
    let done = c.done in
    let place = c.advanced.place in
    let was = sound.place in
    record {
      legal = subst (IsLegal r.problem.design r.problem.grid r.problem.fixed) (sym c.sites) legal;
      array = c.grid ∙ sound.array;
      cost = subst (CountedStandsFor t.cost r.problem.design r.problem.grid) (sym c.sites) c.cost;
      place = done ∙ ap (λ k. k + 1) was ∙ sym place;
      counted = (omega (arith, few, total, counted), omega (arith, done, total, counted, one));
      stage = c.advanced.stands;
    }

moved_legal : (r : Run) (s : State) (j : Judged) → IsSound r s → ((x : Swap) → j.swap ≡ Some x → IsSwapOf r.problem.grid s.placement.sites x) → ((x : Swap) → j.swap ≡ Some x → MayMove r.problem.fixed x) → (b : Bool) (o : Option Swap) → j.accepted ≡ b → j.swap ≡ o → IsLegal r.problem.design r.problem.grid r.problem.fixed (moved s.placement.sites j)
moved_legal r s j sound lawful may false o eb eo = subst (IsLegal r.problem.design r.problem.grid r.problem.fixed) (sym (moved_not s.placement.sites j eb)) sound.legal
  where
    moved_not : (sites : List Site) (j : Judged) → j.accepted ≡ false → moved sites j ≡ sites
    moved_not sites j e = rw e refl
moved_legal r s j sound lawful may true None eb eo = subst (IsLegal r.problem.design r.problem.grid r.problem.fixed) (sym (moved_none s.placement.sites j eb eo)) sound.legal
  where
    moved_none : (sites : List Site) (j : Judged) → j.accepted ≡ true → j.swap ≡ None → moved sites j ≡ sites
    moved_none sites j e q = rw (e, q) refl
moved_legal r s j sound lawful may true (Some x) eb eo =
    subst (IsLegal r.problem.design r.problem.grid r.problem.fixed) (sym (moved_some s.placement.sites j x eb eo))
    (legal_swapped r.problem.design r.problem.grid r.problem.fixed s.placement.sites x sound.legal (lawful x eo) (may x eo))
  where
    moved_some : (sites : List Site) (j : Judged) (x : Swap) → j.accepted ≡ true → j.swap ≡ Some x → moved sites j ≡ swapped sites x
    moved_some sites j x e q = rw (e, q) refl

-- what is decided is what the judged move does
pub decided_lawful : (g : GridShape) (sites : List Site) (d : Decision) (j : Judged) → IsDecision d j → ((x : Swap) → d.swap ≡ Some x → IsSwapOf g sites x) → (x : Swap) → j.swap ≡ Some x → IsSwapOf g sites x
decided_lawful g sites d j is lawful x e = lawful x (is.swap ∙ e)

-- a judged move leaves a legal placement
pub judged_legal : (r : Run) (s : State) (j : Judged) (k : ℕ) → IsSound r s → j ≡ judged_here r (standing_of s) k → ((x : Swap) → j.swap ≡ Some x → IsSwapOf r.problem.grid s.placement.sites x) → IsLegal r.problem.design r.problem.grid r.problem.fixed (moved s.placement.sites j)
judged_legal r s j k sound says lawful =
    moved_legal r s j sound lawful (λ x e. judged_may_move r.problem s.placement.sites k _ s.stage.range x (ap (λ q. q.swap) (sym says) ∙ e)) j.accepted j.swap refl refl

-- a run has too few moves to run out of numbers
pub numbers_fit : (r : Run) (s : State) → IsLawful r.plan → IsSound r s → s.ended ≡ false → s.done < 2 ^ 61
numbers_fit r s lawful sound e =
    let g = going r s sound e in
    let few = few_moves r.plan s.stage.index s.stage.t lawful g.0.stands in
    let below = g.1 in
    fits s.stage.index s.stage.done r.plan.moves s.done few below sound.place
  where
    fits : (i d m n : ℕ) → (i + 1) * m < 2 ^ 61 → d < m → n ≡ i * m + d → n < 2 ^ 61
    fits i d m n a b p = grind (arith, a, b, p)
