-- Proofs of the laws.
use Rattle.std.proofs.Common.{◌≡◌, ℕ, zero, suc, ◌-◌, ◌<◌, Bool, true, false, cond, ◌==◌, List, [], ◌∷◌, Some, is_some, refl, ap, subst, ◌∙◌, arith}
use Rattle.std.specs.Prelude.{slice_index}
use Rattle.std.specs.List.{AllByRecursion}
use Rattle.std.proofs.lemmas.Bool.{eqb-true}
use Rattle.std.proofs.lemmas.List.Elements.{recursion_from_All}
use Rattle.fab_arch.specs.declared.array.Site.{Site}
use Rattle.fab_site.specs.declared.placement_types.Swap.{Swap}
use Rattle.fab_site.specs.Placement.{IsLegal, swapped}
use Rattle.fab_move.specs.declared.proposals.Proposal.{Proposal}
use Rattle.fab_move.specs.declared.proposals.Proposal.TheVariants.{Nothing, Void, Move}
use Rattle.fab_move.specs.Propose.{proposal}
use Rattle.fab_move.specs.Judge.{Problem, judged_as, judged, moved}
use Rattle.fab_commit.specs.declared.model.events.Event.{Event}
use Rattle.fab_commit.specs.declared.model.judged.JudgedMove.{JudgedMove}
use Rattle.fab_commit.specs.Serial.{Run, Standing, after_move, judged_here, or_zero, step}
use Rattle.fab_commit.specs.Model.World.{world, run_through, verdict_for}
use Rattle.fab_commit.specs.Model.History.{accepted_from}
use Rattle.fab_commit.specs.Laws.Moves.{AcceptedSwapsAreSerial, MovesCompose, PlacementsStayLegal, PlacementsStayLegalByKinds, ProposesKinds, RedoneIsSerial, StampsTell, VerdictsAreOfTheirBase}
use Rattle.fab_commit.proofs.RunLemmas.Kept.{legal_swapped, may_move}
use Rattle.fab_commit.proofs.ModelLemmas.Happening.{proposed_lawful, run_inv}
use Rattle.fab_commit.proofs.ModelLemmas.History.{Hist, IsOf, start_hist, run_hist, redone_is}
use Rattle.fab_commit.proofs.ModelLemmas.Schedules.{Inv, start_inv, from-add}
use Rattle.fab_commit.proofs.ModelLemmas.Proposing.{proposes_kinds}
use Rattle.fab_commit.proofs.ModelLemmas.Stamps.{clash-stamps, stamp-push}

pub moves_compose : MovesCompose
moves_compose r x m n = from-add r x m n

-- a judged move leaves a legal placement
judged_legal : (p : Problem) (sites : List Site) (k t range : ℕ) → ProposesKinds p → IsLegal p.design p.grid p.fixed sites → IsLegal p.design p.grid p.fixed (moved sites (judged p sites k t range))
unfolding judged
judged_legal p sites k t range kinds legal = by_proposal (proposal p.design p.grid p.fixed sites range (p.words k)) refl
  where
    by_answer : (b : Bool) (s : Swap) → IsLegal p.design p.grid p.fixed (swapped sites s) → IsLegal p.design p.grid p.fixed (cond b (swapped sites s) sites)
    by_answer true s h = h
    by_answer false s h = legal

    by_proposal : (o : Proposal) → proposal p.design p.grid p.fixed sites range (p.words k) ≡ o → IsLegal p.design p.grid p.fixed (moved sites (judged_as p sites t (slice_index (p.words k) 3) o))
    by_proposal Nothing q = legal
    by_proposal (Void b to) q = legal
    by_proposal (Move s) q =
        by_answer (judged_as p sites t (slice_index (p.words k) 3) (Move s)).accepted s
        (legal_swapped p.design p.grid p.fixed sites s legal
        (proposed_lawful p.design p.grid p.fixed sites range (p.words k) s legal (kinds sites range k s legal q) q)
        (may_move p.design p.grid p.fixed sites range (p.words k) s q))

step_legal : (r : Run) (x : Standing) (b : Bool) → is_some x.heat ≡ b → ProposesKinds r.problem → IsLegal r.problem.design r.problem.grid r.problem.fixed x.sites
    → IsLegal r.problem.design r.problem.grid r.problem.fixed (cond b (after_move r x (judged_here r x x.done)) x).sites
step_legal r x true e kinds legal = judged_legal r.problem x.sites x.done (or_zero x.heat) x.range kinds legal
step_legal r x false e kinds legal = legal

pub legal_by_kinds : PlacementsStayLegalByKinds
legal_by_kinds r x zero kinds legal = legal
legal_by_kinds r x (suc n) kinds legal = legal_by_kinds r (step r x) n kinds (step_legal r x (is_some x.heat) refl kinds legal)

pub placements_stay_legal : PlacementsStayLegal
placements_stay_legal r x n small = legal_by_kinds r x n (proposes_kinds r.problem small)

history : (p : Run) (x : Standing) (events : List Event) → 0 < p.plan.moves → Hist p x (run_through p (world x) events)
history p x events pos = run_hist p x (world x) events (start_inv p x pos) (start_hist p x)

invariant : (p : Run) (x : Standing) (events : List Event) → 0 < p.plan.moves → Inv p (run_through p (world x) events)
invariant p x events pos = run_inv p (world x) events (start_inv p x pos)

pub verdicts_of_their_base : VerdictsAreOfTheirBase
verdicts_of_their_base p x events pos = λ k d l.
    let good = (invariant p x events pos).verdicts k d l in
    let is = (history p x events pos).verdicts k d l in
    record { due = good.due; in_stage = good.in_stage; based = (is.0, good.based); judged_there = is.1 }

pub accepted_serial : AcceptedSwapsAreSerial
accepted_serial p x events pos =
    let h = history p x events pos in
    let now = run_through p (world x) events in
    let n : h.moves ≡ now.live.done - x.done = (let e = h.done in omega (arith, e)) in
    h.log ∙ ap (accepted_from p x) n

found_there : (P : JudgedMove → Type 0) (k : ℕ) (vs : List JudgedMove) (v : JudgedMove) → AllByRecursion P vs → verdict_for k vs ≡ Some v → P v × (v.number ≡ k)
found_there P k [] v h e = absurd cc
found_there P k (u ∷ vs) v h e = here (found_there P k vs v h.1) (u.number == k) refl e
  where
    same : (a b : JudgedMove) → Some a ≡ Some b → a ≡ b
    same a b q = cc

    here : (verdict_for k vs ≡ Some v → P v × (v.number ≡ k)) → (b : Bool) → (u.number == k) ≡ b → cond b (Some u) (verdict_for k vs) ≡ Some v → P v × (v.number ≡ k)
    here later true t q = subst (λ (w : JudgedMove). P w × (w.number ≡ k)) (same u v q) (h.0, eqb-true u.number k t)
    here later false t q = later q

pub redone_serial : RedoneIsSerial
redone_serial p x events v pos found =
    let h = history p x events pos in
    let now = run_through p (world x) events in
    let there = found_there (IsOf p x) now.live.done now.verdicts v (recursion_from_All (IsOf p x) now.verdicts h.verdicts) found in
    redone_is p x now v h there.0 there.1

pub stamps_tell : StampsTell
stamps_tell = record { clash_is = clash-stamps; stamp_is = stamp-push }
