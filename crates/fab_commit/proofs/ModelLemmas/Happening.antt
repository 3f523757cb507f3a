-- Where lists of events lead, and what may be done there.
use Rattle.std.proofs.Common.{◌≡◌, ℕ, zero, suc, ◌+◌, ◌*◌, ◌/◌, ◌%◌, ◌<◌, ◌≤◌, ◌^◌, Bool, true, false, not, cond, ◌==◌, List, [], ◌∷◌, ◌++◌, length, Option, Some, None, slice_get, refl, sym, ap, subst, ◌∙◌, arith, append_assoc}
use Rattle.std.specs.List.{All, AllByRecursion}
use Rattle.std.specs.Prelude.{is_some, slice_index, Result, Ok, Err, OnOk, OnErr}
use Rattle.std.proofs.lemmas.Bool.{false≢true}
use Rattle.std.proofs.lemmas.List.{append-nil}
use Rattle.std.proofs.lemmas.List.Elements.{All-filter, All-push, recursion_from_All}
use Rattle.std.proofs.Math.Nat.{mod-add-div'}
use Rattle.fab_arch.specs.declared.array.Site.{Site}
use Rattle.fab_arch.specs.Grid.{GridShape, kind_at}
use Rattle.fab_net.specs.Netlist.{Netlist}
use Rattle.fab_net.specs.declared.netlist_types.BlockId.{BlockId}
use Rattle.fab_site.specs.declared.placement_types.Swap.{Swap}
use Rattle.fab_site.specs.Placement.{IsLegal, IsSwapOf, same_site, site_of, at}
use Rattle.fab_site.specs.Words.{pick_of}
use Rattle.fab_site.proofs.Swapping.{other_within}
use Rattle.fab_move.specs.declared.proposals.Proposal.{Proposal}
use Rattle.fab_move.specs.declared.proposals.Proposal.TheVariants.{Nothing, Void, Move}
use Rattle.fab_move.specs.Propose.{is_fixed, movable, propose_held, propose_to, propose_for, proposal, target}
use Rattle.fab_move.specs.Judge.{Problem, Judged, judged_as, judged}
use Rattle.fab_move.proofs.Choices.{chosen_below, lawful_to, stands_at}
use Rattle.fab_sched.specs.Annealing.{IsLawful}
use Rattle.fab_sched.proofs.Falling.{few_moves}
use Rattle.fab_commit.specs.declared.run.state.State.{State}
use Rattle.fab_commit.specs.declared.model.events.Way.{Way}
use Rattle.fab_commit.specs.declared.model.events.Event.{Event}
use Rattle.fab_commit.specs.declared.run.swaps.Accepted.{Accepted}
use Rattle.fab_commit.specs.declared.model.judged.JudgedMove.{JudgedMove}
use Rattle.fab_commit.specs.declared.model.world_state.WorldState.{WorldState}
use Rattle.fab_commit.specs.Serial.{Run, Standing, at_start, side, or_zero, judged_here, left_at, from}
use Rattle.fab_commit.specs.Run.Commits.{IsSound, StageStands, standing_of}
use Rattle.fab_commit.specs.Laws.EverySchedule.{TakesTheMove}
use Rattle.fab_commit.specs.Model.World.{World, world, accepted_as, accepted_now, clash, end, happens, run_through, stage_end_at, usable, verdict_for, verdict_here, ways, ways_now, without_number}
use Rattle.fab_move.specs.StampTables.{IsBlock}
use Rattle.fab_commit.specs.Model.Worlds.{HasBlocks, IsReached, IsSerial, IsWhole, KeepsKind, world_of}
use Rattle.fab_commit.proofs.RunLemmas.Committing.{numbers_fit}
use Rattle.fab_commit.proofs.RunLemmas.Folding.{not_ended}
use Rattle.fab_commit.proofs.ModelLemmas.Schedules.{Inv, start_inv, happens_inv, stage_open, takes_the_move, serial}

-- lists of events

pub run_through-append : (p : Run) (w : World) (xs ys : List Event) → run_through p w (xs ++ ys) ≡ run_through p (run_through p w xs) ys
run_through-append p w [] ys = refl
run_through-append p w (e ∷ xs) ys = run_through-append p (happens p w e) xs ys

pub ways-append : (p : Run) (w : World) (xs ys : List Event) → ways p w (xs ++ ys) ≡ ways p w xs ++ ways p (run_through p w xs) ys
ways-append p w [] ys = refl
ways-append p w (e ∷ xs) ys =
    ap (λ l. ways_now p w e ++ l) (ways-append p (happens p w e) xs ys)
    ∙ sym (append_assoc (ways_now p w e) (ways p (happens p w e) xs) (ways p (run_through p (happens p w e) xs) ys))

pub reached_on : (r : Run) (w : World) (told : List Way) (e : Event) → IsReached r w told → IsReached r (happens r w e) (told ++ ways_now r w e)
reached_on r w told e is =
    let start = world (at_start r is.first) in
    record {
      first = is.first;
      events = is.events ++ e ∷ [];
      legal = is.legal;
      here = ap (λ v. happens r v e) is.here ∙ sym (run_through-append r start is.events (e ∷ []));
      ways =
          (λ i. is.ways i ++ ways_now r (is.here i) e)
          ∙ ap (λ l. ways r start is.events ++ l) (sym (append-nil (ways_now r (run_through r start is.events) e)))
          ∙ sym (ways-append r start is.events (e ∷ []));
    }

pub run_inv : (p : Run) (w : World) (events : List Event) → Inv p w → Inv p (run_through p w events)
run_inv p w [] inv = inv
run_inv p w (e ∷ events) inv = run_inv p (happens p w e) events (happens_inv p w e inv)

pub reached_inv : (r : Run) (w : World) (told : List Way) → 0 < r.plan.moves → IsReached r w told → Inv r w
reached_inv r w told pos is =
    let start = at_start r is.first in
    subst (Inv r) (sym is.here) (run_inv r (world start) is.events (start_inv r start pos))

pub reached_serial : (r : Run) (w : World) (told : List Way) → 0 < r.plan.moves → IsReached r w told → IsSerial r w.live told
reached_serial r w told pos is =
    let start = at_start r is.first in
    let law = serial r start is.events pos in
    let live = ap (λ v. v.live) is.here in
    let long : length told ≡ w.live.done =
    ap length is.ways ∙ (let d = law.1 in omega (arith, d)) ∙ sym (ap (λ (x : Standing). x.done) live) in
    record {
      first = is.first;
      legal = is.legal;
      stands = live ∙ law.0 ∙ ap (from r start) (sym (ap length is.ways) ∙ long);
      each = long;
    }

pub reached_takes : (r : Run) (w : World) (told : List Way) → 0 < r.plan.moves → IsReached r w told → TakesTheMove r w
reached_takes r w told pos is = takes_the_move r w (reached_inv r w told pos is)

-- ends of stages

pub end_is : (p : Run) (n : ℕ) (heat : Option ℕ) → 0 < p.plan.moves → n + left_at p.plan.moves n heat ≡ stage_end_at p n heat
end_is p n None pos = omega arith
end_is p n (Some t) pos =
    let m = p.plan.moves in
    let whole : n % m + n / m * m ≡ n = mod-add-div' n m in
    let below : n % m < m = omega (arith, pos) in
    grind (arith, whole, below)

pub done_fits : (r : Run) (s : State) (b : Bool) → IsLawful r.plan → IsSound r s → s.ended ≡ b → s.done < 2 ^ 61
done_fits r s false lawful sound e = numbers_fit r s lawful sound e
done_fits r s true lawful sound e =
    let k = subst (λ b. StageStands r.plan (side r) b s.stage) e sound.stage in
    let few = few_moves r.plan k.4.0 0 lawful k.4.2 in
    fits s.stage.index s.stage.done r.plan.moves s.done k.4.0 few k.4.1 k.2 sound.place
  where
    fits : (i d m n x : ℕ) → (x + 1) * m < 2 ^ 61 → i ≡ x + 1 → d ≡ 0 → n ≡ i * m + d → n < 2 ^ 61
    fits i d m n x a b z p = grind (arith, a, b, z, p)

left_le : (m n : ℕ) (heat : Option ℕ) → left_at m n heat ≤ m
left_le m n None = omega arith
left_le m n (Some t) = omega arith

pub end_fits : (r : Run) (s : State) (heat : Option ℕ) → IsLawful r.plan → IsSound r s → s.done + left_at r.plan.moves s.done heat < 2 ^ 62
end_fits r s heat lawful sound =
    let done = done_fits r s s.ended lawful sound refl in
    let left = left_le r.plan.moves s.done heat in
    let moves = lawful.moves in
    omega (arith, done, left, moves)

-- the swap of a move

abbrev pub Goes : Site → Site → Swap → Type 0
Goes from to s = (s.from ≡ from) × (s.to ≡ to)

swap_or : Proposal → Swap → Swap
swap_or Nothing s = s
swap_or (Void b to) s = s
swap_or (Move t) s = t

is_move : Proposal → Bool
is_move Nothing = false
is_move (Void b to) = false
is_move (Move t) = true

pub goes_to : (fixed : List (Option Site)) (sites : List Site) (b : BlockId) (from to : Site) (s : Swap) → propose_to fixed sites b from to ≡ Move s → Goes from to s
unfolding swap_or is_move
goes_to fixed sites b from to s e = by_site (same_site from to) e
  where
    swap_of : Option BlockId → Swap
    swap_of o = record { block = b; from = from; to = to; other = o }

    by_holder : (o : Option BlockId) → propose_held fixed b from to o ≡ Move s → Goes from to s
    by_holder None q = subst (Goes from to) (ap (λ p. swap_or p s) q) (refl, refl)
    by_holder (Some holder) q = by_fixed (is_fixed fixed holder.0) q
      where
        by_fixed : (c : Bool) → cond c (Void b to) (Move (swap_of (Some holder))) ≡ Move s → Goes from to s
        by_fixed true k = absurd (false≢true (ap is_move k))
        by_fixed false k = subst (Goes from to) (ap (λ p. swap_or p s) k) (refl, refl)

    by_site : (c : Bool) → cond c (Void b to) (propose_held fixed b from to (at sites to)) ≡ Move s → Goes from to s
    by_site true k = absurd (false≢true (ap is_move k))
    by_site false k = by_holder (at sites to) k

-- a swap that is proposed on a legal placement is one of it, where its sites are of one kind
pub proposed_lawful : (d : Netlist) (g : GridShape) (fixed : List (Option Site)) (sites : List Site) (range : ℕ) (ws : List ℕ) (s : Swap) → IsLegal d g fixed sites → kind_at g s.to ≡ kind_at g s.from → proposal d g fixed sites range ws ≡ Move s → IsSwapOf g sites s
unfolding proposal is_move
proposed_lawful d g fixed sites range ws s legal kind e =
    by_choice (slice_get (movable d fixed) (pick_of (slice_index ws 0) (length (movable d fixed)))) refl e
  where
    by_choice : (o : Option ℕ) → slice_get (movable d fixed) (pick_of (slice_index ws 0) (length (movable d fixed))) ≡ o → propose_for d g fixed sites range ws o ≡ Move s → IsSwapOf g sites s
    by_choice None q k = absurd (false≢true (ap is_move k))
    by_choice (Some b) q k =
        let there = target d g b (site_of sites b) range ws in
        let goes = goes_to fixed sites (record { 0 = b }) (site_of sites b) there s k in
        let all = legal.all in
        let low = chosen_below d fixed (pick_of (slice_index ws 0) (length (movable d fixed))) b q in
        lawful_to g fixed sites (record { 0 = b }) (site_of sites b) there s
        (stands_at sites b (omega (arith, all, low)))
        (ap (kind_at g) (sym goes.1) ∙ kind ∙ ap (kind_at g) goes.0)
        (ap is_some (legal.fit b (omega (arith, all, low))))
        k

-- the swap of a judgement is the proposed one
judged_lawful : (p : Problem) (sites : List Site) (k t range : ℕ) (s : Swap) → IsLegal p.design p.grid p.fixed sites → kind_at p.grid s.to ≡ kind_at p.grid s.from → (judged p sites k t range).swap ≡ Some s → IsSwapOf p.grid sites s
unfolding judged
judged_lawful p sites k t range s legal kind e = by_proposal (proposal p.design p.grid p.fixed sites range (p.words k)) refl e
  where
    same : (a b : Swap) → Some a ≡ Some b → a ≡ b
    same a b q = cc

    by_proposal : (o : Proposal) → proposal p.design p.grid p.fixed sites range (p.words k) ≡ o → (judged_as p sites t (slice_index (p.words k) 3) o).swap ≡ Some s → IsSwapOf p.grid sites s
    by_proposal Nothing q h = absurd cc
    by_proposal (Void b to) q h = absurd cc
    by_proposal (Move m) q h = proposed_lawful p.design p.grid p.fixed sites range (p.words k) s legal kind (q ∙ ap (λ x. Move x) (same m s h))

-- what is said to be the next move has a swap of the live placement
pub taken_lawful : (r : Run) (s : State) (j : Judged) (k : ℕ) → IsSound r s → j ≡ judged_here r (standing_of s) k → ((x : Swap) → j.swap ≡ Some x → kind_at r.problem.grid x.to ≡ kind_at r.problem.grid x.from)
    → (x : Swap) → j.swap ≡ Some x → IsSwapOf r.problem.grid s.placement.sites x
taken_lawful r s j k sound says kinds x e =
    judged_lawful r.problem s.placement.sites k (or_zero (standing_of s).heat) s.stage.range x sound.legal (kinds x e) (ap (λ q. q.swap) (sym says) ∙ e)

-- accepted swaps

within : (sites : List Site) (b : ℕ) (s : Site) → slice_get sites b ≡ Some s → b < length sites
within [] b s e = absurd cc
within (x ∷ sites) zero s e = omega arith
within (x ∷ sites) (suc b) s e = let l = within sites b s e in omega (arith, l)

other_is : (d : Netlist) (o : Option BlockId) → ((b : BlockId) → o ≡ Some b → b.0 < length d.kinds) → IsBlock d o
other_is d None h = tt
other_is d (Some b) h = h b refl

pub blocks_of_swap : (d : Netlist) (g : GridShape) (sites : List Site) (n : ℕ) (s : Swap) → length sites ≡ length d.kinds → IsSwapOf g sites s → HasBlocks d (record { number = n; swap = s })
blocks_of_swap d g sites n s all is =
    let low = within sites s.block.0 s.from is.stands in (
      omega (arith, low, all),
      other_is d s.other (λ b e. let l = other_within g sites s b is e in omega (arith, l, all)),
    )

pub blocks_after : (d : Netlist) (g : GridShape) (sites : List Site) (log : List Accepted) (n : ℕ) (j : Judged) → length sites ≡ length d.kinds → ((s : Swap) → j.swap ≡ Some s → IsSwapOf g sites s) → All (HasBlocks d) log → All (HasBlocks d) (log ++ accepted_now n j)
blocks_after d g sites log n j all lawful h = by_answer j.accepted j.swap refl
  where
    by_answer : (b : Bool) (o : Option Swap) → j.swap ≡ o → All (HasBlocks d) (log ++ cond b (accepted_as n o) [])
    by_answer false o e = subst (All (HasBlocks d)) (sym (append-nil log)) h
    by_answer true None e = subst (All (HasBlocks d)) (sym (append-nil log)) h
    by_answer true (Some s) e = All-push (HasBlocks d) log (record { number = n; swap = s }) h (blocks_of_swap d g sites n s all (lawful s e))

-- an event that was answered leads on, and one that was not leaves all as it was
pub reached_after : {A E : Type 0} (answer : Result A E) (r : Run) (w now : World) (told more : List Way) (e : Event)
    → OnOk answer (now ≡ happens r w e) → OnOk answer (more ≡ told ++ ways_now r w e) → OnErr answer ((now ≡ w) × (more ≡ told)) → IsReached r w told → IsReached r now more
reached_after (Ok a) r w now told more e here ways same is =
    subst (λ l. IsReached r now l) (sym ways) (subst (λ v. IsReached r v (told ++ ways_now r w e)) (sym here) (reached_on r w told e is))
reached_after (Err a) r w now told more e here ways same is =
    subst (λ l. IsReached r now l) (sym same.1) (subst (λ v. IsReached r v told) (sym same.0) is)

-- commits

-- where a move is left in the stage, the run goes on
pub live_going : (r : Run) (s : WorldState) → IsWhole r s → IsReached r (world_of s) s.ways.items → s.live.done < end r (world_of s) → s.live.ended ≡ false
live_going r s whole reached before =
    let moves = whole.plan.moves in
    let pos : 0 < r.plan.moves = omega (arith, moves) in
    not_ended s.live.ended s.live.stage.t (stage_open r (world_of s) (reached_inv r (world_of s) s.ways.items pos reached) before)

found_in : (P : JudgedMove → Type 0) (k : ℕ) (vs : List JudgedMove) (v : JudgedMove) → AllByRecursion P vs → verdict_for k vs ≡ Some v → P v
found_in P k [] v h e = absurd cc
found_in P k (u ∷ vs) v h e = here (found_in P k vs v h.1) (u.number == k) e
  where
    same : (a b : JudgedMove) → Some a ≡ Some b → a ≡ b
    same a b q = cc

    here : (verdict_for k vs ≡ Some v → P v) → (b : Bool) → cond b (Some u) (verdict_for k vs) ≡ Some v → P v
    here later true q = subst P (same u v q) h.0
    here later false q = later q

pub usable_is : (r : Run) (w : World) (v : JudgedMove) → verdict_here w ≡ Some v → clash r.problem.design w.accepted v.base v.judged.footprint ≡ false → usable r w (verdict_here w) ≡ Some v
usable_is r w v found free = ap (usable r w) found ∙ ap (λ b. cond b None (Some v)) free

-- a verdict that stands and that no accepted swap touched
pub record IsTaken (r : Run) (s : WorldState) (v : JudgedMove) : Type 0 where
  pub found : verdict_for s.live.done s.verdicts.items ≡ Some v
  pub free : clash r.problem.design s.accepted.items v.base v.judged.footprint ≡ false

pub taken_says : (r : Run) (s : WorldState) (v : JudgedMove) → IsWhole r s → IsReached r (world_of s) s.ways.items → IsTaken r s v → v.judged ≡ judged_here r (standing_of s.live) s.live.done
taken_says r s v whole reached is =
    let moves = whole.plan.moves in
    let pos : 0 < r.plan.moves = omega (arith, moves) in
    reached_takes r (world_of s) s.ways.items pos reached v (usable_is r (world_of s) v is.found is.free)

pub taken_swaps : (r : Run) (s : WorldState) (v : JudgedMove) → IsWhole r s → IsReached r (world_of s) s.ways.items → IsTaken r s v → (x : Swap) → v.judged.swap ≡ Some x → IsSwapOf r.problem.grid s.live.placement.sites x
taken_swaps r s v whole reached is =
    taken_lawful r s.live v.judged s.live.done whole.live (taken_says r s v whole reached is)
    (found_in (KeepsKind r.problem.grid) s.live.done s.verdicts.items v (recursion_from_All (KeepsKind r.problem.grid) s.verdicts.items whole.kinds) is.found)

-- what is kept once a move is made and its verdict dropped
pub record IsSettled (s : WorldState) (live : State) (log : List Accepted) (n : ℕ) (now : WorldState) : Type 0 where
  pub live_is : now.live ≡ live
  pub older : now.older ≡ s.older
  pub accepted : now.accepted.items ≡ log
  pub verdicts : now.verdicts.items ≡ without_number n s.verdicts.items

pub whole_after : (r : Run) (s now : WorldState) (live : State) (log : List Accepted) (n : ℕ) → IsWhole r s → IsSound r live → All (HasBlocks r.problem.design) log → IsSettled s live log n now → IsWhole r now
whole_after r s now live log n whole sound blocks is =
    let kept = All-filter (λ (v : JudgedMove). not (v.number == n)) (KeepsKind r.problem.grid) s.verdicts.items whole.kinds in
    record {
      plan = whole.plan;
      live = subst (IsSound r) (sym is.live_is) sound;
      older = subst (IsSound r) (sym is.older) whole.older;
      blocks = subst (All (HasBlocks r.problem.design)) (sym is.accepted) blocks;
      kinds = subst (All (KeepsKind r.problem.grid)) (sym is.verdicts) kept;
    }
