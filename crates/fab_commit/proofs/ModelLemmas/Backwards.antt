-- What a swap leaves alone can be told from the placement after it, too.
use Rattle.std.proofs.Common.{◌≡◌, ◌≢◌, ℕ, zero, suc, ◌+◌, ◌<◌, ◌≤◌, Bool, true, false, cond, ◌&&◌, ◌||◌, List, [], ◌∷◌, ◌++◌, Option, Some, None, is_some, slice_get, slice_set, length, refl, sym, ap, subst, ◌∙◌, inl, inr, arith}
use Rattle.std.specs.Prelude.{nat_le, slice_index}
use Rattle.std.proofs.lemmas.Bool.{cases_Bool, false≢true, le-leb, or_parts}
use Rattle.std.proofs.lemmas.List.{set_comm}
use Rattle.std.proofs.lemmas.List.Folds.{list_any-append}
use Rattle.fab_arch.specs.declared.array.Site.{Site}
use Rattle.fab_net.specs.declared.netlist_types.BlockId.{BlockId}
use Rattle.fab_net.specs.Netlist.{Netlist}
use Rattle.fab_site.specs.declared.placement_types.Swap.{Swap}
use Rattle.fab_site.specs.Placement.{at, same_site, site_of, swapped, with_other}
use Rattle.fab_site.specs.Words.{pick_of}
use Rattle.fab_site.proofs.Swaps.{IsHeldBy, IsReady, Placed, held_by, length-swapped, placed}
use Rattle.fab_cost.specs.Swapping.{swapped_by}
use Rattle.fab_move.specs.declared.marks.Mark.{Mark}
use Rattle.fab_move.specs.declared.marks.Mark.TheVariants.{Place}
use Rattle.fab_move.specs.declared.proposals.Proposal.{Proposal}
use Rattle.fab_move.specs.declared.proposals.Proposal.TheVariants.{Nothing, Void, Move}
use Rattle.fab_move.specs.Judge.{Judged, Problem, block_marks, footprint, has_mark, judged, judged_as, meet, moved, other_marks, same_mark, touched}
use Rattle.fab_move.specs.Propose.{is_fixed, movable, proposal, propose_for, propose_held, propose_to, target}
use Rattle.fab_move.proofs.Choices.{chosen_below}
use Rattle.fab_commit.specs.declared.run.swaps.Accepted.{Accepted}
use Rattle.fab_commit.specs.Serial.{Run, Standing, after_move, from, judged_here, moves_left, one_if, or_zero, side, step}
use Rattle.fab_commit.specs.Model.History.{accepted_at, accepted_from}
use Rattle.fab_commit.specs.Model.World.{accepted_as, accepted_now, clash}
use Rattle.fab_commit.proofs.ModelLemmas.Marked.{same_site_refl}
use Rattle.fab_commit.proofs.ModelLemmas.Noninterference.{judged_kept, propose_kept}
use Rattle.fab_commit.proofs.ModelLemmas.Sitings.{OtherAt, StandsSo}
use Rattle.fab_commit.proofs.ModelLemmas.TurnLaws.{step_bounds}
use Rattle.fab_commit.proofs.RunLemmas.Folding.{left_step, not_over, step_is, still_hot}
use Rattle.fab_commit.proofs.RunLemmas.Owning.{unspoiled}
use Rattle.fab_sched.specs.Annealing.{next_heat, next_range}

-- a swap made back

-- the swap that undoes this one
abbrev back : Swap → Swap
back s = record { block = s.block; from = s.to; to = s.from; other = s.other }

set_back : (sites : List Site) (b : ℕ) (x y : Site) → site_of sites b ≡ y → slice_set (slice_set sites b x) b y ≡ sites
set_back [] b x y e = refl
set_back (z ∷ zs) zero x y e = ap (λ (v : Site). v ∷ zs) (sym e)
set_back (z ∷ zs) (suc b) x y e = ap (λ l. z ∷ l) (set_back zs b x y e)

with_other_back : (sites : List Site) (b : ℕ) (from to : Site) (o : Option BlockId) → site_of sites b ≡ from → from ≢ to → IsHeldBy sites to o
    → with_other (slice_set (with_other (slice_set sites b to) o from) b from) o to ≡ sites
with_other_back sites b from to None stands away held = set_back sites b to from stands
with_other_back sites b from to (Some c) stands away (within, held) =
    let apart : c.0 ≢ b = (λ e. away (sym stands ∙ ap (site_of sites) (sym e) ∙ held)) in
    ap (λ l. slice_set l c.0 to) (set_comm (slice_set sites b to) c.0 b from from apart)
    ∙ ap (λ l. slice_set (slice_set l c.0 from) c.0 to) (set_back sites b to from stands)
    ∙ set_back sites c.0 from to held

swapped_back : (sites : List Site) (s : Swap) → IsReady sites s → swapped (swapped sites s) (back s) ≡ sites
swapped_back sites s r = with_other_back sites s.block.0 s.from s.to s.other r.stands r.away r.held

block_at : (sites after : List Site) (b : ℕ) (from to : Site) (o : Option BlockId) → site_of sites b ≡ from → from ≢ to → IsHeldBy sites to o → Placed sites b from to o after b → site_of after b ≡ to
block_at sites after b from to None stands away held p = elim p [ inl (is, there) ↦ there | inr (isnt, there) ↦ absurd (isnt refl) ]
block_at sites after b from to (Some c) stands away (within, held) p = elim p [
  | inl (is, there) ↦ there
  | inr q ↦ elim q [
    | inl (is, there) ↦ absurd (away (sym stands ∙ ap (site_of sites) is ∙ held))
    | inr (isnt, not_other, there) ↦ absurd (isnt refl)
  ]
]

other_at : (sites after : List Site) (b : ℕ) (from to : Site) (o : Option BlockId) → site_of sites b ≡ from → from ≢ to → IsHeldBy sites to o → ((c : ℕ) → Placed sites b from to o after c) → OtherAt after from o
other_at sites after b from to None stands away held p = tt
other_at sites after b from to (Some c) stands away (within, held) p = elim (p c.0) [
  | inl (is, there) ↦ absurd (away (sym stands ∙ ap (site_of sites) (sym is) ∙ held))
  | inr q ↦ elim q [
    | inl (is, there) ↦ there
    | inr (isnt, not_other, there) ↦ absurd (not_other refl)
  ]
]

stands_back : (sites : List Site) (s : Swap) → IsReady sites s → StandsSo (swapped sites s) (back s)
stands_back sites s r = record {
  stands = block_at sites (swapped sites s) s.block.0 s.from s.to s.other r.stands r.away r.held (placed sites s s.block.0 r);
  holds = other_at sites (swapped sites s) s.block.0 s.from s.to s.other r.stands r.away r.held (λ c. placed sites s c r);
}

-- a swap and the one that undoes it touch the same

or_turned : (a b c : Bool) → (a || (b || c)) ≡ (b || (a || c))
or_turned true true c = refl
or_turned true false c = refl
or_turned false b c = refl

meet_turned : (x y : Mark) (xs ys : List Mark) → meet (x ∷ y ∷ xs) ys ≡ meet (y ∷ x ∷ xs) ys
meet_turned x y xs [] = refl
meet_turned x y xs (m ∷ ys) = (λ i. or_turned (same_mark m x) (same_mark m y) (has_mark m xs) i || meet_turned x y xs ys i)

touched_back : (d : Netlist) (s : Swap) (marks : List Mark) → meet (touched d (back s)) marks ≡ meet (touched d s) marks
touched_back d s marks = meet_turned (Place s.to) (Place s.from) (block_marks d s.block ++ other_marks d s.other) marks

-- a proposal on the placement after a swap, where the swap touches nothing that this proposal rests on
pub propose_back : (p : Problem) (sites : List Site) (s : Swap) (range : ℕ) (words : List ℕ) → IsReady sites s
    → meet (touched p.design s) (footprint p.design (proposal p.design p.grid p.fixed (swapped sites s) range words)) ≡ false
    → proposal p.design p.grid p.fixed (swapped sites s) range words ≡ proposal p.design p.grid p.fixed sites range words
propose_back p sites s range words r h =
    let q = proposal p.design p.grid p.fixed (swapped sites s) range words in
    sym (propose_kept p (swapped sites s) (back s) range words (stands_back sites s r) (touched_back p.design s (footprint p.design q) ∙ h))
    ∙ ap (λ l. proposal p.design p.grid p.fixed l range words) (swapped_back sites s r)

-- likewise its judgement
pub judged_back : (p : Problem) (sites : List Site) (s : Swap) (k t range : ℕ) → IsReady sites s
    → meet (touched p.design s) (judged p (swapped sites s) k t range).footprint ≡ false
    → judged p (swapped sites s) k t range ≡ judged p sites k t range
judged_back p sites s k t range r h =
    sym (judged_kept p (swapped sites s) (back s) k t range (stands_back sites s r) (touched_back p.design s (judged p (swapped sites s) k t range).footprint ∙ h))
    ∙ ap (λ l. judged p l k t range) (swapped_back sites s r)

-- what is proposed can be made

abbrev CanBeMade : List Site → Proposal → Type 0
CanBeMade sites Nothing = Unit {0}
CanBeMade sites (Void b to) = Unit {0}
CanBeMade sites (Move s) = IsReady sites s

held_can : (fixed : List (Option Site)) (sites : List Site) (b : BlockId) (from to : Site) (o : Option BlockId) → b.0 < length sites → site_of sites b.0 ≡ from → from ≢ to → IsHeldBy sites to o → CanBeMade sites (propose_held fixed b from to o)
held_can fixed sites b from to None within stands away held = record { within = within; stands = stands; away = away; held = held }
held_can fixed sites b from to (Some c) within stands away held =
    elim (is_fixed fixed c.0) as (λ v. CanBeMade sites (cond v (Void b to) (Move (record { block = b; from = from; to = to; other = Some c })))) [
      | true ↦ tt
      | false ↦ record { within = within; stands = stands; away = away; held = held }
    ]

to_can : (fixed : List (Option Site)) (sites : List Site) (b : BlockId) (from to : Site) → b.0 < length sites → site_of sites b.0 ≡ from → CanBeMade sites (propose_to fixed sites b from to)
to_can fixed sites b from to within stands = by_site (same_site from to) refl
  where
    by_site : (v : Bool) → same_site from to ≡ v → CanBeMade sites (cond v (Void b to) (propose_held fixed b from to (at sites to)))
    by_site true e = tt
    by_site false e =
        held_can fixed sites b from to (at sites to) within stands
        (λ q. false≢true (sym e ∙ ap (same_site from) (sym q) ∙ same_site_refl from))
        (held_by sites to (at sites to) refl)

proposal_can : (p : Problem) (sites : List Site) (range : ℕ) (words : List ℕ) → length sites ≡ length p.design.kinds → CanBeMade sites (proposal p.design p.grid p.fixed sites range words)
unfolding proposal
proposal_can p sites range words all = by_choice (slice_get (movable p.design p.fixed) n) refl
  where
    n : ℕ
    n = pick_of (slice_index words 0) (length (movable p.design p.fixed))

    by_choice : (o : Option ℕ) → slice_get (movable p.design p.fixed) n ≡ o → CanBeMade sites (propose_for p.design p.grid p.fixed sites range words o)
    by_choice None e = tt
    by_choice (Some b) e =
        let low = chosen_below p.design p.fixed n b e in
        to_can p.fixed sites (record { 0 = b }) (site_of sites b) (target p.design p.grid b (site_of sites b) range words) (omega (arith, all, low)) refl

-- the swap of a judgement
pub judged_can : (p : Problem) (sites : List Site) (k t range : ℕ) (s : Swap) → length sites ≡ length p.design.kinds → (judged p sites k t range).swap ≡ Some s → IsReady sites s
unfolding judged
judged_can p sites k t range s all e = by_proposal (proposal p.design p.grid p.fixed sites range (p.words k)) (proposal_can p sites range (p.words k) all) e
  where
    same : (a b : Swap) → Some a ≡ Some b → a ≡ b
    same a b q = cc

    by_proposal : (o : Proposal) → CanBeMade sites o → (judged_as p sites t (slice_index (p.words k) 3) o).swap ≡ Some s → IsReady sites s
    by_proposal Nothing can h = absurd cc
    by_proposal (Void b to) can h = absurd cc
    by_proposal (Move m) can h = subst (IsReady sites) (same m s h) can

-- moves

length_moved : (sites : List Site) (b : Bool) (o : Option Swap) → length (cond b (swapped_by sites o) sites) ≡ length sites
length_moved sites false o = refl
length_moved sites true None = refl
length_moved sites true (Some s) = length-swapped sites s

-- a judgement on the placement after a move, where the move, if it is accepted, touches nothing that this judgement rests on
moved_back : (p : Problem) (sites : List Site) (n base k t range : ℕ) (b : Bool) (o : Option Swap) → base ≤ n → ((s : Swap) → o ≡ Some s → IsReady sites s)
    → clash p.design (cond b (accepted_as n o) []) base (judged p (cond b (swapped_by sites o) sites) k t range).footprint ≡ false
    → judged p sites k t range ≡ judged p (cond b (swapped_by sites o) sites) k t range
moved_back p sites n base k t range false o low ready h = refl
moved_back p sites n base k t range true None low ready h = refl
moved_back p sites n base k t range true (Some s) low ready h =
    let touch = meet (touched p.design s) (judged p (swapped sites s) k t range).footprint in
    let free : touch ≡ false = ap (λ v. v && touch) (sym (le-leb base n low)) ∙ (or_parts (nat_le base n && touch) false h).0 in
    sym (judged_back p sites s k t range (ready s refl) free)

pub clash-append : (d : Netlist) (xs ys : List Accepted) (base : ℕ) (marks : List Mark) → clash d (xs ++ ys) base marks ≡ (clash d xs base marks || clash d ys base marks)
clash-append d xs ys base marks = list_any-append (λ (a : Accepted). nat_le base a.number && meet (touched d a.swap) marks) xs ys

-- a move within a stage keeps the temperature and the range
judged_after : (r : Run) (x : Standing) (k : ℕ) → 1 < moves_left r x → judged_here r (step r x) k ≡ judged r.problem (moved x.sites (judged_here r x x.done)) k (or_zero x.heat) x.range
judged_after r x k l =
    let hot = still_hot r x (omega (arith, l)) in
    let on = not_over r x l in
    let j = judged_here r x x.done in
    let took = x.accepted + one_if j.accepted in
    ap (λ (y : Standing). judged_here r y k) (step_is r x hot)
    ∙ (λ i. judged r.problem (moved x.sites j) k (or_zero (cond (on i) (next_heat r.plan x.range took x.heat) x.heat)) (cond (on i) (next_range r.plan (side r) x.range took) x.range))

step_back : (r : Run) (x : Standing) (k base : ℕ) → length x.sites ≡ length r.problem.design.kinds → base ≤ x.done → 1 < moves_left r x
    → clash r.problem.design (accepted_at r x) base (judged_here r (step r x) k).footprint ≡ false
    → judged_here r x k ≡ judged_here r (step r x) k
step_back r x k base all low l h =
    let d = r.problem.design in
    let hot = still_hot r x (omega (arith, l)) in
    let j = judged_here r x x.done in
    let after = judged_after r x k l in
    let free : clash d (accepted_now x.done j) base (judged r.problem (moved x.sites j) k (or_zero x.heat) x.range).footprint ≡ false =
    (λ i. clash d (cond (sym hot i) (accepted_now x.done j) []) base (sym after i).footprint) ∙ h in
    moved_back r.problem x.sites x.done base k (or_zero x.heat) x.range j.accepted j.swap low
    (λ s e. judged_can r.problem x.sites x.done (or_zero x.heat) x.range s all e) free
    ∙ sym after

pub length_step : (r : Run) (x : Standing) → length (step r x).sites ≡ length x.sites
length_step r x = by_heat (is_some x.heat)
  where
    by_heat : (b : Bool) → length (cond b (after_move r x (judged_here r x x.done)) x).sites ≡ length x.sites
    by_heat true = length_moved x.sites (judged_here r x x.done).accepted (judged_here r x x.done).swap
    by_heat false = refl

-- moves leave as many blocks as there were
pub length_from : (r : Run) (x : Standing) (n : ℕ) → length (from r x n).sites ≡ length x.sites
length_from r x zero = refl
length_from r x (suc n) = length_from r (step r x) n ∙ length_step r x

-- the judgement of a move on the live placement is that on an older one of the stage, if no move accepted since touched what it rests on
pub unspoiled_back : (r : Run) (x : Standing) (n k base : ℕ) → length x.sites ≡ length r.problem.design.kinds → base ≤ x.done → n < moves_left r x
    → clash r.problem.design (accepted_from r x n) base (judged_here r (from r x n) k).footprint ≡ false
    → judged_here r x k ≡ judged_here r (from r x n) k
unspoiled_back r x zero k base all low l h = refl
unspoiled_back r x (suc n) k base all low l h =
    let d = r.problem.design in
    let there = judged_here r (from r (step r x) n) k in
    let one = left_step r x (omega (arith, l)) in
    let high = (step_bounds r x).0 in
    let long = length_step r x in
    let parts = or_parts (clash d (accepted_at r x) base there.footprint) (clash d (accepted_from r (step r x) n) base there.footprint) (sym (clash-append d (accepted_at r x) (accepted_from r (step r x) n) base there.footprint) ∙ h) in
    let rest = unspoiled_back r (step r x) n k base (long ∙ all) (omega (arith, low, high)) (omega (arith, l, one)) parts.1 in
    step_back r x k base all low (omega (arith, l)) (ap (λ (j : Judged). clash d (accepted_at r x) base j.footprint) rest ∙ parts.0)
    ∙ rest

-- whether the next move's judgement on an older placement was spoilt can be told by what its judgement on the live placement rests on
pub same_clash : (r : Run) (x : Standing) (n : ℕ) → 0 < r.plan.moves → length x.sites ≡ length r.problem.design.kinds → n < moves_left r x
    → clash r.problem.design (accepted_from r x n) x.done (judged_here r (from r x n) (x.done + n)).footprint
    ≡ clash r.problem.design (accepted_from r x n) x.done (judged_here r x (x.done + n)).footprint
same_clash r x n pos all l =
    let touches = λ (j : Judged). clash r.problem.design (accepted_from r x n) x.done j.footprint in
    let older = judged_here r x (x.done + n) in
    let live = judged_here r (from r x n) (x.done + n) in
    elim (cases_Bool (touches live)) [
      | inr free ↦ ap touches (sym (unspoiled_back r x n (x.done + n) x.done all (omega arith) l free))
      | inl e ↦ elim (cases_Bool (touches older)) [
        | inr free ↦ ap touches (sym (unspoiled r x n pos l free))
        | inl f ↦ e ∙ sym f
      ]
    ]
