-- The design without its nets of many terminals: a move that accepted swaps touch through such nets alone proposes the same, and changes the cost
-- of all other nets as before.
use Rattle.std.proofs.Common.{◌≡◌, ℕ, zero, suc, ◌+◌, ◌<◌, ◌≤◌, Bool, true, false, cond, not, ◌&&◌, ◌||◌, List, [], ◌∷◌, ◌++◌, map, Option, Some, None, length, refl, sym, ap, ◌∙◌, inl, inr, arith}
use Rattle.std.specs.Prelude.{nat_le, slice_index}
use Rattle.std.specs.List.{filter}
use Rattle.std.proofs.lemmas.Bool.{false_from_ne_true, false≢true, le-leb, or_cases, or_left, or_parts, or_right}
use Rattle.fab_arch.specs.declared.array.Site.{Site}
use Rattle.fab_net.specs.declared.netlist_types.BlockId.{BlockId}
use Rattle.fab_net.specs.Netlist.{Netlist, nets_of}
use Rattle.fab_site.specs.declared.placement_types.Swap.{Swap}
use Rattle.fab_site.proofs.Swaps.{IsHeldBy, IsReady}
use Rattle.fab_cost.specs.Runs.{few_of, is_large}
use Rattle.fab_cost.specs.Swapping.{swapped_by}
use Rattle.fab_cost.proofs.Few.{nets_few}
use Rattle.fab_move.specs.declared.marks.Mark.{Mark}
use Rattle.fab_move.specs.declared.marks.Mark.TheVariants.{Block, Net, Place}
use Rattle.fab_move.specs.Judge.{Judged, Problem, block_marks, has_mark, judged, judged_as, meet, moved, other_marks, same_mark, touched}
use Rattle.fab_move.specs.Propose.{proposal, target}
use Rattle.fab_move.proofs.Judgements.{judged_on}
use Rattle.fab_commit.specs.declared.run.swaps.Accepted.{Accepted}
use Rattle.fab_commit.specs.Serial.{Run, Standing, from, judged_here, moves_left, one_if, or_zero, side, step}
use Rattle.fab_commit.specs.Model.History.{accepted_at, accepted_from}
use Rattle.fab_commit.specs.Model.World.{accepted_as, accepted_now, clash}
use Rattle.fab_commit.proofs.ModelLemmas.Backwards.{clash-append, judged_can, length_step}
use Rattle.fab_move.proofs.Marked.{has_mark-append}
use Rattle.fab_commit.proofs.ModelLemmas.Noninterference.{judged_kept}
use Rattle.fab_commit.proofs.ModelLemmas.Sitings.{OtherAt}
use Rattle.fab_commit.proofs.ModelLemmas.TurnLaws.{step_bounds}
use Rattle.fab_commit.proofs.RunLemmas.Folding.{left_step, not_over, step_is, still_hot}
use Rattle.fab_sched.specs.Annealing.{next_heat, next_range}

abbrev pub few_in : Problem → Problem
few_in p = record p { design = few_of p.design }

-- the judgement of move k of the running stage, if nets with many terminals were global
abbrev pub judged_few : Run → Standing → ℕ → Judged
judged_few r x k = judged (few_in r.problem) x.sites k (or_zero x.heat) x.range

few_proposal : (p : Problem) (sites : List Site) (range : ℕ) (words : List ℕ) → proposal p.design p.grid p.fixed sites range words ≡ proposal (few_of p.design) p.grid p.fixed sites range words
unfolding proposal target
few_proposal p sites range words = refl

pub judged_few_is : (r : Run) (x : Standing) (k : ℕ)
    → judged_as (few_in r.problem) x.sites (or_zero x.heat) (slice_index (r.problem.words k) 3) (proposal r.problem.design r.problem.grid r.problem.fixed x.sites x.range (r.problem.words k)) ≡ judged_few r x k
judged_few_is r x k =
    judged_on (few_in r.problem) x.sites k (or_zero x.heat) x.range (slice_index (r.problem.words k) 3) _ refl (few_proposal r.problem x.sites x.range (r.problem.words k))

-- marks without those of nets with many terminals

or_more : (x a b : Bool) → (a ≡ true → b ≡ true) → (x || a) ≡ true → (x || b) ≡ true
or_more true a b f h = refl
or_more false a b f h = f h

abbrev as_marks : List ℕ → List Mark
as_marks ns = map (λ n. Net (record { 0 = n })) ns

test_within : (q : ℕ → Bool) (m : Mark) (n : ℕ) (ns : List ℕ) → (has_mark m (as_marks (filter q ns)) ≡ true → has_mark m (as_marks ns) ≡ true) → (b : Bool) → has_mark m (as_marks (cond b (n ∷ filter q ns) (filter q ns))) ≡ true
    → (same_mark m (Net (record { 0 = n })) || has_mark m (as_marks ns)) ≡ true
test_within q m n ns rest true k = or_more (same_mark m (Net (record { 0 = n }))) (has_mark m (as_marks (filter q ns))) (has_mark m (as_marks ns)) rest k
test_within q m n ns rest false k = or_right (same_mark m (Net (record { 0 = n }))) (has_mark m (as_marks ns)) (rest k)

nets_within : (q : ℕ → Bool) (m : Mark) (ns : List ℕ) → has_mark m (as_marks (filter q ns)) ≡ true → has_mark m (as_marks ns) ≡ true
nets_within q m [] h = h
nets_within q m (n ∷ ns) h = test_within q m n ns (nets_within q m ns) (q n) h

block_within : (d : Netlist) (b : BlockId) (m : Mark) → has_mark m (block_marks (few_of d) b) ≡ true → has_mark m (block_marks d b) ≡ true
block_within d b m h =
    or_more (same_mark m (Block b)) (has_mark m (as_marks (nets_of (few_of d) b.0))) (has_mark m (as_marks (nets_of d b.0)))
    (λ k. nets_within (λ n. not (is_large d n)) m (nets_of d b.0) (ap (λ ns. has_mark m (as_marks ns)) (sym (nets_few d b.0)) ∙ k))
    h

other_within : (d : Netlist) (o : Option BlockId) (m : Mark) → has_mark m (other_marks (few_of d) o) ≡ true → has_mark m (other_marks d o) ≡ true
other_within d None m h = h
other_within d (Some b) m h = block_within d b m h

both_within : (m : Mark) (xs xs2 ys ys2 : List Mark) → (has_mark m xs ≡ true → has_mark m xs2 ≡ true) → (has_mark m ys ≡ true → has_mark m ys2 ≡ true) → has_mark m (xs ++ ys) ≡ true → has_mark m (xs2 ++ ys2) ≡ true
both_within m xs xs2 ys ys2 f g h =
    has_mark-append m xs2 ys2
    ∙ elim (or_cases (has_mark m xs) (has_mark m ys) (sym (has_mark-append m xs ys) ∙ h)) [
      | inl e ↦ or_left (has_mark m xs2) (has_mark m ys2) (f e)
      | inr e ↦ or_right (has_mark m xs2) (has_mark m ys2) (g e)
    ]

touched_within : (d : Netlist) (s : Swap) (m : Mark) → has_mark m (touched (few_of d) s) ≡ true → has_mark m (touched d s) ≡ true
touched_within d s m h =
    or_more (same_mark m (Place s.from)) _ _
    (or_more (same_mark m (Place s.to)) _ _
    (both_within m (block_marks (few_of d) s.block) (block_marks d s.block) (other_marks (few_of d) s.other) (other_marks d s.other) (block_within d s.block m) (other_within d s.other m)))
    h

meet_within : (d : Netlist) (s : Swap) (marks : List Mark) → meet (touched d s) marks ≡ false → meet (touched (few_of d) s) marks ≡ false
meet_within d s [] h = h
meet_within d s (m ∷ marks) h =
    let parts = or_parts (has_mark m (touched d s)) (meet (touched d s) marks) h in
    let first : has_mark m (touched (few_of d) s) ≡ false = false_from_ne_true (has_mark m (touched (few_of d) s)) (λ e. false≢true (sym parts.0 ∙ touched_within d s m e)) in
    let rest = meet_within d s marks parts.1 in
    λ i. first i || rest i

and_within : (x a b : Bool) → (a ≡ false → b ≡ false) → (x && a) ≡ false → (x && b) ≡ false
and_within true a b f h = f h
and_within false a b f h = refl

-- accepted swaps that touch none of the marks touch none through nets with few terminals
pub clash_within : (d : Netlist) (log : List Accepted) (base : ℕ) (marks : List Mark) → clash d log base marks ≡ false → clash (few_of d) log base marks ≡ false
clash_within d [] base marks h = h
clash_within d (a ∷ log) base marks h =
    let parts = or_parts (nat_le base a.number && meet (touched d a.swap) marks) (clash d log base marks) h in
    let first = and_within (nat_le base a.number) (meet (touched d a.swap) marks) (meet (touched (few_of d) a.swap) marks) (meet_within d a.swap marks) parts.0 in
    let rest = clash_within d log base marks parts.1 in
    λ i. first i || rest i

-- moves one after another

other_there : (sites : List Site) (to : Site) (o : Option BlockId) → IsHeldBy sites to o → OtherAt sites to o
other_there sites to None held = tt
other_there sites to (Some c) held = held.1

-- a judgement on the placement before a move, where the move, if it is accepted, touches nothing that this judgement rests on
moved_on : (p : Problem) (sites : List Site) (n base k t range : ℕ) (b : Bool) (o : Option Swap) → base ≤ n → ((s : Swap) → o ≡ Some s → IsReady sites s)
    → clash p.design (cond b (accepted_as n o) []) base (judged p sites k t range).footprint ≡ false
    → judged p (cond b (swapped_by sites o) sites) k t range ≡ judged p sites k t range
moved_on p sites n base k t range false o low ready h = refl
moved_on p sites n base k t range true None low ready h = refl
moved_on p sites n base k t range true (Some s) low ready h =
    let touch = meet (touched p.design s) (judged p sites k t range).footprint in
    let free : touch ≡ false = ap (λ v. v && touch) (sym (le-leb base n low)) ∙ (or_parts (nat_le base n && touch) false h).0 in
    let is = ready s refl in
    judged_kept p sites s k t range (record { stands = is.stands; holds = other_there sites s.to s.other is.held }) free

-- a move within a stage keeps the temperature and the range
few_after : (r : Run) (x : Standing) (k : ℕ) → 1 < moves_left r x → judged_few r (step r x) k ≡ judged (few_in r.problem) (moved x.sites (judged_here r x x.done)) k (or_zero x.heat) x.range
few_after r x k l =
    let hot = still_hot r x (omega (arith, l)) in
    let on = not_over r x l in
    let j = judged_here r x x.done in
    let took = x.accepted + one_if j.accepted in
    ap (λ (y : Standing). judged_few r y k) (step_is r x hot)
    ∙ (λ i. judged (few_in r.problem) (moved x.sites j) k (or_zero (cond (on i) (next_heat r.plan x.range took x.heat) x.heat)) (cond (on i) (next_range r.plan (side r) x.range took) x.range))

few_step : (r : Run) (x : Standing) (k base : ℕ) → length x.sites ≡ length r.problem.design.kinds → base ≤ x.done → 1 < moves_left r x
    → clash (few_of r.problem.design) (accepted_at r x) base (judged_few r x k).footprint ≡ false
    → judged_few r (step r x) k ≡ judged_few r x k
few_step r x k base all low l h =
    let d = few_of r.problem.design in
    let hot = still_hot r x (omega (arith, l)) in
    let j = judged_here r x x.done in
    let free : clash d (accepted_now x.done j) base (judged_few r x k).footprint ≡ false =
    (λ i. clash d (cond (sym hot i) (accepted_now x.done j) []) base (judged_few r x k).footprint) ∙ h in
    few_after r x k l
    ∙ moved_on (few_in r.problem) x.sites x.done base k (or_zero x.heat) x.range j.accepted j.swap low
    (λ s e. judged_can r.problem x.sites x.done (or_zero x.heat) x.range s all e) free

-- the judgement without nets of many terminals on the live placement is that on an older one of the stage, if no move accepted since touched what
-- it rests on
pub few_kept : (r : Run) (x : Standing) (n k base : ℕ) → length x.sites ≡ length r.problem.design.kinds → base ≤ x.done → n < moves_left r x
    → clash (few_of r.problem.design) (accepted_from r x n) base (judged_few r x k).footprint ≡ false
    → judged_few r (from r x n) k ≡ judged_few r x k
few_kept r x zero k base all low l h = refl
few_kept r x (suc n) k base all low l h =
    let d = few_of r.problem.design in
    let marks = (judged_few r x k).footprint in
    let one = left_step r x (omega (arith, l)) in
    let high = (step_bounds r x).0 in
    let parts = or_parts (clash d (accepted_at r x) base marks) (clash d (accepted_from r (step r x) n) base marks) (sym (clash-append d (accepted_at r x) (accepted_from r (step r x) n) base marks) ∙ h) in
    let first = few_step r x k base all low (omega (arith, l)) parts.0 in
    few_kept r (step r x) n k base (length_step r x ∙ all) (omega (arith, low, high)) (omega (arith, l, one)) (ap (λ (j : Judged). clash d (accepted_from r (step r x) n) base j.footprint) first ∙ parts.1)
    ∙ first
