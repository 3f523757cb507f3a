-- A move that was foreseen, where swaps accepted since touched at most nets with many terminals of what it rests on.
use Rattle.std.proofs.Common.{◌≡◌, ℕ, ◌+ℤ◌, ℤ, false, length, Some, refl, sym, ap, subst, ◌∙◌, arith}
use Rattle.std.specs.Prelude.{nat_lt, slice_index}
use Rattle.std.specs.List.{list_any}
use Rattle.fab_arch.specs.Grid.{kind_at}
use Rattle.fab_site.specs.declared.placement_types.Swap.{Swap}
use Rattle.fab_site.specs.Placement.{IsSwapOf}
use Rattle.fab_cost.specs.Runs.{few_of, large_of}
use Rattle.fab_cost.specs.Swapping.{change}
use Rattle.fab_cost.proofs.Few.{change_split}
use Rattle.fab_move.specs.declared.proposals.Proposal.TheVariants.{Move}
use Rattle.fab_move.specs.Judge.{Judged, footprint, judged_as}
use Rattle.fab_move.specs.Propose.{proposal}
use Rattle.fab_move.proofs.Judgements.{judged_on}
use Rattle.fab_commit.specs.declared.run.foreseen.Foreseen.{Foreseen}
use Rattle.fab_commit.specs.declared.run.owner.Owner.{Owner}
use Rattle.fab_commit.specs.declared.run.state.State.{State}
use Rattle.fab_commit.specs.Serial.{Run, Standing, judged_here, or_zero}
use Rattle.fab_commit.specs.Run.Commits.{IsSound, standing_of}
use Rattle.fab_commit.specs.Run.Foreseen.{IsForeseen, IsStill, swap_in}
use Rattle.fab_commit.specs.Run.Owners.{AreOpen, IsOwned}
use Rattle.fab_move.specs.StampTables.{kept_stamp}
use Rattle.fab_commit.specs.Model.History.{accepted_from}
use Rattle.fab_commit.specs.Model.World.{clash}
use Rattle.fab_commit.proofs.ModelLemmas.Backwards.{length_from}
use Rattle.fab_commit.proofs.ModelLemmas.Happening.{taken_lawful}
use Rattle.fab_commit.proofs.ModelLemmas.Fewer.{clash_within, few_in, few_kept, judged_few, judged_few_is}
use Rattle.fab_commit.proofs.ModelLemmas.Noninterference.{judged_as-footprint}
use Rattle.fab_commit.proofs.RunLemmas.Foreseeing.{swap_is, swap_of}
use Rattle.fab_commit.proofs.RunLemmas.Owning.{touched_is}

pub still : (r : Run) (o : Owner) (base : ℕ) (f : Foreseen) (s : Swap) → IsOwned r o → (due : AreOpen r o base 1) → IsForeseen r due.start o.state.done f → f.proposal ≡ Move s
    → list_any (λ m. nat_lt base (kept_stamp r.problem.grid o.stamps m)) (footprint (few_of r.problem.design) (Move s)) ≡ false
    → IsStill r (standing_of o.state) o.state.done f.few s
still r o base f s owned due is moves free =
    let p = r.problem in
    let q = few_in p in
    let x = due.start in
    let y = standing_of o.state in
    let k = o.state.done in
    let w = slice_index (p.words k) 3 in
    let stage = due.led.stage in
    let base_is = due.led.base_is in
    let there = due.led.here in
    let all : length x.sites ≡ length p.design.kinds = sym (length_from r x due.made) ∙ ap (λ (z : Standing). length z.sites) (sym there) ∙ owned.sound.legal.all in
    let was : judged_as q x.sites (or_zero x.heat) w f.proposal ≡ judged_few r x k = ap (judged_as q x.sites (or_zero x.heat) w) is.proposes ∙ judged_few_is r x k in
    let marks : footprint q.design f.proposal ≡ (judged_few r x k).footprint =
    sym (judged_as-footprint q x.sites (or_zero x.heat) w f.proposal) ∙ ap (λ (j : Judged). j.footprint) was in
    let clear : clash p.design (accepted_from r x due.made) base (judged_few r x k).footprint ≡ false =
    (λ i. clash p.design (sym due.led.recent i) base (sym marks i))
    ∙ sym (touched_is p.design (kept_stamp p.grid o.stamps) due.led.log base (footprint q.design f.proposal) due.led.stamps)
    ∙ ap (λ v. list_any (λ m. nat_lt base (kept_stamp p.grid o.stamps m)) (footprint q.design v)) moves
    ∙ free in
    let kept : judged_few r y k ≡ judged_few r x k =
    ap (λ (z : Standing). judged_few r z k) there
    ∙ few_kept r x due.made k base all (omega (arith, base_is)) (omega (arith, stage)) (clash_within p.design (accepted_from r x due.made) base (judged_few r x k).footprint clear) in
    let same : judged_as q y.sites (or_zero y.heat) w (proposal p.design p.grid p.fixed y.sites y.range (p.words k)) ≡ judged_as q x.sites (or_zero x.heat) w (Move s) =
    judged_few_is r y k ∙ kept ∙ sym was ∙ ap (judged_as q x.sites (or_zero x.heat) w) moves in
    let proposes : proposal p.design p.grid p.fixed y.sites y.range (p.words k) ≡ Move s =
    swap_is _ s (sym (swap_of q y.sites (or_zero y.heat) w (proposal p.design p.grid p.fixed y.sites y.range (p.words k))) ∙ ap (λ (j : Judged). j.swap) same) in
    record {
      proposes = proposes;
      few_is =
          is.few s moves
          ∙ ap (λ (j : Judged). j.change) (sym same)
          ∙ ap (λ v. (judged_as q y.sites (or_zero y.heat) w v).change) proposes;
      kind = is.kind s (ap swap_in moves);
    }

-- the move, by both parts of its change of cost
pub still_says : (r : Run) (y : Standing) (k : ℕ) (few large delta : ℤ) (s : Swap) → IsStill r y k few s → large ≡ change (large_of r.problem.design) r.problem.grid y.sites s → delta ≡ few +ℤ large
    → delta ≡ change r.problem.design r.problem.grid y.sites s
still_says r y k few large delta s still is sum =
    sum ∙ (λ i. still.few_is i +ℤ is i) ∙ sym (change_split r.problem.design r.problem.grid y.sites s)

pub still_judged : (r : Run) (y : Standing) (k : ℕ) (few : ℤ) (s : Swap) → IsStill r y k few s → judged_as r.problem y.sites (or_zero y.heat) (slice_index (r.problem.words k) 3) (Move s) ≡ judged_here r y k
still_judged r y k few s still =
    judged_on r.problem y.sites k (or_zero y.heat) y.range (slice_index (r.problem.words k) 3) (Move s) refl (sym still.proposes)

pub some_is : (a b : Swap) → Some a ≡ Some b → a ≡ b
some_is a b e = cc

-- its swap is one of the placement
pub still_lawful : (r : Run) (state : State) (few : ℤ) (s : Swap) → IsSound r state → IsStill r (standing_of state) state.done few s → IsSwapOf r.problem.grid state.placement.sites s
still_lawful r state few s sound still =
    let y = standing_of state in
    let swap : (judged_here r y state.done).swap ≡ Some s = sym (ap (λ (j : Judged). j.swap) (still_judged r y state.done few s still)) in
    taken_lawful r state (judged_here r y state.done) state.done sound refl
    (λ z h. subst (λ (v : Swap). kind_at r.problem.grid v.to ≡ kind_at r.problem.grid v.from) (some_is s z (sym swap ∙ h)) still.kind)
    s swap
