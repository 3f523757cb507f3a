-- What is foreseen, one move after another.
use mathlib.Core.Logic.{dite}
use native.Mathlib.Decide.{dec_le}
use Rattle.std.proofs.Common.{◌≡◌, ℕ, suc, pos, ◌+◌, ◌<◌, ◌≤◌, false, true, List, length, Some, None, is_some, lt_of_not-le, refl, sym, ap, subst, ◌∙◌, arith, get_or-set_other}
use Rattle.std.proofs.lemmas.Bool.{false≢true}
use Rattle.std.proofs.lemmas.List.{get_or-set_same}
use Rattle.std.specs.Prelude.{slice_index, slice_index_or, slice_set}
use Rattle.fab_arch.specs.declared.array.Site.{Site}
use Rattle.fab_arch.specs.Grid.{GridShape, kind_at}
use Rattle.fab_net.specs.declared.netlist_types.BlockId.{BlockId}
use Rattle.fab_net.specs.Netlist.{Netlist}
use Rattle.fab_site.specs.declared.placement_types.Swap.{Swap}
use Rattle.fab_cost.specs.Runs.{few_of}
use Rattle.fab_cost.specs.Swapping.{change}
use Rattle.fab_move.specs.declared.proposals.Proposal.{Proposal}
use Rattle.fab_move.specs.declared.proposals.Proposal.TheVariants.{Nothing, Void, Move}
use Rattle.fab_move.specs.Judge.{IsDecision, Judged, Problem, footprint, judged_as}
use Rattle.fab_move.specs.Propose.{proposal}
use Rattle.fab_move.proofs.Judgements.{judged_on}
use Rattle.fab_commit.specs.declared.run.foreseen.Foreseen.{Foreseen}
use Rattle.fab_commit.specs.Serial.{Run, Standing, judged_here, or_zero}
use Rattle.fab_move.specs.StampTables.{IsBlock}
use Rattle.fab_move.specs.KeptNets.{AreKept, large_nets}
use Rattle.fab_commit.specs.Run.Foreseen.{IsForeseen, decision_in, swap_in}
use Rattle.fab_move.specs.StampTables.{IsWithin}
use Rattle.fab_commit.proofs.ModelLemmas.Noninterference.{judged_as-footprint}

pub swap_of : (p : Problem) (sites : List Site) (t w : ℕ) (q : Proposal) → (judged_as p sites t w q).swap ≡ swap_in q
swap_of p sites t w Nothing = refl
swap_of p sites t w (Void b to) = refl
swap_of p sites t w (Move s) = refl

pub swap_is : (q : Proposal) (s : Swap) → swap_in q ≡ Some s → q ≡ Move s
swap_is Nothing s e = absurd (false≢true (ap is_some e))
swap_is (Void b to) s e = absurd (false≢true (ap is_some e))
swap_is (Move z) s e = (let same : z ≡ s = cc e in ap Move same)

-- what is foreseen, part by part: its proposal and words are the move's, and its decision is that of this proposal and word
pub record IsMadeBy (r : Run) (x : Standing) (k : ℕ) (q : Proposal) (t w : ℕ) (f : Foreseen) : Type 0 where
  pub proposal_is : q ≡ proposal r.problem.design r.problem.grid r.problem.fixed x.sites x.range (r.problem.words k)
  pub heat : t ≡ or_zero x.heat
  pub word : w ≡ slice_index (r.problem.words k) 3
  pub proposes : f.proposal ≡ q
  pub words : f.words ≡ r.problem.words k
  pub decides : IsDecision (decision_in f) (judged_as r.problem x.sites t w q)
  pub few : (s : Swap) → q ≡ Move s → f.few ≡ change (few_of r.problem.design) r.problem.grid x.sites s
  pub within : (s : Swap) → q ≡ Move s → IsWithin r.problem.design r.problem.grid s
  pub kind : (s : Swap) → q ≡ Move s → kind_at r.problem.grid s.to ≡ kind_at r.problem.grid s.from
  pub nets : (s : Swap) → q ≡ Move s → AreKept r.problem.design s f.nets
  pub kept : (s : Swap) → q ≡ Move s → length (large_nets r.problem.design s) ≤ 5 → f.nets.is_kept ≡ true

within_other : (d : Netlist) (g : GridShape) (s : Swap) (b : BlockId) → IsWithin d g s → s.other ≡ Some b → b.0 < length d.kinds
within_other d g s b within e = subst (IsBlock d) e within.other

pub foreseen_by : (r : Run) (x : Standing) (k : ℕ) (q : Proposal) (t w : ℕ) (f : Foreseen) → IsMadeBy r x k q t w f → IsForeseen r x k f
foreseen_by r x k q t w f is =
    let p = r.problem in
    let h = or_zero x.heat in
    let says : judged_as p x.sites t w q ≡ judged_here r x k = ap (λ v. judged_as p x.sites v w q) is.heat ∙ judged_on p x.sites k h x.range w q is.word is.proposal_is in
    record {
      proposes = is.proposes ∙ is.proposal_is;
      words = is.words;
      few = λ s e. is.few s (sym is.proposes ∙ e);
      decides = subst (IsDecision (decision_in f)) says is.decides;
      marks = ap (footprint p.design) is.proposes ∙ sym (judged_as-footprint p x.sites t w q) ∙ ap (λ (j : Judged). j.footprint) says;
      block = λ s e. (is.within s (sym is.proposes ∙ e)).block;
      other = λ s b e o. within_other p.design p.grid s b (is.within s (sym is.proposes ∙ e)) o;
      kind = λ s e. is.kind s (sym is.proposes ∙ swap_is f.proposal s e);
      nets = λ s e. is.nets s (sym is.proposes ∙ e);
      kept = λ s e few. is.kept s (sym is.proposes ∙ e) few;
    }

-- a move that proposes no swap
none_is : (p : Problem) (sites : List Site) (t w : ℕ) (q : Proposal) → swap_in q ≡ None → IsDecision (record { swap = swap_in q; delta = pos 0; accepted = false }) (judged_as p sites t w q)
none_is p sites t w Nothing e = record { swap = refl; change = refl; accepted = refl }
none_is p sites t w (Void b to) e = record { swap = refl; change = refl; accepted = refl }
none_is p sites t w (Move s) e = absurd (false≢true (sym (ap is_some e)))

no_move : (q : Proposal) (s : Swap) → swap_in q ≡ None → q ≡ Move s → ⊥
no_move q s e m = false≢true (ap is_some (sym e ∙ ap swap_in m))

-- what is foreseen without a swap
pub record IsPlain (q : Proposal) (w : List ℕ) (f : Foreseen) : Type 0 where
  pub proposal : f.proposal ≡ q
  pub delta : f.delta ≡ pos 0
  pub words : f.words ≡ w
  pub accepted : f.accepted ≡ false

pub foreseen_none : (r : Run) (x : Standing) (k : ℕ) (q : Proposal) (words : List ℕ) (f : Foreseen) → IsPlain q words f → q ≡ proposal r.problem.design r.problem.grid r.problem.fixed x.sites x.range (r.problem.words k) → words ≡ r.problem.words k → swap_in q ≡ None
    → IsForeseen r x k f
foreseen_none r x k q words f plain is same none =
    let h = none_is r.problem x.sites (or_zero x.heat) (slice_index (r.problem.words k) 3) q none in
    foreseen_by r x k q (or_zero x.heat) (slice_index (r.problem.words k) 3) f
    (record {
      proposal_is = is;
      heat = refl;
      word = refl;
      proposes = plain.proposal;
      words = plain.words ∙ same;
      decides = record { swap = ap swap_in plain.proposal ∙ h.swap; change = plain.delta ∙ h.change; accepted = plain.accepted ∙ h.accepted };
      few = λ s m. absurd (no_move q s none m);
      within = λ s m. absurd (no_move q s none m);
      kind = λ s m. absurd (no_move q s none m);
      nets = λ s m. absurd (no_move q s none m);
      kept = λ s m few. absurd (no_move q s none m);
    })

pub move_is : (a b : Swap) → Move a ≡ Move b → a ≡ b
move_is a b e = (let both : Some a ≡ Some b = ap swap_in e in cc)

-- what holds of the first places, and of a value, holds of the first places and the one that the value is written to
pub set_each : {A : Type 0} (P : ℕ → A → Type 0) (xs : List A) (i : ℕ) (a : A) → i < length xs → P i a → ((k : ℕ) (d : A) → k < i → P k (slice_index_or xs k d)) → (k : ℕ) (d : A) → k < i + 1 → P k (slice_index_or (slice_set xs i a) k d)
set_each P xs i a low here before k d l = dite (dec_le (suc k) i)
    (λ b. subst (P k) (sym (get_or-set_other xs i k a d (λ e. absurd (omega (arith, b, e))))) (before k d b))
    (λ g.
    let e : i ≡ k = omega (arith, l, lt_of_not-le g) in
    subst (λ j. P j (slice_index_or (slice_set xs i a) j d)) e (subst (P i) (sym (get_or-set_same xs i a d low)) here))
