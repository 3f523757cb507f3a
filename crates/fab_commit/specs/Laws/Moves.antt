-- Laws of annealing one move at a time, and of what is kept while moves are judged ahead (our own).
use Rattle.std.specs.Prelude.{ℕ, ◌≡◌, ◌+◌, ◌-◌, ◌^◌, ◌<◌, ◌≤◌, if◌then◌else◌, List, [], ◌∷◌, ◌++◌, Some, slice_index}
use Rattle.std.specs.List.{All}
use Rattle.fab_arch.specs.declared.array.Site.{Site}
use Rattle.fab_arch.specs.Grid.{kind_at}
use Rattle.fab_net.specs.Netlist.{Netlist}
use Rattle.fab_site.specs.declared.placement_types.Swap.{Swap}
use Rattle.fab_site.specs.Placement.{IsLegal}
use Rattle.fab_move.specs.declared.marks.Mark.{Mark}
use Rattle.fab_move.specs.declared.proposals.Proposal.TheVariants.{Move}
use Rattle.fab_move.specs.Propose.{proposal}
use Rattle.fab_move.specs.Stream.{stream_moves}
use Rattle.fab_move.specs.Judge.{Problem, has_mark, touched}
use Rattle.fab_commit.specs.declared.model.events.Event.{Event}
use Rattle.fab_commit.specs.declared.run.swaps.Accepted.{Accepted}
use Rattle.fab_commit.specs.declared.model.judged.JudgedMove.{JudgedMove}
use Rattle.fab_commit.specs.Serial.{Run, Standing, judged_here, from}
use Rattle.fab_commit.specs.Model.World.{World, world, clash, end, run_through, verdict_here}
use Rattle.fab_commit.specs.Model.History.{accepted_from, is_redone}
use Rattle.fab_commit.specs.Model.Stamps.{AreBefore, is_stamped, stamp}

-- m moves and then n moves are m + n moves
abbrev pub MovesCompose : Type 0
MovesCompose = (r : Run) (x : Standing) (m n : ℕ) → from r (from r x m) n ≡ from r x (m + n)

-- each word is below 2^32, as the words of any run are: `Words` gives words of 32 bits
abbrev pub AreWords : (ℕ → List ℕ) → Type 0
AreWords words = (k i : ℕ) → slice_index (words k) i < 2 ^ 32

-- from a legal placement moves lead only to legal ones, with each fixed block at its site
abbrev pub PlacementsStayLegal : Type 0
PlacementsStayLegal =
    (r : Run) (x : Standing) (n : ℕ)
    → AreWords r.problem.words
    → IsLegal r.problem.design r.problem.grid r.problem.fixed x.sites
    → IsLegal r.problem.design r.problem.grid r.problem.fixed (from r x n).sites

-- the words of a seed are below 2^32, so the placements of its runs stay legal
abbrev pub SeedsGiveWords : Type 0
SeedsGiveWords = (seed : ℕ) → AreWords (stream_moves seed)

-- on a legal placement each proposed swap goes to a site of its block's kind. Words below 2^32 propose such swaps
abbrev pub ProposesKinds : Problem → Type 0
ProposesKinds p =
    (sites : List Site) (range k : ℕ) (s : Swap)
    → IsLegal p.design p.grid p.fixed sites
    → proposal p.design p.grid p.fixed sites range (p.words k) ≡ Move s
    → kind_at p.grid s.to ≡ kind_at p.grid s.from

-- the same for words of any size that propose sites of the block's kind
abbrev pub PlacementsStayLegalByKinds : Type 0
PlacementsStayLegalByKinds =
    (r : Run) (x : Standing) (n : ℕ)
    → ProposesKinds r.problem
    → IsLegal r.problem.design r.problem.grid r.problem.fixed x.sites
    → IsLegal r.problem.design r.problem.grid r.problem.fixed (from r x n).sites

-- a verdict is for a move of the stage that is not made yet. It is the judgement of that move on the placement of its base. Moves made one
-- at a time from x lead through that placement
pub record IsOfItsBase (p : Run) (x : Standing) (w : World) (v : JudgedMove) : Type 0 where
  pub due : w.live.done ≤ v.number
  pub in_stage : v.number < end p w
  pub based : (x.done ≤ v.base) × (v.base ≤ w.live.done)
  pub judged_there : v.judged ≡ judged_here p (from p x (v.base - x.done)) v.number

-- each verdict that a world still has is a judgement on the placement of its base
abbrev pub VerdictsAreOfTheirBase : Type 0
VerdictsAreOfTheirBase =
    (p : Run) (x : Standing) (events : List Event) → 0 < p.plan.moves →
    let now = run_through p (world x) events in All (IsOfItsBase p x now) now.verdicts

-- the accepted swaps are those of moves made one at a time
abbrev pub AcceptedSwapsAreSerial : Type 0
AcceptedSwapsAreSerial =
    (p : Run) (x : Standing) (events : List Event) → 0 < p.plan.moves →
    let now = run_through p (world x) events in now.accepted ≡ accepted_from p x (now.live.done - x.done)

-- moves made one at a time and the verdict's base alone determine whether the next move's verdict is stale
abbrev pub RedoneIsSerial : Type 0
RedoneIsSerial =
    (p : Run) (x : Standing) (events : List Event) (v : JudgedMove) → 0 < p.plan.moves →
    let now = run_through p (world x) events in
    verdict_here now ≡ Some v
    → clash p.problem.design now.accepted v.base v.judged.footprint ≡ is_redone p x v.base now.live.done

-- stamps decide whether a swap touched a mark exactly as the list of accepted swaps does; one more swap sets the stamps of what it touches
pub record StampsTell : Type 0 where
  pub clash_is : (d : Netlist) (accepted : List Accepted) (base : ℕ) (marks : List Mark) → clash d accepted base marks ≡ is_stamped d accepted base marks
  pub stamp_is : (d : Netlist) (accepted : List Accepted) (a : Accepted) (m : Mark) → AreBefore a.number accepted → stamp d (accepted ++ a ∷ []) m ≡ (if has_mark m (touched d a.swap) then a.number + 1 else stamp d accepted m)
