-- What a crew foresees of a move, as contracts see it (our own).
use Rattle.std.specs.Prelude.{ℕ, ℤ, pos, negsuc, ◌≡◌, ◌+◌, ◌<◌, ◌≤◌, ◌++◌, true, false, List, [], ◌∷◌, filter, length, map, replicate, take, Option, Some, None, slice_index_or, codes, refl}
use Rattle.fab_arch.specs.declared.array.Site.{Site}
use Rattle.fab_arch.specs.Grid.{kind_at}
use Rattle.fab_net.specs.declared.netlist_types.BlockId.{BlockId}
use Rattle.fab_net.specs.declared.netlist_types.NetId.{NetId}
use Rattle.fab_net.specs.declared.netlist_types.BlockKind.TheVariants.{Logic}
use Rattle.fab_net.specs.Netlist.{Netlist, nets_of, terminal}
use Rattle.fab_site.specs.declared.placement_types.Swap.{Swap}
use Rattle.fab_move.specs.declared.proposals.Proposal.{Proposal}
use Rattle.fab_move.specs.declared.proposals.Proposal.TheVariants.{Nothing, Void, Move}
use Rattle.fab_move.specs.declared.verdicts.Decision.{Decision}
use Rattle.fab_move.specs.Judge.{IsDecision, footprint}
use Rattle.fab_move.specs.Propose.{proposal}
use Rattle.fab_cost.specs.Runs.{few_of, is_large}
use Rattle.fab_cost.specs.Swapping.{change}
use Rattle.fab_commit.specs.declared.run.foreseen.Foreseen.{Foreseen}
use Rattle.fab_move.specs.declared.kept_nets.LargeNets.{LargeNets}
use Rattle.fab_move.specs.KeptNets.{AreKept, large_nets}
use Rattle.fab_commit.specs.Serial.{Run, Standing, judged_here}

-- the swap that a proposal is, if it is one
abbrev pub swap_in : Proposal → Option Swap
swap_in Nothing = None
swap_in (Void b to) = None
swap_in (Move s) = Some s

-- the decision of what was foreseen
abbrev pub decision_in : Foreseen → Decision
decision_in f = record { swap = swap_in f.proposal; delta = f.delta; accepted = f.accepted }

-- this is what is foreseen of move k on the placement of x: its proposal, its words, its decision, how much of its change of cost comes
-- from nets with up to 16 terminals, and its swap's other nets, which are kept if there are at most 5. The footprint is what the proposal
-- names (`marks`). The swap, if any, is of blocks of the design (`block`, `other`), and between sites of one kind (`kind`)
pub record IsForeseen (r : Run) (x : Standing) (k : ℕ) (f : Foreseen) : Type 0 where
  pub proposes : f.proposal ≡ proposal r.problem.design r.problem.grid r.problem.fixed x.sites x.range (r.problem.words k)
  pub words : f.words ≡ r.problem.words k
  pub few : (s : Swap) → f.proposal ≡ Move s → f.few ≡ change (few_of r.problem.design) r.problem.grid x.sites s
  pub decides : IsDecision (decision_in f) (judged_here r x k)
  pub marks : footprint r.problem.design f.proposal ≡ (judged_here r x k).footprint
  pub block : (s : Swap) → f.proposal ≡ Move s → s.block.0 < length r.problem.design.kinds
  pub other : (s : Swap) (b : BlockId) → f.proposal ≡ Move s → s.other ≡ Some b → b.0 < length r.problem.design.kinds
  pub kind : (s : Swap) → swap_in f.proposal ≡ Some s → kind_at r.problem.grid s.to ≡ kind_at r.problem.grid s.from
  pub nets : (s : Swap) → f.proposal ≡ Move s → AreKept r.problem.design s f.nets
  pub kept : (s : Swap) → f.proposal ≡ Move s → length (large_nets r.problem.design s) ≤ 5 → f.nets.is_kept ≡ true

-- these are what is foreseen of the moves from k on, on the placement of x
abbrev pub AreForeseen : Run → Standing → ℕ → List Foreseen → Type 0
AreForeseen r x k all = (i : ℕ) (f : Foreseen) → i < length all → IsForeseen r x (k + i) (slice_index_or all i f)

-- all of these are rejected
abbrev pub AreRejected : List Foreseen → Type 0
AreRejected all = (i : ℕ) (f : Foreseen) → i < length all → (slice_index_or all i f).accepted ≡ false

-- on the placement of y, move k proposes this swap, and `few` of its change of cost comes from nets with up to 16 terminals
pub record IsStill (r : Run) (y : Standing) (k : ℕ) (few : ℤ) (s : Swap) : Type 0 where
  pub proposes : proposal r.problem.design r.problem.grid r.problem.fixed y.sites y.range (r.problem.words k) ≡ Move s
  pub few_is : few ≡ change (few_of r.problem.design) r.problem.grid y.sites s
  pub kind : kind_at r.problem.grid s.to ≡ kind_at r.problem.grid s.from

pub a_void_move_swaps_nothing : (b : BlockId) (to : Site) → swap_in (Void b to) ≡ None
a_void_move_swaps_nothing b to = refl

-- a move that raises the cost by 3 ten-thousandths, of which nets with few terminals take 2 away, and is rejected
pub a_rejected_move : (s : Swap) (words : List ℕ) (nets : LargeNets) → decision_in (record { proposal = Move s; few = negsuc 1; delta = pos 3; words = words; accepted = false; nets = nets }) ≡ record { swap = Some s; delta = pos 3; accepted = false }
a_rejected_move s words nets = refl
