-- The judgement of a move on a placement, what it rests on, and what an accepted swap touches. After Kravitz and Rutenbar: a judgement
-- still holds if no accepted swap touched what it rests on. The choice of marks is our own.
use Rattle.std.specs.Prelude.{ℕ, ℤ, pos, ◌≡◌, Bool, true, false, if◌then◌else◌, ◌==◌, List, [], ◌∷◌, ◌++◌, map, Option, Some, None, slice_index, codes, refl}
use Rattle.std.specs.List.{list_any}
use Rattle.fab_arch.specs.declared.array.Site.{Site}
use Rattle.fab_arch.specs.Grid.{GridShape}
use Rattle.fab_net.specs.declared.netlist_types.BlockId.{BlockId}
use Rattle.fab_net.specs.declared.netlist_types.BlockKind.TheVariants.{Logic}
use Rattle.fab_net.specs.Netlist.{Netlist, nets_of, terminal}
use Rattle.fab_site.specs.declared.placement_types.Swap.{Swap}
use Rattle.fab_site.specs.Placement.{same_site, site}
use Rattle.fab_cost.specs.Swapping.{change, swapped_by}
use Rattle.fab_move.specs.declared.marks.Mark.{Mark}
use Rattle.fab_move.specs.declared.verdicts.Decision.{Decision}
use Rattle.fab_move.specs.declared.verdicts.Verdict.{Verdict}
use Rattle.fab_move.specs.declared.marks.Mark.TheVariants.{Block, Place, Net}
use Rattle.fab_move.specs.declared.proposals.Proposal.{Proposal}
use Rattle.fab_move.specs.declared.proposals.Proposal.TheVariants.{Nothing, Void, Move}
use Rattle.fab_move.specs.Propose.{proposal}
use Rattle.fab_move.specs.Accept.{is_accepted}

-- what moves are made from: a design on an array, its fixed blocks by number, and four words for each move. The type of the source of words
-- keeps them below 2^32
pub record Problem : Type 0 where
  pub design : Netlist
  pub grid : GridShape
  pub fixed : List (Option Site)
  pub words : ℕ → List ℕ

-- a problem of a design on an array, with fixed sites and words
abbrev pub problem : Netlist → GridShape → List (Option Site) → (ℕ → List ℕ) → Problem
problem d g fixed words = record { design = d; grid = g; fixed = fixed; words = words }

-- the two are one mark
abbrev pub same_mark : Mark → Mark → Bool
same_mark (Block a) (Block b) = a.0 == b.0
same_mark (Place a) (Place b) = same_site a b
same_mark (Net a) (Net b) = a.0 == b.0
same_mark _ _ = false

-- the mark `m` is among `xs`
abbrev pub has_mark : Mark → List Mark → Bool
has_mark m xs = list_any (same_mark m) xs

-- the two lists share a mark
abbrev pub meet : List Mark → List Mark → Bool
meet xs ys = list_any (λ m. has_mark m xs) ys

-- a block, and its nets that are not global
abbrev pub block_marks : Netlist → BlockId → List Mark
block_marks d b = Block b ∷ map (λ n. Net (record { 0 = n })) (nets_of d b.0)

-- the marks of the block on the target, if any
abbrev pub other_marks : Netlist → Option BlockId → List Mark
other_marks d None = []
other_marks d (Some b) = block_marks d b

-- what a proposal rests on: its target and its block. For a swap also the block on the target, and the nets of both blocks that are not
-- global. The order of the list does not matter
abbrev pub footprint : Netlist → Proposal → List Mark
footprint d Nothing = []
footprint d (Void b to) = Place to ∷ Block b ∷ []
footprint d (Move s) = Place s.to ∷ (block_marks d s.block ++ other_marks d s.other)

-- what an accepted swap touches: both its sites, its blocks, and their nets that are not global
abbrev pub touched : Netlist → Swap → List Mark
touched d s = Place s.from ∷ Place s.to ∷ (block_marks d s.block ++ other_marks d s.other)

-- the judgement of a move: its swap, if any, the change of cost, whether it is accepted, and the marks that this rests on
pub record Judged : Type 0 where
  pub swap : Option Swap
  pub change : ℤ
  pub accepted : Bool
  pub footprint : List Mark

-- the judgement in a verdict, without the move's number
abbrev pub says : Verdict → Judged
says v = record { swap = v.swap; change = v.delta; accepted = v.accepted; footprint = v.footprint.items }

-- the decision is the judgement without the footprint
pub record IsDecision (d : Decision) (j : Judged) : Type 0 where
  pub swap : d.swap ≡ j.swap
  pub change : d.delta ≡ j.change
  pub accepted : d.accepted ≡ j.accepted

-- the judgement of a proposal on the sites `sites` at temperature `t`; the word `w` decides on acceptance
abbrev pub judged_as : Problem → List Site → ℕ → ℕ → Proposal → Judged
judged_as p sites t w Nothing = record { swap = None; change = pos 0; accepted = false; footprint = [] }
judged_as p sites t w (Void b to) = record { swap = None; change = pos 0; accepted = false; footprint = footprint p.design (Void b to) }
judged_as p sites t w (Move s) =
    record {
      swap = Some s;
      change = change p.design p.grid sites s;
      accepted = is_accepted (change p.design p.grid sites s) t w;
      footprint = footprint p.design (Move s);
    }

-- the judgement of move k on the sites `sites`, with temperature `t` and range `range`
unfoldable pub judged : Problem → List Site → ℕ → ℕ → ℕ → Judged
judged p sites k t range =
    judged_as p sites t (slice_index (p.words k) 3) (proposal p.design p.grid p.fixed sites range (p.words k))

-- the placement after a move
abbrev pub moved : List Site → Judged → List Site
moved sites j = if j.accepted then swapped_by sites j.swap else sites

-- a block on net 1 only, and another on nets 0 and 1
abbrev two_blocks : Netlist
two_blocks = record {
  kinds = Logic ∷ Logic ∷ [];
  names = codes "b1" ∷ codes "b2" ∷ [];
  terminals = (terminal 1 0 ∷ []) ∷ (terminal 0 0 ∷ terminal 1 1 ∷ []) ∷ [];
  globals = false ∷ false ∷ [];
}

abbrev to_the_other : Swap
to_the_other = record { block = record { 0 = 0 }; from = site 1 1 0; to = site 2 2 0; other = Some (record { 0 = 1 }) }

pub the_footprint_of_a_swap : footprint two_blocks (Move to_the_other) ≡ Place (site 2 2 0) ∷ Block (record { 0 = 0 }) ∷ Net (record { 0 = 1 }) ∷ Block (record { 0 = 1 }) ∷ Net (record { 0 = 0 }) ∷ Net (record { 0 = 1 }) ∷ []
the_footprint_of_a_swap = refl

pub a_void_move_has_a_footprint : footprint two_blocks (Void (record { 0 = 0 }) (site 1 1 0)) ≡ Place (site 1 1 0) ∷ Block (record { 0 = 0 }) ∷ []
a_void_move_has_a_footprint = refl

-- the marks of two blocks meet only in a net
pub marks_meet_in_a_net : meet (block_marks two_blocks (record { 0 = 0 })) (block_marks two_blocks (record { 0 = 1 })) ≡ true
marks_meet_in_a_net = refl

pub marks_of_other_sites_do_not_meet : meet (Place (site 1 1 0) ∷ []) (Place (site 2 1 0) ∷ Block (record { 0 = 0 }) ∷ []) ≡ false
marks_of_other_sites_do_not_meet = refl

-- an accepted swap also touches the site that its block left
pub a_swap_touches_both_sites : touched two_blocks to_the_other ≡ Place (site 1 1 0) ∷ footprint two_blocks (Move to_the_other)
a_swap_touches_both_sites = refl
