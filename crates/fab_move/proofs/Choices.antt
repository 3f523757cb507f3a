-- The chosen block is one of the design's, and what is proposed for it is a swap of the placement.
use Rattle.std.proofs.Common.{◌≡◌, ℕ, zero, suc, ◌+◌, ◌<◌, Bool, true, false, cond, List, [], ◌∷◌, length, Option, Some, None, slice_get, refl, sym, ap, subst, ◌∙◌, arith}
use Rattle.std.specs.List.{filter, range_with_len}
use Rattle.std.proofs.lemmas.Bool.{and_from, eq-eqb, false≢true}
use Rattle.fab_arch.specs.declared.array.Site.{Site}
use Rattle.fab_arch.specs.Grid.{GridShape, kind_at}
use Rattle.fab_net.specs.declared.netlist_types.BlockId.{BlockId}
use Rattle.fab_net.specs.Netlist.{Netlist}
use Rattle.fab_site.specs.declared.placement_types.Swap.{Swap}
use Rattle.fab_site.specs.Free.{is_free}
use Rattle.fab_site.specs.Placement.{IsSwapOf, same_site, site_of, at}
use Rattle.fab_move.specs.declared.proposals.Proposal.{Proposal}
use Rattle.fab_move.specs.declared.proposals.Proposal.TheVariants.{Nothing, Void, Move}
use Rattle.fab_move.specs.Propose.{is_fixed, movable, propose_held, propose_to, propose_for, proposal, target}
use Rattle.fab_site.specs.Words.{pick_of}
use Rattle.std.specs.Prelude.{is_some, slice_index}

some_same : (x y : ℕ) → Some x ≡ Some y → x ≡ y
some_same x y q = cc

in_filter : (p : ℕ → Bool) (a n r b : ℕ) → slice_get (filter p (range_with_len a n)) r ≡ Some b → b < a + n
in_filter p a zero r b e = absurd cc
in_filter p a (suc n) r b e = by_case (λ k h. let l = in_filter p (a + 1) n k b h in omega (arith, l)) (p a) r e
  where
    by_case : ((k : ℕ) → slice_get (filter p (range_with_len (a + 1) n)) k ≡ Some b → b < a + suc n) → (c : Bool) (k : ℕ) → slice_get (cond c (a ∷ filter p (range_with_len (a + 1) n)) (filter p (range_with_len (a + 1) n))) k ≡ Some b → b < a + suc n
    by_case later true zero h = let same = some_same a b h in omega (arith, same)
    by_case later true (suc k) h = later k h
    by_case later false k h = later k h

-- a block that may move is one of the design's
pub chosen_below : (d : Netlist) (fixed : List (Option Site)) (r b : ℕ) → slice_get (movable d fixed) r ≡ Some b → b < length d.kinds
chosen_below d fixed r b e = let l = in_filter (is_free fixed) 0 (length d.kinds) r b e in omega (arith, l)

pub nothing_chosen : (d : Netlist) (g : GridShape) (fixed : List (Option Site)) (sites : List Site) (range : ℕ) (ws : List ℕ) → None ≡ slice_get (movable d fixed) (pick_of (slice_index ws 0) (length (movable d fixed))) → Nothing ≡ proposal d g fixed sites range ws
unfolding proposal
nothing_chosen d g fixed sites range ws e = ap (propose_for d g fixed sites range ws) e

pub some_chosen : (d : Netlist) (g : GridShape) (fixed : List (Option Site)) (sites : List Site) (range : ℕ) (ws : List ℕ) (b : BlockId) → Some b.0 ≡ slice_get (movable d fixed) (pick_of (slice_index ws 0) (length (movable d fixed))) → propose_to fixed sites b (site_of sites b.0) (target d g b.0 (site_of sites b.0) range ws) ≡ proposal d g fixed sites range ws
unfolding proposal
some_chosen d g fixed sites range ws b e = ap (propose_for d g fixed sites range ws) e

the_swap : Proposal → Swap → Swap
the_swap Nothing s = s
the_swap (Void b to) s = s
the_swap (Move t) s = t

is_move : Proposal → Bool
is_move Nothing = false
is_move (Void b to) = false
is_move (Move t) = true

same_here : (s : Site) → same_site s s ≡ true
same_here s = and_from _ _ (and_from _ _ (eq-eqb s.x s.x refl) (eq-eqb s.y s.y refl)) (eq-eqb s.sub s.sub refl)

-- what is proposed for a block at its site is a swap
pub lawful_to : (g : GridShape) (fixed : List (Option Site)) (sites : List Site) (b : BlockId) (from to : Site) (s : Swap) → slice_get sites b.0 ≡ Some from → kind_at g to ≡ kind_at g from → is_some (kind_at g from) ≡ true → propose_to fixed sites b from to ≡ Move s → IsSwapOf g sites s
unfolding the_swap is_move
lawful_to g fixed sites b from to s stands kind there e = by_site (same_site from to) refl e
  where
    swap_of : Option BlockId → Swap
    swap_of o = record { block = b; from = from; to = to; other = o }

    made : (o : Option BlockId) → same_site from to ≡ false → at sites to ≡ o → IsSwapOf g sites (swap_of o)
    made o apart holds = record {
      stands = stands;
      away = λ q. false≢true (sym apart ∙ ap (same_site from) q ∙ same_here from);
      holder = holds;
      kind = kind;
      there = there;
    }

    by_holder : (o : Option BlockId) → same_site from to ≡ false → at sites to ≡ o → propose_held fixed b from to o ≡ Move s → IsSwapOf g sites s
    by_holder None apart holds q = subst (IsSwapOf g sites) (ap (λ p. the_swap p s) q) (made None apart holds)
    by_holder (Some holder) apart holds q = by_fixed (is_fixed fixed holder.0) q
      where
        by_fixed : (c : Bool) → cond c (Void b to) (Move (swap_of (Some holder))) ≡ Move s → IsSwapOf g sites s
        by_fixed true k = absurd (false≢true (ap is_move k))
        by_fixed false k = subst (IsSwapOf g sites) (ap (λ p. the_swap p s) k) (made (Some holder) apart holds)

    by_site : (c : Bool) → same_site from to ≡ c → cond c (Void b to) (propose_held fixed b from to (at sites to)) ≡ Move s → IsSwapOf g sites s
    by_site true h k = absurd (false≢true (ap is_move k))
    by_site false h k = by_holder (at sites to) h refl k

pub stands_at : (sites : List Site) (b : ℕ) → b < length sites → slice_get sites b ≡ Some (site_of sites b)
stands_at [] b h = absurd (omega arith)
stands_at (s ∷ sites) zero h = refl
stands_at (s ∷ sites) (suc b) h = stands_at sites b (omega arith)

pub same_swap : (s t : Swap) → Some s ≡ Some t → s ≡ t
same_swap s t q = cc
