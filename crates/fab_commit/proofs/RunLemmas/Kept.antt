-- A move that is proposed on a legal placement leaves a legal one.
use Rattle.std.proofs.Common.{◌≡◌, ◌≢◌, ℕ, ◌<◌, Bool, true, false, cond, List, [], ◌∷◌, zero, suc, Option, Some, None, is_some, slice_get, length, refl, sym, ap, subst, ◌∙◌, inl, inr, arith}
use Rattle.std.proofs.lemmas.Bool.{false≢true}
use Rattle.std.specs.Prelude.{slice_index, not}
use Rattle.std.specs.List.{filter, range_with_len}
use Rattle.fab_arch.specs.declared.array.Site.{Site}
use Rattle.fab_arch.specs.Grid.{GridShape, kind_at}
use Rattle.fab_net.specs.declared.netlist_types.BlockId.{BlockId}
use Rattle.fab_net.specs.Netlist.{Netlist}
use Rattle.fab_site.specs.declared.placement_types.Swap.{Swap}
use Rattle.fab_site.specs.Free.{is_free}
use Rattle.fab_site.specs.Placement.{Fits, IsLegal, IsSwapOf, fixed_at, same_site, site_of, at, swapped}
use Rattle.fab_site.specs.Words.{pick_of}
use Rattle.fab_site.proofs.Swaps.{IsHeldBy, Placed, placed, apart-swapped, length-swapped}
use Rattle.fab_site.proofs.Swapping.{ready}
use Rattle.fab_move.specs.declared.proposals.Proposal.{Proposal}
use Rattle.fab_move.specs.declared.proposals.Proposal.TheVariants.{Nothing, Void, Move}
use Rattle.fab_move.specs.Propose.{is_fixed, movable, propose_held, propose_to, propose_for, proposal, target}
use Rattle.fab_cost.specs.Swapping.{change}
use Rattle.fab_move.specs.Judge.{Problem, judged_as, judged}
use Rattle.fab_move.proofs.Choices.{stands_at}

abbrev pub OtherMay : List (Option Site) → Option BlockId → Type 0
OtherMay fixed None = Unit {0}
OtherMay fixed (Some b) = is_fixed fixed b.0 ≡ false

-- neither of the swap's blocks is fixed
pub record MayMove (fixed : List (Option Site)) (s : Swap) : Type 0 where
  pub block : is_fixed fixed s.block.0 ≡ false
  pub other : OtherMay fixed s.other

swap_or : Proposal → Swap → Swap
swap_or Nothing s = s
swap_or (Void b to) s = s
swap_or (Move t) s = t

is_move : Proposal → Bool
is_move Nothing = false
is_move (Void b to) = false
is_move (Move t) = true

not_true : (b : Bool) → not b ≡ true → b ≡ false
not_true true h = absurd (false≢true h)
not_true false h = refl

free_filtered : (fixed : List (Option Site)) (xs : List ℕ) (r b : ℕ) → slice_get (filter (is_free fixed) xs) r ≡ Some b → is_free fixed b ≡ true
free_filtered fixed [] r b e = absurd cc
free_filtered fixed (x ∷ xs) r b e = by_case (λ k h. free_filtered fixed xs k b h) (is_free fixed x) refl r e
  where
    some_same : (x y : ℕ) → Some x ≡ Some y → x ≡ y
    some_same x y q = cc

    by_case : ((k : ℕ) → slice_get (filter (is_free fixed) xs) k ≡ Some b → is_free fixed b ≡ true) → (c : Bool) → is_free fixed x ≡ c → (k : ℕ) → slice_get (cond c (x ∷ filter (is_free fixed) xs) (filter (is_free fixed) xs)) k ≡ Some b → is_free fixed b ≡ true
    by_case later true t zero h = sym (ap (is_free fixed) (some_same x b h)) ∙ t
    by_case later true t (suc k) h = later k h
    by_case later false t k h = later k h

may_to : (fixed : List (Option Site)) (sites : List Site) (b : BlockId) (from to : Site) (s : Swap) → is_fixed fixed b.0 ≡ false → propose_to fixed sites b from to ≡ Move s → MayMove fixed s
unfolding swap_or is_move
may_to fixed sites b from to s free e = by_site (same_site from to) e
  where
    swap_of : Option BlockId → Swap
    swap_of o = record { block = b; from = from; to = to; other = o }

    by_holder : (o : Option BlockId) → propose_held fixed b from to o ≡ Move s → MayMove fixed s
    by_holder None q = subst (MayMove fixed) (ap (λ p. swap_or p s) q) (record { block = free; other = tt })
    by_holder (Some holder) q = by_fixed (is_fixed fixed holder.0) refl q
      where
        by_fixed : (c : Bool) → is_fixed fixed holder.0 ≡ c → cond c (Void b to) (Move (swap_of (Some holder))) ≡ Move s → MayMove fixed s
        by_fixed true f k = absurd (false≢true (ap is_move k))
        by_fixed false f k = subst (MayMove fixed) (ap (λ p. swap_or p s) k) (record { block = free; other = f })

    by_site : (c : Bool) → cond c (Void b to) (propose_held fixed b from to (at sites to)) ≡ Move s → MayMove fixed s
    by_site true k = absurd (false≢true (ap is_move k))
    by_site false k = by_holder (at sites to) k

-- a swap that is proposed moves no fixed block
pub may_move : (d : Netlist) (g : GridShape) (fixed : List (Option Site)) (sites : List Site) (range : ℕ) (ws : List ℕ) (s : Swap) → proposal d g fixed sites range ws ≡ Move s → MayMove fixed s
unfolding proposal is_move
may_move d g fixed sites range ws s e = by_choice (slice_get (movable d fixed) (pick_of (slice_index ws 0) (length (movable d fixed)))) refl e
  where
    by_choice : (o : Option ℕ) → slice_get (movable d fixed) (pick_of (slice_index ws 0) (length (movable d fixed))) ≡ o → propose_for d g fixed sites range ws o ≡ Move s → MayMove fixed s
    by_choice None q k = absurd (false≢true (ap is_move k))
    by_choice (Some b) q k =
        may_to fixed sites (record { 0 = b }) (site_of sites b) (target d g b (site_of sites b) range ws) s
        (not_true (is_fixed fixed b) (free_filtered fixed (range_with_len 0 (length d.kinds)) _ b q)) k

-- the swap of a judgement is the proposed one
pub judged_may_move : (p : Problem) (sites : List Site) (k t range : ℕ) (s : Swap) → (judged p sites k t range).swap ≡ Some s → MayMove p.fixed s
unfolding judged
judged_may_move p sites k t range s e = by_proposal (proposal p.design p.grid p.fixed sites range (p.words k)) refl e
  where
    same : (a b : Swap) → Some a ≡ Some b → a ≡ b
    same a b q = cc

    by_proposal : (o : Proposal) → proposal p.design p.grid p.fixed sites range (p.words k) ≡ o → (judged_as p sites t (slice_index (p.words k) 3) o).swap ≡ Some s → MayMove p.fixed s
    by_proposal Nothing q h = absurd cc
    by_proposal (Void b to) q h = absurd cc
    by_proposal (Move m) q h = may_move p.design p.grid p.fixed sites range (p.words k) s (q ∙ ap (λ x. Move x) (same m s h))

-- the change of a judgement is that of its swap
pub judged_change : (p : Problem) (sites : List Site) (k t range : ℕ) (s : Swap) → (judged p sites k t range).swap ≡ Some s → (judged p sites k t range).change ≡ change p.design p.grid sites s
unfolding judged
judged_change p sites k t range s e = by_proposal (proposal p.design p.grid p.fixed sites range (p.words k)) e
  where
    same : (a b : Swap) → Some a ≡ Some b → a ≡ b
    same a b q = cc

    by_proposal : (o : Proposal) → (judged_as p sites t (slice_index (p.words k) 3) o).swap ≡ Some s → (judged_as p sites t (slice_index (p.words k) 3) o).change ≡ change p.design p.grid sites s
    by_proposal Nothing h = absurd cc
    by_proposal (Void b to) h = absurd cc
    by_proposal (Move m) h = ap (change p.design p.grid sites) (same m s h)

fit_after : (d : Netlist) (g : GridShape) (sites after : List Site) (block : ℕ) (from to : Site) (o : Option BlockId) (b : ℕ)
    → Fits d g b (site_of sites b) → kind_at g to ≡ kind_at g from → site_of sites block ≡ from → IsHeldBy sites to o → Placed sites block from to o after b → Fits d g b (site_of after b)
fit_after d g sites after block from to None b was kind stands held p =
    elim p [
      | inl (is, there) ↦ ap (kind_at g) there ∙ kind ∙ sym (ap (kind_at g) (ap (site_of sites) is ∙ stands)) ∙ was
      | inr (isnt, there) ↦ ap (kind_at g) there ∙ was
    ]
fit_after d g sites after block from to (Some c) b was kind stands (below, held) p =
    elim p [
      | inl (is, there) ↦ ap (kind_at g) there ∙ kind ∙ sym (ap (kind_at g) (ap (site_of sites) is ∙ stands)) ∙ was
      | inr q ↦ elim q [
        | inl (is, there) ↦ ap (kind_at g) there ∙ sym kind ∙ sym (ap (kind_at g) (ap (site_of sites) is ∙ held)) ∙ was
        | inr (isnt, not_other, there) ↦ ap (kind_at g) there ∙ was
      ]
    ]

apart_from : (fixed : List (Option Site)) (a b : ℕ) → is_some (fixed_at fixed a) ≡ true → is_fixed fixed b ≡ false → a ≢ b
apart_from fixed a b h f e = false≢true (sym f ∙ ap (is_fixed fixed) (sym e) ∙ h)

stay_after : (fixed : List (Option Site)) (sites after : List Site) (block : ℕ) (from to : Site) (o : Option BlockId) (b : ℕ) → is_some (fixed_at fixed b) ≡ true → is_fixed fixed block ≡ false → OtherMay fixed o → Placed sites block from to o after b → site_of after b ≡ site_of sites b
stay_after fixed sites after block from to None b is free other p =
    elim p [
      | inl (here, there) ↦ absurd (apart_from fixed b block is free here)
      | inr (isnt, there) ↦ there
    ]
stay_after fixed sites after block from to (Some c) b is free other p =
    elim p [
      | inl (here, there) ↦ absurd (apart_from fixed b block is free here)
      | inr q ↦ elim q [
        | inl (here, there) ↦ absurd (apart_from fixed b c.0 is other here)
        | inr (isnt, not_other, there) ↦ there
      ]
    ]

inside : (sites : List Site) (b : ℕ) (s : Site) → slice_get sites b ≡ Some s → (b < length sites) × (site_of sites b ≡ s)
inside [] b s e = absurd cc
inside (x ∷ sites) zero s e = (omega arith, same x s e)
  where
    same : (x y : Site) → Some x ≡ Some y → x ≡ y
    same x y q = cc
inside (x ∷ sites) (suc b) s e = let r = inside sites b s e in (let l = r.0 in omega arith, r.1)

-- a swap of blocks that are not fixed leaves a legal placement
pub legal_swapped : (d : Netlist) (g : GridShape) (fixed : List (Option Site)) (sites : List Site) (s : Swap) → IsLegal d g fixed sites → IsSwapOf g sites s → MayMove fixed s → IsLegal d g fixed (swapped sites s)
legal_swapped d g fixed sites s legal is may =
    let r = ready g sites s is in
    let same : length (swapped sites s) ≡ length sites = length-swapped sites s in
    record {
      all = same ∙ legal.all;
      fit = λ b l. fit_after d g sites (swapped sites s) s.block.0 s.from s.to s.other b (legal.fit b (omega (arith, same))) is.kind r.stands r.held (placed sites s b r);
      apart = apart-swapped sites s legal.apart r;
      stay = λ b x e.
          let there = inside sites b x (legal.stay b x e) in
          let low = there.0 in
          stands_at (swapped sites s) b (omega (arith, same, low))
          ∙ ap (λ k. Some k) (stay_after fixed sites (swapped sites s) s.block.0 s.from s.to s.other b (ap is_some e) may.block may.other (placed sites s b r) ∙ there.1);
    }
