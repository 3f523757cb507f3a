-- The table of sites after a swap.
use Rattle.std.proofs.Common.{◌≡◌, ℕ, ◌+◌, ◌<◌, true, List, Option, Some, None, length, set, refl, sym, ap, ◌∙◌, inl, inr, arith}
use Rattle.std.specs.Prelude.{is_some}
use Rattle.std.proofs.lemmas.Bool.{cases_Bool, false≢true}
use Rattle.std.proofs.lemmas.List.{get_or-set_same, length-set}
use Rattle.std.proofs.lemmas.Option.{slice_get_within, get_or_from_slice_get}
use Rattle.fab_arch.specs.declared.array.Site.{Site}
use Rattle.fab_arch.specs.Grid.{GridShape, kind_at}
use Rattle.fab_net.specs.declared.netlist_types.BlockId.{BlockId}
use Rattle.fab_site.specs.declared.placement_types.Swap.{Swap}
use Rattle.fab_site.specs.Placement.{site_of, same_site, nowhere, at, swapped, IsSwapOf}
use Rattle.fab_site.specs.Index.{index_of, held, number_for, IsIndexed}
use Rattle.fab_site.proofs.Sites.{index_there, site_from}
use Rattle.fab_site.proofs.Tables.{index_below, index_apart, itself, same_is, held_other, held_here}
use Rattle.fab_site.proofs.Swaps.{IsReady, IsHeldBy, held_by, nobody_on, length-swapped, apart-swapped, at-to, at-from, at-elsewhere}

pub ready : (g : GridShape) (sites : List Site) (s : Swap) → IsSwapOf g sites s → IsReady sites s
ready g sites s is =
    record {
      within = slice_get_within sites s.block.0 s.from is.stands;
      stands = get_or_from_slice_get sites s.block.0 s.from nowhere is.stands;
      away = λ e. is.away (sym e);
      held = held_by sites s.to s.other is.holder;
    }

-- the site of a block has a place in the table
stands_there : (g : GridShape) (sites : List Site) (holders : List ℕ) (b : ℕ) (x : Site) → IsIndexed g sites holders → b < length sites → site_of sites b ≡ x → is_some (index_of g x) ≡ true
stands_there g sites holders b x t lt e = by_index (index_of g x) refl
  where
    by_index : (o : Option ℕ) → index_of g x ≡ o → is_some o ≡ true
    by_index None k = absurd (nobody_on 0 sites x b (sym (t.each x) ∙ ap (held holders) k) lt e)
    by_index (Some i) k = refl

-- both sites of a swap have a place in the table
pub record HasPlaces (g : GridShape) (s : Swap) : Type 0 where
  pub from : is_some (index_of g s.from) ≡ true
  pub to : is_some (index_of g s.to) ≡ true

pub places : (g : GridShape) (sites : List Site) (holders : List ℕ) (s : Swap) → IsIndexed g sites holders → IsSwapOf g sites s → HasPlaces g s
places g sites holders s t is =
    let r = ready g sites s is in
    let from = stands_there g sites holders s.block.0 s.from t r.within r.stands in
    let kind : is_some (kind_at g s.to) ≡ true = ap is_some is.kind ∙ site_from g s.from from in
    record { from = from; to = index_there g s.to kind }

-- an entry that was written is read back
held_set : (holders : List ℕ) (i : ℕ) (o : Option BlockId) → i < length holders → held (set holders i (number_for o)) (Some i) ≡ o
held_set holders i None lt = let e = get_or-set_same holders i 0 0 lt in rw e refl
held_set holders i (Some b) lt = held_here holders i b.0 lt

both_set : (g : GridShape) (sites : List Site) (s : Swap) (holders : List ℕ) (i j : ℕ) → IsIndexed g sites holders → IsReady sites s → index_of g s.to ≡ Some i → index_of g s.from ≡ Some j
    → IsIndexed g (swapped sites s) (set (set holders i (s.block.0 + 1)) j (number_for s.other))
both_set g sites s holders i j t r at_i at_j =
    record {
      size = length-set mid j (number_for s.other) ∙ length-set holders i (s.block.0 + 1) ∙ t.size;
      few = omega (arith, length-swapped sites s, t.few);
      each = each;
      apart = apart-swapped sites s t.apart r;
    }
  where
    mid : List ℕ
    mid = set holders i (s.block.0 + 1)

    each : (x : Site) → held (set (set holders i (s.block.0 + 1)) j (number_for s.other)) (index_of g x) ≡ at (swapped sites s) x
    each x =
        let low : i < length holders = omega (arith, index_below g s.to i at_i, t.size) in
        let low2 : j < length (set holders i (s.block.0 + 1)) = omega (arith, index_below g s.from j at_j, t.size, length-set holders i (s.block.0 + 1)) in
        elim (cases_Bool (same_site s.from x)) [
          | inl y ↦
              let same : s.from ≡ x = same_is s.from x y in
              let there : index_of g x ≡ Some j = ap (index_of g) (sym same) ∙ at_j in
              rw there (held_set (set holders i (s.block.0 + 1)) j s.other low2 ∙ sym (at-from sites s t.apart r) ∙ ap (at (swapped sites s)) same)
          | inr f ↦
              let off_j : index_of g x ≡ Some j → ⊥ = λ e. false≢true (sym f ∙ ap (same_site s.from) (index_apart g x s.from j e at_j) ∙ itself s.from) in
              held_other (set holders i (s.block.0 + 1)) j (number_for s.other) (index_of g x) off_j
              ∙ elim (cases_Bool (same_site s.to x)) [
                | inl y ↦
                    let same : s.to ≡ x = same_is s.to x y in
                    let there : index_of g x ≡ Some i = ap (index_of g) (sym same) ∙ at_i in
                    rw there (held_here holders i s.block.0 low ∙ sym (at-to sites s t.apart r) ∙ ap (at (swapped sites s)) same)
                | inr m ↦
                    let off_i : index_of g x ≡ Some i → ⊥ = λ e. false≢true (sym m ∙ ap (same_site s.to) (index_apart g x s.to i e at_i) ∙ itself s.to) in
                    held_other holders i (s.block.0 + 1) (index_of g x) off_i ∙ t.each x ∙ sym (at-elsewhere sites s x r f m)
              ]
        ]

-- the table after both writes of a swap is that of the swapped sites
pub indexed_swapped : (g : GridShape) (sites : List Site) (s : Swap) (old mid new : List ℕ) → IsIndexed g sites old → IsSwapOf g sites s
    → ((i : ℕ) → index_of g s.to ≡ Some i → mid ≡ set old i (s.block.0 + 1)) → ((i : ℕ) → index_of g s.from ≡ Some i → new ≡ set mid i (number_for s.other)) → IsIndexed g (swapped sites s) new
indexed_swapped g sites s old mid new t is first second =
    let p = places g sites old s t is in
    by_index (index_of g s.to) (index_of g s.from) refl refl p.to p.from
  where
    by_index : (o q : Option ℕ) → index_of g s.to ≡ o → index_of g s.from ≡ q → is_some o ≡ true → is_some q ≡ true → IsIndexed g (swapped sites s) new
    by_index None q e f k l = absurd (false≢true k)
    by_index (Some i) None e f k l = absurd (false≢true l)
    by_index (Some i) (Some j) e f k l = rw (second j f, first i e) (both_set g sites s old i j t (ready g sites s is) e f)

other_below : (sites : List Site) (to : Site) (o : Option BlockId) (b : BlockId) → IsHeldBy sites to o → o ≡ Some b → b.0 < length sites
other_below sites to None b h e = let k : ⊥ = cc in absurd k
other_below sites to (Some c) b h e = let k : c ≡ b = cc in let z : c.0 ≡ b.0 = ap (λ (v : BlockId). v.0) k in omega (arith, h.0, z)

-- the other block of a swap is one of the placement's
pub other_within : (g : GridShape) (sites : List Site) (s : Swap) (b : BlockId) → IsSwapOf g sites s → s.other ≡ Some b → b.0 < length sites
other_within g sites s b is e = other_below sites s.to s.other b (ready g sites s is).held e
