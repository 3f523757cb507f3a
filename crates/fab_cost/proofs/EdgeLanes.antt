-- The lanes of boxes' edges, kept beside the boxes.
use Rattle.std.proofs.Common.{◌≡◌, ℕ, ◌+◌, ◌-◌, ◌<◌, ◌≤◌, min, max, List, [], ◌∷◌, ◌++◌, set, length, get_or, sym, subst, ap, ◌∙◌, arith, inl, inr, get_or-set_other, get_or-set_same, length-append, length-set}
use Rattle.std.proofs.lemmas.Bool.{cases_eq, cases_lt}
use Rattle.std.proofs.lemmas.Bool.Decides.{nat_tests}
use Rattle.std.proofs.lemmas.List.{get_or_append_left, get_or_push}
use Rattle.fab_arch.specs.Grid.{GridShape}
use Rattle.fab_site.specs.declared.placement_types.Swap.{Swap}
use Rattle.fab_cost.specs.declared.edge_counts.CountedBox.{CountedBox}
use Rattle.fab_cost.specs.declared.edge_counts.Edge.{Edge}
use Rattle.fab_cost.specs.Changes.{Holds, HoldsLeast, HoldsGreatest}
use Rattle.fab_cost.specs.Cost.{clip}
use Rattle.fab_cost.specs.Swapping.{counted_at}
use Rattle.fab_cost.specs.Runs.{AreFourBelow, AreInner, inner_lanes, lowered}
use Rattle.fab_cost.proofs.Renewals.{set_here, set_apart}

-- the lanes beside the boxes

pub inner_at : (inner : List (List ℕ)) (most : List ℕ) (boxes : List CountedBox) (n : ℕ) (v : List ℕ) → AreInner inner most boxes → n < length boxes → v ≡ get_or inner n v → v ≡ inner_lanes (get_or most n 0) (counted_at boxes n)
inner_at inner most boxes n v is h e = e ∙ is.each n v h

pub inner_set : (inner : List (List ℕ)) (most : List ℕ) (boxes : List CountedBox) (n m : ℕ) (v : List ℕ) (new : CountedBox) → AreInner inner most boxes → n < length boxes → m ≡ get_or most n 0 → v ≡ inner_lanes m new → AreInner (set inner n v) most (set boxes n new)
inner_set inner most boxes n m v new is h em ev =
    let long = is.long in
    record {
      long = length-set inner n v ∙ is.long ∙ sym (length-set boxes n new);
      told = is.told ∙ sym (length-set boxes n new);
      each = λ k z l. elim (cases_eq k n) [
        | inl q ↦
            ap (λ j. get_or (set inner n v) j z) q ∙ get_or-set_same inner n v z (omega (arith, h, long)) ∙ ev ∙ ap (λ j. inner_lanes j new) em
            ∙ ap (inner_lanes (get_or most n 0)) (sym (set_here boxes n new h)) ∙ ap (λ j. inner_lanes (get_or most j 0) (counted_at (set boxes n new) j)) (sym q)
        | inr ne ↦
            (let low : k < length boxes = (let s = length-set boxes n new in omega (arith, l, s)) in
            get_or-set_other inner n k v z ne ∙ is.each k z low ∙ ap (inner_lanes (get_or most k 0)) (sym (set_apart boxes n k new ne)))
      ];
    }

-- while they are made
pub record AreInnerTo (inner : List (List ℕ)) (most : List ℕ) (boxes : List CountedBox) (i : ℕ) : Type 0 where
  pub long : length inner ≡ i
  pub each : (n : ℕ) (z : List ℕ) → n < i → get_or inner n z ≡ inner_lanes (get_or most n 0) (counted_at boxes n)

pub inner_to_none : (inner : List (List ℕ)) (most : List ℕ) (boxes : List CountedBox) → inner ≡ [] → AreInnerTo inner most boxes 0
inner_to_none inner most boxes e = record { long = ap length e; each = λ n z h. absurd (omega arith) }

pub inner_to_more : (inner new : List (List ℕ)) (most : List ℕ) (boxes : List CountedBox) (i m : ℕ) (b : CountedBox) (v : List ℕ) → AreInnerTo inner most boxes i → m ≡ get_or most i 0 → b ≡ counted_at boxes i → v ≡ inner_lanes m b → new ≡ inner ++ v ∷ [] → AreInnerTo new most boxes (i + 1)
inner_to_more inner new most boxes i m b v is em eb ev en = subst (λ w. AreInnerTo w most boxes (i + 1)) (sym en) there
  where
    there : AreInnerTo (inner ++ v ∷ []) most boxes (i + 1)
    there =
        let long = is.long in
        let l = length-append inner (v ∷ []) in
        record {
          long = omega (arith, l, long);
          each = λ n z h. elim (cases_lt n i) [
            | inl lt ↦ get_or_append_left inner (v ∷ []) z n (omega (arith, lt, long)) ∙ is.each n z lt
            | inr ge ↦
                (let q : n ≡ i = omega (arith, h, ge) in
                get_or_push inner v z n (omega (arith, q, long)) ∙ ev ∙ (λ j. inner_lanes (em j) (eb j)) ∙ ap (λ k. inner_lanes (get_or most k 0) (counted_at boxes k)) (sym q))
          ];
        }

pub inner_all : (inner : List (List ℕ)) (most : List ℕ) (boxes : List CountedBox) (i : ℕ) → length most ≡ length boxes → length boxes ≤ i → i ≤ length boxes → AreInnerTo inner most boxes i → AreInner inner most boxes
inner_all inner most boxes i told h k is = let long = is.long in record { long = omega (arith, h, k, long); told = told; each = λ n z l. is.each n z (omega (arith, h, l)) }

-- a lane below the sites'

held_least : (most : ℕ) (e : Edge) (low : ℕ) → lowered most e.count e.at < low → HoldsLeast most e low
held_least most e low h = record { within = grind (arith, nat_tests, h); many = λ k. grind (arith, nat_tests, h, k) }

held_greatest : (most : ℕ) (e : Edge) (from to : ℕ) → lowered most e.count (1001 - e.at) < min (1001 - from) (1001 - to) → HoldsGreatest most e (max from to)
held_greatest most e from to h = record { within = grind (arith, nat_tests, h); many = λ k. grind (arith, nat_tests, h, k) }

pub held_by : (most : ℕ) (g : GridShape) (b : CountedBox) (s : Swap)
    → AreFourBelow (lowered most b.x.least.count b.x.least.at) (lowered most b.x.greatest.count (1001 - b.x.greatest.at)) (lowered most b.y.least.count b.y.least.at) (lowered most b.y.greatest.count (1001 - b.y.greatest.at))
    (min (clip g.nx s.from.x) (clip g.nx s.to.x)) (min (1001 - clip g.nx s.from.x) (1001 - clip g.nx s.to.x)) (min (clip g.ny s.from.y) (clip g.ny s.to.y)) (min (1001 - clip g.ny s.from.y) (1001 - clip g.ny s.to.y))
    → Holds most g b s
held_by most g b s below = record {
  x_least = held_least most b.x.least _ below.first;
  x_greatest = held_greatest most b.x.greatest _ _ below.second;
  y_least = held_least most b.y.least _ below.third;
  y_greatest = held_greatest most b.y.greatest _ _ below.fourth;
}
