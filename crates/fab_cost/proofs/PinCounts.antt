-- How many terminals of a net are of a block, read from the block's own nets.
use Rattle.std.proofs.Common.{◌≡◌, ◌≢◌, ℕ, zero, suc, ◌+◌, ◌<◌, ◌≤◌, Bool, true, false, not, ltb, eqb, ◌||◌, List, [], ◌∷◌, ◌++◌, length, map, take, get_or, Option, Some, None, refl, sym, ap, ◌∙◌, arith, inl, inr}
use Rattle.std.proofs.lemmas.Bool.{cases_Bool, cases_eq, ltb-true, eq-eqb, ne_eqb}
use Rattle.std.proofs.lemmas.Bool.Decides.{nat_tests}
use Rattle.std.proofs.lemmas.List.{length-map, get_or-map, take_all, take_more}
use Rattle.fab_arch.specs.declared.array.Site.{Site}
use Rattle.fab_arch.specs.Grid.{GridShape}
use Rattle.fab_net.specs.declared.netlist_types.BlockId.{BlockId}
use Rattle.fab_net.specs.Netlist.{Netlist, nets_of, has_number, pin_count}
use Rattle.fab_site.specs.declared.placement_types.Swap.{Swap}
use Rattle.fab_site.specs.Placement.{IsSwapOf}
use Rattle.fab_cost.specs.Boxes.{Counts}
use Rattle.fab_cost.specs.Edges.{times}
use Rattle.fab_cost.specs.Swapping.{AreBelow, IsPart, IsPlaceOf, blocks_of, has_block, partner, times_other}
use Rattle.fab_cost.proofs.Nets.{same_nets, rising_nets, times_if_absent}
use Rattle.fab_cost.proofs.Numbers.{Rising, rising_ge, absent_from_each, present_times}
use Rattle.fab_cost.proofs.Sited.{block_below, other_below}

pub own : (d : Netlist) (b i : ℕ) (ps : List ℕ) (r z : ℕ) → ps ≡ map (pin_count d b) (nets_of d b) → i < length (nets_of d b) → r ≡ get_or ps i z → r ≡ times b (blocks_of d (get_or (nets_of d b) i 0))
unfolding times
own d b i ps r z e h er = er ∙ ap (λ v. get_or v i z) e ∙ get_or-map (pin_count d b) (nets_of d b) i 0 z h

pub pins_within : (d : Netlist) (b i : ℕ) (ps : List ℕ) → ps ≡ map (pin_count d b) (nets_of d b) → i < length (nets_of d b) → i < length ps
pins_within d b i ps e h = omega (arith, ap length e, length-map (nets_of d b) (pin_count d b))

rising_before : (a : ℕ) (xs : List ℕ) (i j : ℕ) → Rising a xs → i < j → j < length xs → get_or xs i 0 < get_or xs j 0
rising_before a [] i j r h l = absurd (omega arith)
rising_before a (x ∷ xs) zero zero r h l = absurd (omega arith)
rising_before a (x ∷ xs) zero (suc j) r h l = let g = rising_ge (x + 1) xs j r.1 (omega arith) in omega arith
rising_before a (x ∷ xs) (suc i) zero r h l = absurd (omega arith)
rising_before a (x ∷ xs) (suc i) (suc j) r h l = rising_before (x + 1) xs i j r.1 (omega arith) (omega arith)

-- a net's place among those of a block

pub none_below : (d : Netlist) (o : Option BlockId) (n : ℕ) → AreBelow d o 0 n
none_below d None n = tt
none_below d (Some b) n = λ k h l. absurd (omega arith)

pub below_next : (d : Netlist) (b : BlockId) (at n m : ℕ) → AreBelow d (Some b) at n → m ≡ get_or (nets_of d b.0) at 0 → m < n → AreBelow d (Some b) (at + 1) n
below_next d b at n m below e lt = λ k h l. elim (cases_eq k at) [
  | inl q ↦ let v : get_or (nets_of d b.0) k 0 ≡ m = ap (λ x. get_or (nets_of d b.0) x 0) q ∙ sym e in omega (arith, v, lt)
  | inr ne ↦ let p : k < at = omega (arith, h, ne) in below k p l
]

pub on : (d : Netlist) (b n at m r : ℕ) → m ≡ get_or (nets_of d b) at 0 → m ≡ n → r ≡ times b (blocks_of d (get_or (nets_of d b) at 0)) → r ≡ times b (blocks_of d n)
on d b n at m r e q er = er ∙ ap (λ v. times b (blocks_of d v)) (sym e ∙ q)

absent_if : (d : Netlist) (b : BlockId) (n at : ℕ) → Counts d n → IsPlaceOf d (Some b) at n → (at < length (nets_of d b.0) → get_or (nets_of d b.0) at 0 ≢ n) → 0 ≡ times b.0 (blocks_of d n)
absent_if d b n at c place away =
    let none : has_number n (nets_of d b.0) ≡ false = absent_from_each n (nets_of d b.0) apart in
    sym (times_if_absent b.0 (blocks_of d n) (sym (same_nets d b.0 n c) ∙ none))
  where
    apart : (k : ℕ) → k < length (nets_of d b.0) → get_or (nets_of d b.0) k 0 ≢ n
    apart k l e = elim (cases_Bool (ltb k at)) [
      | inl t ↦ let p = place.0 k (ltb-true k at t) l in absurd (omega (arith, p, e))
      | inr f ↦
          let le : at ≤ k = grind (arith, nat_tests) in
          elim (cases_eq k at) [
            | inl q ↦ away (omega (arith, q, l)) (ap (λ x. get_or (nets_of d b.0) x 0) (sym q) ∙ e)
            | inr ne ↦
                let r = rising_before 0 (nets_of d b.0) at k (rising_nets d b.0) (omega (arith, le, ne)) l in
                let p = place.1 (omega (arith, le, l)) in
                absurd (omega (arith, r, p, e))
          ]
    ]

pub off : (d : Netlist) (b : BlockId) (n at m : ℕ) → Counts d n → IsPlaceOf d (Some b) at n → m ≡ get_or (nets_of d b.0) at 0 → m ≢ n → 0 ≡ times b.0 (blocks_of d n)
off d b n at m c place e ne = absent_if d b n at c place (λ l q. ne (e ∙ q))

pub past : (d : Netlist) (b : BlockId) (n at : ℕ) → Counts d n → IsPlaceOf d (Some b) at n → length (nets_of d b.0) ≤ at → 0 ≡ times b.0 (blocks_of d n)
past d b n at c place h = absent_if d b n at c place (λ l q. omega (arith, h, l))

-- whether a block is on a net, by how many terminals are its own

pub is_on : (b m : ℕ) (bs : List ℕ) → m ≡ times b bs → m ≢ 0 → true ≡ has_number b bs
is_on b m bs e ne = elim (cases_Bool (has_number b bs)) [
  | inl t ↦ sym t
  | inr f ↦ absurd (ne (e ∙ times_if_absent b bs f))
]

pub is_off : (b m : ℕ) (bs : List ℕ) → m ≡ times b bs → m ≡ 0 → false ≡ has_number b bs
is_off b m bs e z = elim (cases_Bool (has_number b bs)) [
  | inl t ↦ let p = present_times b bs t in absurd (omega (arith, p, e, z))
  | inr f ↦ sym f
]

-- the blocks of a swap

same_number : (b c : BlockId) → b ≡ c → b.0 ≡ c.0
same_number b c e = ap (λ (v : BlockId). v.0) e

some_is : (c b : BlockId) → Some c ≡ Some b → c ≡ b
some_is c b e = cc

pub partner_below : (g : GridShape) (sites : List Site) (s : Swap) (b c : BlockId) (but : Option BlockId) (k : ℕ) → IsSwapOf g sites s → IsPart s b but → partner s but ≡ Some c → k ≡ length sites → c.0 < k
partner_below g sites s b c None k is part e ek = other_below g sites s c k is e ek
partner_below g sites s b c (Some f) k is part e ek =
    let q : c.0 ≡ s.block.0 = same_number c s.block (sym (some_is f c e) ∙ part.0) in
    omega (arith, block_below g sites s k is ek, q)

pub mine_first : (s : Swap) (b : BlockId) (but : Option BlockId) (bs : List ℕ) (own : ℕ) → IsPart s b but → but ≡ None → own ≡ times b.0 bs → own ≡ times s.block.0 bs
mine_first s b None bs own part e eo = eo ∙ ap (λ (v : BlockId). times v.0 bs) part
mine_first s b (Some c) bs own part e eo = absurd (cc)

pub others_first : (s : Swap) (but : Option BlockId) (bs : List ℕ) (beside : ℕ) → but ≡ None → beside ≡ times_other (partner s but) bs → beside ≡ times_other s.other bs
others_first s but bs beside e eb = eb ∙ ap (λ v. times_other (partner s v) bs) e

pub mine_other : (s : Swap) (b c : BlockId) (but : Option BlockId) (bs : List ℕ) (beside : ℕ) → IsPart s b but → but ≡ Some c → beside ≡ times_other (partner s but) bs → beside ≡ times s.block.0 bs
mine_other s b c None bs beside part e eb = absurd (cc)
mine_other s b c (Some f) bs beside part e eb = eb ∙ ap (λ (v : BlockId). times v.0 bs) part.0

pub others_other : (s : Swap) (b c : BlockId) (but : Option BlockId) (bs : List ℕ) (own : ℕ) → IsPart s b but → but ≡ Some c → own ≡ times b.0 bs → own ≡ times_other s.other bs
others_other s b c None bs own part e eo = absurd (cc)
others_other s b c (Some f) bs own part e eo = eo ∙ ap (λ v. times_other v bs) (sym part.1)

left_out : (but : Option BlockId) (c : BlockId) (m : ℕ) → but ≡ Some c → m ≢ 0 → (s : Swap) (b : BlockId) (bs : List ℕ) → IsPart s b but → m ≡ times s.block.0 bs → true ≡ has_block but bs
left_out None c m e ne s b bs part em = absurd (cc)
left_out (Some f) c m e ne s b bs part em = is_on f.0 m bs (em ∙ ap (λ (v : BlockId). times v.0 bs) (sym part.0)) ne

not_left_out : (but : Option BlockId) (c : BlockId) (m : ℕ) → but ≡ Some c → m ≡ 0 → (s : Swap) (b : BlockId) (bs : List ℕ) → IsPart s b but → m ≡ times s.block.0 bs → false ≡ has_block but bs
not_left_out None c m e z s b bs part em = absurd (cc)
not_left_out (Some f) c m e z s b bs part em = is_off f.0 m bs (em ∙ ap (λ (v : BlockId). times v.0 bs) (sym part.0)) z

pub is_left_out : (but : Option BlockId) (c : BlockId) (m : ℕ) → but ≡ Some c → (s : Swap) (b : BlockId) (bs : List ℕ) → IsPart s b but → m ≡ times s.block.0 bs → not (eqb m 0) ≡ has_block but bs
is_left_out but c m e s b bs part em = elim (cases_eq m 0) [
  | inl z ↦ ap not (eq-eqb m 0 z) ∙ not_left_out but c m e z s b bs part em
  | inr ne ↦ ap not (ne_eqb m 0 ne) ∙ left_out but c m e ne s b bs part em
]

-- whether a net is among those of a block, found by a look at each

or_last : (b : Bool) → (b || false) ≡ b
or_last true = refl
or_last false = refl

pub has_push : (v x : ℕ) (xs : List ℕ) → has_number v (xs ++ x ∷ []) ≡ (has_number v xs || eqb v x)
has_push v x [] = or_last (eqb v x)
has_push v x (y ∷ xs) = elim (eqb v y) as (λ b. (b || has_number v (xs ++ x ∷ [])) ≡ ((b || has_number v xs) || eqb v x)) [ true ↦ refl | false ↦ has_push v x xs ]

pub not_yet : (d : Netlist) (b n : ℕ) → false ≡ has_number n (take 0 (nets_of d b))
not_yet d b n = refl

pub same_way : (v x : ℕ) → eqb x v ≡ eqb v x
same_way v x = elim (cases_eq x v) [
  | inl e ↦ eq-eqb x v e ∙ sym (eq-eqb v x (sym e))
  | inr ne ↦ ne_eqb x v ne ∙ sym (ne_eqb v x (λ e. ne (sym e)))
]

pub found_more : (d : Netlist) (b n i m : ℕ) (found : Bool) → i < length (nets_of d b) → m ≡ get_or (nets_of d b) i 0 → found ≡ has_number n (take i (nets_of d b)) → (found || eqb m n) ≡ has_number n (take (i + 1) (nets_of d b))
found_more d b n i m found h em ef =
    (λ j. ef j || eqb m n) ∙ ap (λ v. has_number n (take i (nets_of d b)) || v) (same_way n m) ∙ sym (has_push n m (take i (nets_of d b)))
    ∙ (λ j. has_number n (take i (nets_of d b) ++ em j ∷ [])) ∙ ap (has_number n) (sym (take_more (nets_of d b) i 0 h))

pub found_all : (d : Netlist) (b n i : ℕ) (found : Bool) → Counts d n → length (nets_of d b) ≤ i → found ≡ has_number n (take i (nets_of d b)) → found ≡ has_number b (blocks_of d n)
found_all d b n i found c h e = e ∙ ap (has_number n) (take_all i (nets_of d b) h) ∙ same_nets d b n c

pub not_beside : (o : Option BlockId) (n : ℕ) (d : Netlist) (r : Bool) → r ≡ has_block o (blocks_of d n) → r ≡ false → 0 ≡ times_other o (blocks_of d n)
not_beside None n d r e f = refl
not_beside (Some b) n d r e f = sym (times_if_absent b.0 (blocks_of d n) (sym e ∙ f))

pub shares_first : (s : Swap) (b : BlockId) (but : Option BlockId) (own beside : ℕ) → IsPart s b but → but ≡ None → (bs : List ℕ) → own ≡ times b.0 bs → beside ≡ times_other (partner s but) bs → (own ≡ times s.block.0 bs) × (beside ≡ times_other s.other bs)
shares_first s b but own beside part e bs eo eb = (mine_first s b but bs own part e eo, others_first s but bs beside e eb)

pub shares_other : (s : Swap) (b c : BlockId) (but : Option BlockId) (own beside : ℕ) → IsPart s b but → but ≡ Some c → (bs : List ℕ) → own ≡ times b.0 bs → beside ≡ times_other (partner s but) bs → (beside ≡ times s.block.0 bs) × (own ≡ times_other s.other bs)
shares_other s b c but own beside part e bs eo eb = (mine_other s b c but bs beside part e eb, others_other s b c but bs own part e eo)
