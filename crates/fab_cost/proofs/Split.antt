-- The whole sum before and after a swap, by the nets of its blocks.
use Rattle.std.proofs.Common.{◌≡◌, ◌≢◌, ℕ, ℤ, pos, ◌+ℤ◌, ◌-ℤ◌, ◌+◌, ◌*◌, ◌^◌, ◌<◌, w64, length, Bool, true, false, cond, List, [], ◌∷◌, map, Option, Some, None, refl, sym, ap, ◌∙◌, arith, inl, inr}
use Rattle.std.specs.Int.{saturate_unsigned}
use Rattle.std.specs.List.{filter, sum_by}
use Rattle.std.proofs.lemmas.Bool.{cases_Bool, false≢true}
use Rattle.std.proofs.lemmas.Int.{ints}
use Rattle.std.proofs.lemmas.List.Sums.{sum_by-cons}
use Rattle.fab_arch.specs.declared.array.Site.{Site}
use Rattle.fab_arch.specs.Grid.{GridShape}
use Rattle.fab_net.specs.declared.netlist_types.BlockId.{BlockId}
use Rattle.fab_net.specs.Netlist.{Netlist, counted, nets_of, has_number}
use Rattle.fab_site.specs.declared.placement_types.Swap.{Swap}
use Rattle.fab_site.specs.Placement.{site_of, swapped}
use Rattle.fab_cost.specs.Cost.{cross_of, half_perimeter, box_on, net_box, net_cost, cost_of}
use Rattle.fab_cost.specs.Edges.{counted_box, counted_on}
use Rattle.fab_cost.specs.Swapping.{change, blocks_of, has_block, cost_unless}
use Rattle.fab_cost.proofs.Numbers.{has_first, has_later}
use Rattle.fab_cost.proofs.Sited.{rest_kept}

pub sum_filter : (p : ℕ → Bool) (f : ℕ → ℕ) (n : ℕ) (ns : List ℕ) → sum_by f (filter p (n ∷ ns)) ≡ cond (p n) (f n) 0 + sum_by f (filter p ns)
sum_filter p f n ns =
    let k : ℕ → ℕ = λ m. cond (p n) m 0 in
    let s = sum_by-cons f n (filter p ns) in
    elim (p n) as (λ b. sum_by f (cond b (n ∷ filter p ns) (filter p ns)) ≡ cond b (f n) 0 + sum_by f (filter p ns)) [ true ↦ s | false ↦ omega arith ]

nothing : (b : Bool) (x : ℕ) → x ≡ 0 → cond b x 0 ≡ 0
nothing true x h = h
nothing false x h = refl

pub split_one : (p : ℕ → Bool) (f g : ℕ → ℕ) → ((n : ℕ) → p n ≡ false → f n ≡ g n) → (ns : List ℕ) → sum_by f ns + sum_by g (filter p ns) ≡ sum_by g ns + sum_by f (filter p ns)
split_one p f g same [] = refl
split_one p f g same (n ∷ ns) =
    let rest = split_one p f g same ns in
    let a = sum_by-cons f n ns in
    let b = sum_by-cons g n ns in
    let c = sum_filter p f n ns in
    let d = sum_filter p g n ns in
    elim (cases_Bool (p n)) [
      | inl t ↦
          let cf : cond (p n) (f n) 0 ≡ f n = λ i. cond (t i) (f n) 0 in
          let cg : cond (p n) (g n) 0 ≡ g n = λ i. cond (t i) (g n) 0 in
          omega arith
      | inr u ↦
          let cf : cond (p n) (f n) 0 ≡ 0 = λ i. cond (u i) (f n) 0 in
          let cg : cond (p n) (g n) 0 ≡ 0 = λ i. cond (u i) (g n) 0 in
          let e = same n u in
          omega arith
    ]

split_two : (p q : ℕ → Bool) (f g u w : ℕ → ℕ) → ((n : ℕ) → u n ≡ cond (p n) 0 (f n)) → ((n : ℕ) → w n ≡ cond (p n) 0 (g n)) → ((n : ℕ) → p n ≡ false → q n ≡ false → f n ≡ g n) → (ns : List ℕ)
    → sum_by f ns + (sum_by g (filter p ns) + sum_by w (filter q ns)) ≡ sum_by g ns + (sum_by f (filter p ns) + sum_by u (filter q ns))
split_two p q f g u w is_u is_w same [] = refl
split_two p q f g u w is_u is_w same (n ∷ ns) =
    let rest = split_two p q f g u w is_u is_w same ns in
    let a = sum_by-cons f n ns in
    let b = sum_by-cons g n ns in
    let c = sum_filter p f n ns in
    let d = sum_filter p g n ns in
    let e = sum_filter q u n ns in
    let h = sum_filter q w n ns in
    elim (cases_Bool (p n)) [
      | inl t ↦
          let cf : cond (p n) (f n) 0 ≡ f n = λ i. cond (t i) (f n) 0 in
          let cg : cond (p n) (g n) 0 ≡ g n = λ i. cond (t i) (g n) 0 in
          let zu : u n ≡ 0 = is_u n ∙ (λ i. cond (t i) 0 (f n)) in
          let zw : w n ≡ 0 = is_w n ∙ (λ i. cond (t i) 0 (g n)) in
          let eu : cond (q n) (u n) 0 ≡ 0 = nothing (q n) (u n) zu in
          let ew : cond (q n) (w n) 0 ≡ 0 = nothing (q n) (w n) zw in
          omega (arith, rest, a, b, c, d, e, h, cf, cg, eu, ew)
      | inr t ↦
          let cf : cond (p n) (f n) 0 ≡ 0 = λ i. cond (t i) (f n) 0 in
          let cg : cond (p n) (g n) 0 ≡ 0 = λ i. cond (t i) (g n) 0 in
          let zu : u n ≡ f n = is_u n ∙ (λ i. cond (t i) 0 (f n)) in
          let zw : w n ≡ g n = is_w n ∙ (λ i. cond (t i) 0 (g n)) in
          elim (cases_Bool (q n)) [
            | inl v ↦
                let eu : cond (q n) (u n) 0 ≡ f n = (λ i. cond (v i) (u n) 0) ∙ zu in
                let ew : cond (q n) (w n) 0 ≡ g n = (λ i. cond (v i) (w n) 0) ∙ zw in
                omega (arith, rest, a, b, c, d, e, h, cf, cg, eu, ew)
            | inr v ↦
                let eu : cond (q n) (u n) 0 ≡ 0 = λ i. cond (v i) (u n) 0 in
                let ew : cond (q n) (w n) 0 ≡ 0 = λ i. cond (v i) (w n) 0 in
                let z = same n t v in
                omega (arith, rest, a, b, c, d, e, h, cf, cg, eu, ew, z)
          ]
    ]

-- a net with no terminal of the swapped blocks

none_is : (b : BlockId) → None ≡ Some b → ⊥
none_is b e = cc

some_is : (c b : BlockId) → Some c ≡ Some b → c ≡ b
some_is c b e = cc

sites_kept : (sites : List Site) (s : Swap) (bs : List ℕ) → ((b : ℕ) → has_number b bs ≡ true → (b ≢ s.block.0) × ((c : BlockId) → s.other ≡ Some c → c.0 ≢ b)) → map (site_of (swapped sites s)) bs ≡ map (site_of sites) bs
sites_kept sites s [] h = refl
sites_kept sites s (b ∷ bs) h =
    let k = h b (has_first b bs) in
    let e = rest_kept sites s b k.0 k.1 in
    let rest = sites_kept sites s bs (λ c t. h c (has_later c b bs t)) in
    λ i. e i ∷ rest i

apart : (v b : ℕ) (bs : List ℕ) → has_number v bs ≡ false → has_number b bs ≡ true → b ≢ v
apart v b bs f t e = false≢true (sym f ∙ ap (λ w. has_number w bs) (sym e) ∙ t)

others_apart : (o : Option BlockId) (b : ℕ) (bs : List ℕ) → has_block o bs ≡ false → has_number b bs ≡ true → (c : BlockId) → o ≡ Some c → c.0 ≢ b
others_apart None b bs f t c e k = none_is c e
others_apart (Some o) b bs f t c e k = apart o.0 b bs f t (sym k ∙ ap (λ (v : BlockId). v.0) (sym (some_is o c e)))

pub same_sites : (d : Netlist) (sites : List Site) (s : Swap) (n : ℕ) → has_number s.block.0 (blocks_of d n) ≡ false → has_block s.other (blocks_of d n) ≡ false → map (site_of (swapped sites s)) (blocks_of d n) ≡ map (site_of sites) (blocks_of d n)
same_sites d sites s n f h = sites_kept sites s (blocks_of d n) (λ b t. (apart s.block.0 b (blocks_of d n) f t, others_apart s.other b (blocks_of d n) h t))

pub box_kept : (d : Netlist) (g : GridShape) (sites : List Site) (s : Swap) (n : ℕ) → has_number s.block.0 (blocks_of d n) ≡ false → has_block s.other (blocks_of d n) ≡ false → counted_box d g (swapped sites s) n ≡ counted_box d g sites n
unfolding counted_box
box_kept d g sites s n f h = ap (counted_on g) (same_sites d sites s n f h)

pub plain_kept : (d : Netlist) (g : GridShape) (sites : List Site) (s : Swap) (n : ℕ) → has_number s.block.0 (blocks_of d n) ≡ false → has_block s.other (blocks_of d n) ≡ false → net_box d g (swapped sites s) n ≡ net_box d g sites n
unfolding net_box
plain_kept d g sites s n f h = ap (box_on g) (same_sites d sites s n f h)

pub cost_kept : (d : Netlist) (g : GridShape) (sites : List Site) (s : Swap) (n : ℕ) → has_number s.block.0 (blocks_of d n) ≡ false → has_block s.other (blocks_of d n) ≡ false → net_cost d g (swapped sites s) n ≡ net_cost d g sites n
unfolding net_cost net_box
cost_kept d g sites s n f h = ap (λ v. cross_of (length (blocks_of d n)) * half_perimeter (box_on g v)) (same_sites d sites s n f h)

-- what the nets of a block cost that are none of the other's
abbrev pub sum_on : Netlist → GridShape → List Site → ℕ → Option BlockId → ℕ
sum_on d g sites b but = sum_by (cost_unless d g sites but) (nets_of d b)

unless_none : (d : Netlist) (g : GridShape) (sites : List Site) (ns : List ℕ) → sum_by (cost_unless d g sites None) ns ≡ sum_by (net_cost d g sites) ns
unfolding cost_unless
unless_none d g sites ns = refl

unless_is : (d : Netlist) (g : GridShape) (sites : List Site) (b : BlockId) (n : ℕ) → cost_unless d g sites (Some b) n ≡ cond (has_number b.0 (blocks_of d n)) 0 (net_cost d g sites n)
unfolding cost_unless
unless_is d g sites b n = refl

pub balance_none : (d : Netlist) (g : GridShape) (sites : List Site) (s : Swap) (gained lost : ℕ) → s.other ≡ None
    → gained ≡ sum_on d g (swapped sites s) s.block.0 None → lost ≡ sum_on d g sites s.block.0 None → cost_of d g (swapped sites s) + lost ≡ cost_of d g sites + gained
unfolding cost_of
balance_none d g sites s gained lost o eg el =
    let k = split_one (λ n. has_number s.block.0 (blocks_of d n)) (net_cost d g (swapped sites s)) (net_cost d g sites)
    (λ n f. cost_kept d g sites s n f (ap (λ v. has_block v (blocks_of d n)) o)) (counted d) in
    omega (arith, k, eg, el, unless_none d g sites (nets_of d s.block.0), unless_none d g (swapped sites s) (nets_of d s.block.0))

pub balance_some : (d : Netlist) (g : GridShape) (sites : List Site) (s : Swap) (c : BlockId) (gained lost more less : ℕ) → s.other ≡ Some c
    → gained ≡ sum_on d g (swapped sites s) s.block.0 None → lost ≡ sum_on d g sites s.block.0 None → more ≡ sum_on d g (swapped sites s) c.0 (Some s.block) → less ≡ sum_on d g sites c.0 (Some s.block)
    → cost_of d g (swapped sites s) + (lost + less) ≡ cost_of d g sites + (gained + more)
unfolding cost_of
balance_some d g sites s c gained lost more less o eg el em ee =
    let k = split_two (λ n. has_number s.block.0 (blocks_of d n)) (λ n. has_number c.0 (blocks_of d n)) (net_cost d g (swapped sites s)) (net_cost d g sites)
    (cost_unless d g (swapped sites s) (Some s.block)) (cost_unless d g sites (Some s.block)) (unless_is d g (swapped sites s) s.block) (unless_is d g sites s.block)
    (λ n f h. cost_kept d g sites s n f (ap (λ v. has_block v (blocks_of d n)) o ∙ h)) (counted d) in
    omega (arith, k, eg, el, em, ee, unless_none d g sites (nets_of d s.block.0), unless_none d g (swapped sites s) (nets_of d s.block.0))

-- a known change leads from the cost before to the one after
pub known_sum : (d : Netlist) (g : GridShape) (sites : List Site) (s : Swap) (total sum : ℕ) (delta : ℤ) → total ≡ cost_of d g sites → cost_of d g (swapped sites s) < 2 ^ 43 → delta ≡ change d g sites s
    → sum ≡ saturate_unsigned w64 (pos total +ℤ delta) → sum ≡ cost_of d g (swapped sites s)
unfolding change
known_sum d g sites s total sum delta et few ed es =
    let k : pos total +ℤ delta ≡ pos (cost_of d g (swapped sites s)) = omega (arith, ints, et, ed) in
    let m : saturate_unsigned w64 (pos (cost_of d g (swapped sites s))) ≡ cost_of d g (swapped sites s) = grind (arith, few) in
    es ∙ ap (saturate_unsigned w64) k ∙ m

pub change_is : (d : Netlist) (g : GridShape) (sites : List Site) (s : Swap) (gained lost : ℕ) → cost_of d g (swapped sites s) + lost ≡ cost_of d g sites + gained → pos gained -ℤ pos lost ≡ change d g sites s
unfolding change
change_is d g sites s gained lost h = omega (arith, ints)
