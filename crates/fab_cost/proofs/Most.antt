-- How many terminals of a net one block has at most, while the numbers are raised block by block.
use Rattle.std.proofs.Common.{◌≡◌, ◌≢◌, ℕ, ◌+◌, ◌<◌, ◌≤◌, max, cond, Bool, true, false, List, [], set, length, get_or, refl, sym, ap, ◌∙◌, subst, arith, inl, inr, get_or-set_other, get_or-set_same, length-set}
use Rattle.std.proofs.lemmas.Bool.{cases_eq, cases_lt}
use Rattle.std.proofs.lemmas.List.{get_or_past}
use Rattle.fab_net.specs.Netlist.{Netlist, net_at, nets_of, IsLawful}
use Rattle.fab_cost.specs.Boxes.{Counts}
use Rattle.fab_cost.specs.Edges.{times}
use Rattle.fab_cost.specs.Swapping.{blocks_of, counted_blocks}
use Rattle.fab_cost.specs.Runs.{AreMost, AreRaised}
use Rattle.fab_cost.proofs.Alike.{row_is}
use Rattle.fab_cost.proofs.Kept.{nets_long, row_counted}
use Rattle.fab_cost.proofs.Nets.{entry_counts, same_nets, times_if_absent}
use Rattle.fab_cost.proofs.Numbers.{absent_from_each}
use Rattle.fab_cost.proofs.Times.{times_none}

-- the nets of one block

pub raised_none : (d : Netlist) (b : ℕ) (xs : List ℕ) → AreRaised d b 0 xs xs
raised_none d b xs = record { long = refl; grown = λ n. omega arith; each = λ k h l. absurd (omega arith) }

pub raised_more : (d : Netlist) (b i : ℕ) (old mid new : List ℕ) → i < length (nets_of d b) → length old ≡ length d.terminals → AreRaised d b i old mid
    → new ≡ set mid (get_or (nets_of d b) i 0) (max (get_or mid (get_or (nets_of d b) i 0) 0) (times b (blocks_of d (get_or (nets_of d b) i 0)))) → AreRaised d b (i + 1) old new
raised_more d b i old mid new h eo is en = subst (AreRaised d b (i + 1) old) (sym en) there
  where
    there : AreRaised d b (i + 1) old (set mid (get_or (nets_of d b) i 0) (max (get_or mid (get_or (nets_of d b) i 0) 0) (times b (blocks_of d (get_or (nets_of d b) i 0)))))
    there =
        let n : ℕ = get_or (nets_of d b) i 0 in
        let v : ℕ = max (get_or mid n 0) (times b (blocks_of d n)) in
        let long = is.long in
        let low : n < length mid = (let w = (entry_counts d b i n h refl).0.within in omega (arith, w, eo, long)) in
        let here : get_or (set mid n v) n 0 ≡ v = get_or-set_same mid n v 0 low in
        record {
          long = length-set mid n v ∙ is.long;
          grown = λ m. elim (cases_eq m n) [
            | inl q ↦ (let g = is.grown m in let e : get_or (set mid n v) m 0 ≡ v = ap (λ k. get_or (set mid n v) k 0) q ∙ here in let f : get_or mid m 0 ≡ get_or mid n 0 = ap (λ k. get_or mid k 0) q in omega (arith, g, e, f))
            | inr ne ↦ (let g = is.grown m in let e : get_or (set mid n v) m 0 ≡ get_or mid m 0 = get_or-set_other mid n m v 0 ne in omega (arith, g, e))
          ];
          each = λ k hk l.
              let m : ℕ = get_or (nets_of d b) k 0 in
              elim (cases_eq m n) [
                | inl q ↦ (let e : get_or (set mid n v) m 0 ≡ v = ap (λ k. get_or (set mid n v) k 0) q ∙ here in let f : times b (blocks_of d m) ≡ times b (blocks_of d n) = ap (λ k. times b (blocks_of d k)) q in omega (arith, e, f))
                | inr ne ↦
                    (let other : k ≢ i = λ q. ne (ap (λ j. get_or (nets_of d b) j 0) q) in
                    let g = is.each k (omega (arith, hk, other)) l in
                    let e : get_or (set mid n v) m 0 ≡ get_or mid m 0 = get_or-set_other mid n m v 0 ne in
                    omega (arith, g, e))
              ];
        }

pub raised_all : (d : Netlist) (b i j : ℕ) (old new : List ℕ) → j ≤ i → AreRaised d b i old new → AreRaised d b j old new
raised_all d b i j old new h is = record { long = is.long; grown = is.grown; each = λ k hk l. is.each k (omega (arith, h, hk)) l }

-- block by block

-- the numbers are as many as the nets, and none is below the terminals that a block below `b` has on the net
pub record AreReached (d : Netlist) (b : ℕ) (most : List ℕ) : Type 0 where
  pub long : length most ≡ length d.terminals
  pub each : (n c : ℕ) → Counts d n → c < b → times c (blocks_of d n) ≤ get_or most n 0

pub reached_none : (d : Netlist) (most : List ℕ) → length most ≡ length d.terminals → AreReached d 0 most
reached_none d most e = record { long = e; each = λ n c counts h. absurd (omega arith) }

-- a number of each of the block's nets is one of each net
on_all : (d : Netlist) (b n : ℕ) (most : List ℕ) → Counts d n → ((k : ℕ) → k < length (nets_of d b) → times b (blocks_of d (get_or (nets_of d b) k 0)) ≤ get_or most (get_or (nets_of d b) k 0) 0) → times b (blocks_of d n) ≤ get_or most n 0
on_all d b n most counts each = elim (cases_lt (get_or most n 0) (times b (blocks_of d n))) [
  | inl lt ↦
      (let away : (k : ℕ) → k < length (nets_of d b) → get_or (nets_of d b) k 0 ≢ n =
      λ k l q. let e = each k l in let f : times b (blocks_of d (get_or (nets_of d b) k 0)) ≡ times b (blocks_of d n) = ap (λ v. times b (blocks_of d v)) q in let g : get_or most (get_or (nets_of d b) k 0) 0 ≡ get_or most n 0 = ap (λ v. get_or most v 0) q in omega (arith, e, f, g, lt) in
      let none = times_if_absent b (blocks_of d n) (sym (same_nets d b n counts) ∙ absent_from_each n (nets_of d b) away) in
      omega (arith, none))
  | inr le ↦ le
]

pub reached_more : (d : Netlist) (b : ℕ) (old new : List ℕ) → AreReached d b old → AreRaised d b (length (nets_of d b)) old new → AreReached d (b + 1) new
reached_more d b old new is raised = record {
  long = raised.long ∙ is.long;
  each = λ n c counts h. elim (cases_eq c b) [
    | inl q ↦ (let e : times c (blocks_of d n) ≡ times b (blocks_of d n) = ap (λ v. times v (blocks_of d n)) q in let o = on_all d b n new counts (λ k l. raised.each k l l) in omega (arith, e, o))
    | inr ne ↦ (let o = is.each n c counts (omega (arith, h, ne)) in let g = raised.grown n in omega (arith, o, g))
  ];
}

no_block : (d : Netlist) (n c : ℕ) → IsLawful d → length d.kinds ≤ c → times c (blocks_of d n) ≡ 0
no_block d n c is h = times_if_absent c (blocks_of d n) (absent_from_each c (blocks_of d n) (λ k l q. let w = is.within n k l in omega (arith, w, q, h)))

pub reached_all : (d : Netlist) (b : ℕ) (most : List ℕ) → IsLawful d → length d.kinds ≤ b → AreReached d b most → AreMost most (counted_blocks d)
reached_all d b most is h reached = record {
  each = λ n c. elim (cases_lt n (length d.terminals)) [
    | inl l ↦ listed n c l (net_at d n).global refl
    | inr ge ↦ (let e : times c (get_or (counted_blocks d) n []) ≡ 0 = ap (times c) (past n ge) ∙ times_none c in omega (arith, e))
  ];
}
  where
    past : (n : ℕ) → length d.terminals ≤ n → get_or (counted_blocks d) n [] ≡ []
    past n ge = get_or_past (counted_blocks d) n [] (let e = nets_long d (counted_blocks d) refl in omega (arith, e, ge))

    listed : (n c : ℕ) → n < length d.terminals → (g : Bool) → (net_at d n).global ≡ g → times c (get_or (counted_blocks d) n []) ≤ get_or most n 0
    listed n c l true e = (let q : times c (get_or (counted_blocks d) n []) ≡ 0 = ap (times c) (row_is d n ∙ ap (λ v. cond v [] (blocks_of d n)) e) ∙ times_none c in omega (arith, q))
    listed n c l false e =
        let counts : Counts d n = record { within = l; counted = e } in
        let q : times c (get_or (counted_blocks d) n []) ≡ times c (blocks_of d n) = ap (times c) (row_counted d (counted_blocks d) n refl counts) in
        elim (cases_lt c b) [
          | inl lt ↦ (let r = reached.each n c counts lt in omega (arith, q, r))
          | inr ge ↦ (let z = no_block d n c is (omega (arith, h, ge)) in omega (arith, q, z))
        ]

-- what the numbers say of a net that counts
pub most_on : (d : Netlist) (n : ℕ) (most : List ℕ) → Counts d n → AreMost most (counted_blocks d) → (c : ℕ) → times c (blocks_of d n) ≤ get_or most n 0
most_on d n most counts are c =
    let a = are.each n c in
    let q : times c (get_or (counted_blocks d) n []) ≡ times c (blocks_of d n) = ap (times c) (row_counted d (counted_blocks d) n refl counts) in
    omega (arith, a, q)
