-- The blocks of each net's terminals while they are listed, and boxes made from positions.
use Rattle.std.proofs.Common.{◌≡◌, ℕ, ◌+◌, ◌<◌, ◌≤◌, ◌^◌, cond, eqb, ltb, Bool, true, false, List, [], ◌∷◌, ◌++◌, map, take, length, get_or, refl, sym, ap, ◌∙◌, subst, arith, inl, inr, length-append, append_assoc, append-nil}
use Rattle.std.specs.List.{All, range_with_len}
use Rattle.std.proofs.lemmas.Bool.{cases_eq, cases_lt, ne_eqb, eq-eqb}
use Rattle.std.proofs.lemmas.Bool.Decides.{nat_tests}
use Rattle.std.proofs.lemmas.List.{map-append, get_or-map, take_all, take_more, get_or_append_left, get_or_push, ext_get_or}
use Rattle.std.proofs.lemmas.List.Sums.{sum_by_more, sum_by-take-le}
use Rattle.std.proofs.lemmas.List.FromFn.{length-range_with_len, get_or-range_with_len, length-map-range_with_len, get_or-map-range_with_len}
use Rattle.fab_net.specs.declared.netlist_types.Terminal.{Terminal}
use Rattle.fab_net.specs.Rows.{row_of, rows_of}
use Rattle.fab_net.proofs.Stamps.{row_push}
use Rattle.fab_net.specs.Netlist.{Netlist, net_at, block_on, IsLawful}
use Rattle.fab_cost.specs.Boxes.{Counts}
use Rattle.fab_cost.specs.Swapping.{blocks_of, counted_blocks}
use Rattle.fab_cost.specs.Runs.{AreListed}
use Rattle.fab_cost.proofs.Packs.{blocks_low}

pub listed_none : (d : Netlist) (entries : List (ℕ × ℕ)) → entries ≡ [] → AreListed d 0 entries
listed_none d entries e = record {
  rows = λ c. ap (λ v. row_of v c) e ∙ (let f : ltb c 0 ≡ false = grind (arith, nat_tests) in λ i. cond (sym f i) (get_or (counted_blocks d) c []) []);
  within = λ i z h. absurd (let l = ap length e in omega (arith, h, l));
  few = (let l = ap length e in omega (arith, l));
}

-- the row of a net
pub listed_row : (d : Netlist) (n : ℕ) → n < length d.terminals → get_or (counted_blocks d) n [] ≡ cond (net_at d n).global [] (blocks_of d n)
listed_row d n h =
    let e = length-range_with_len 0 (length d.terminals) in
    get_or-map (λ n. cond (net_at d n).global [] (blocks_of d n)) (range_with_len 0 (length d.terminals)) n 0 [] (omega (arith, h, e))
    ∙ ap (λ n. cond (net_at d n).global [] (blocks_of d n)) (get_or-range_with_len 0 (length d.terminals) n 0 h ∙ (let z : 0 + n ≡ n = omega arith in z))

-- what holds after the first `i` terminals of net `n`
pub record Listing (n : ℕ) (ts : List Terminal) (i : ℕ) (before entries : List (ℕ × ℕ)) : Type 0 where
  pub rows : (c : ℕ) → row_of entries c ≡ row_of before c ++ cond (eqb n c) (map block_on (take i ts)) []
  pub within : (m : ℕ) → n < m → ((j : ℕ) (z : ℕ × ℕ) → j < length before → (get_or before j z).0 < m) → (j : ℕ) (z : ℕ × ℕ) → j < length entries → (get_or entries j z).0 < m
  pub few : length entries ≤ length before + i

pub listing_none : (n : ℕ) (ts : List Terminal) (entries : List (ℕ × ℕ)) → Listing n ts 0 entries entries
listing_none n ts entries = record {
  rows = λ c. sym (ap (λ v. row_of entries c ++ v) (none_first (eqb n c)) ∙ append-nil (row_of entries c));
  within = λ m h low. low;
  few = omega arith;
}
  where
    none_first : (b : Bool) → cond b (map block_on (take 0 ts)) [] ≡ []
    none_first true = refl
    none_first false = refl

pub listing_more : (n : ℕ) (ts : List Terminal) (i b : ℕ) (z : Terminal) (before entries new : List (ℕ × ℕ)) → i < length ts → b ≡ block_on (get_or ts i z) → new ≡ entries ++ (n, b) ∷ [] → Listing n ts i before entries → Listing n ts (i + 1) before new
listing_more n ts i b z before entries new h eb en is = subst (λ v. Listing n ts (i + 1) before v) (sym en) there
  where
    joined : (c : Bool) (xs : List ℕ) → (xs ++ cond c (map block_on (take i ts)) []) ++ cond c (b ∷ []) [] ≡ xs ++ cond c (map block_on (take (i + 1) ts)) []
    joined true xs = append_assoc xs (map block_on (take i ts)) (b ∷ []) ∙ ap (λ v. xs ++ v) (sym (ap (map block_on) (take_more ts i z h) ∙ map-append block_on (take i ts) (get_or ts i z ∷ []) ∙ (λ j. map block_on (take i ts) ++ sym eb j ∷ [])))
    joined false xs = append_assoc xs [] []

    there : Listing n ts (i + 1) before (entries ++ (n, b) ∷ [])
    there =
        let few = is.few in
        let l = length-append entries ((n, b) ∷ []) in
        record {
          rows = λ c. row_push entries n c b ∙ ap (λ v. v ++ cond (eqb n c) (b ∷ []) []) (is.rows c) ∙ joined (eqb n c) (row_of before c);
          within = λ m hm low j w hj. elim (cases_lt j (length entries)) [
            | inl lt ↦ (let e : get_or (entries ++ (n, b) ∷ []) j w ≡ get_or entries j w = get_or_append_left entries ((n, b) ∷ []) w j lt in subst (λ (v : ℕ × ℕ). v.0 < m) (sym e) (is.within m hm low j w lt))
            | inr ge ↦ (let e : get_or (entries ++ (n, b) ∷ []) j w ≡ (n, b) = get_or_push entries (n, b) w j (omega (arith, hj, l, ge)) in subst (λ (v : ℕ × ℕ). v.0 < m) (sym e) hm)
          ];
          few = omega (arith, few, l);
        }

pub listed_pushed : (d : Netlist) (n i : ℕ) (ts : List Terminal) (entries new : List (ℕ × ℕ)) → Counts d n → ts ≡ get_or d.terminals n [] → length ts ≤ i → i ≤ length ts → Listing n ts i entries new → AreListed d n entries → AreListed d (n + 1) new
listed_pushed d n i ts entries new c e h low is are =
    let few = is.few in
    let was = are.few in
    let sum = sum_by_more length d.terminals n [] c.within in
    let l = ap length e in
    record {
      rows = λ k. is.rows k ∙ (λ j. are.rows k j ++ cond (eqb n k) (map block_on (take_all i ts h j)) []) ∙ elim (cases_eq n k) [
        | inl q ↦
            (let t : eqb n k ≡ true = eq-eqb n k q in
            let f : ltb k n ≡ false = grind (arith, nat_tests) in
            let u : ltb k (n + 1) ≡ true = grind (arith, nat_tests) in
            (λ j. cond (f j) (get_or (counted_blocks d) k []) [] ++ cond (t j) (map block_on ts) [])
            ∙ sym ((λ j. cond (u j) (get_or (counted_blocks d) k []) []) ∙ ap (λ v. get_or (counted_blocks d) v []) (sym q) ∙ listed_row d n c.within ∙ (λ j. cond (c.counted j) [] (blocks_of d n)) ∙ ap (map block_on) (sym e)))
        | inr ne ↦
            (let f : eqb n k ≡ false = ne_eqb n k ne in
            let u : ltb k n ≡ ltb k (n + 1) = grind (arith, nat_tests) in
            (λ j. cond (u j) (get_or (counted_blocks d) k []) [] ++ cond (f j) (map block_on ts) []) ∙ append-nil (cond (ltb k (n + 1)) (get_or (counted_blocks d) k []) []))
      ];
      within = λ j z hj. is.within (length d.terminals) c.within are.within j z hj;
      few = omega (arith, few, was, sum, l);
    }

pub listed_passed : (d : Netlist) (n : ℕ) (entries : List (ℕ × ℕ)) → n < length d.terminals → (net_at d n).global ≡ true → AreListed d n entries → AreListed d (n + 1) entries
listed_passed d n entries h g are =
    let was = are.few in
    let sum = sum_by_more length d.terminals n [] h in
    record {
      rows = λ k. are.rows k ∙ elim (cases_eq n k) [
        | inl q ↦
            (let f : ltb k n ≡ false = grind (arith, nat_tests) in
            let u : ltb k (n + 1) ≡ true = grind (arith, nat_tests) in
            (λ j. cond (f j) (get_or (counted_blocks d) k []) [])
            ∙ sym ((λ j. cond (u j) (get_or (counted_blocks d) k []) []) ∙ ap (λ v. get_or (counted_blocks d) v []) (sym q) ∙ listed_row d n h ∙ (λ j. cond (g j) [] (blocks_of d n))))
        | inr ne ↦ (let u : ltb k n ≡ ltb k (n + 1) = grind (arith, nat_tests) in λ j. cond (u j) (get_or (counted_blocks d) k []) [])
      ];
      within = are.within;
      few = omega (arith, was, sum);
    }

-- every row of the nets
each_row : (d : Netlist) (n : ℕ) (entries : List (ℕ × ℕ)) → length d.terminals ≤ n → AreListed d n entries → rows_of (length d.terminals) entries ≡ counted_blocks d
each_row d n entries h are =
    let m : length (rows_of (length d.terminals) entries) ≡ length d.terminals = length-map-range_with_len (row_of entries) 0 (length d.terminals) in
    ext_get_or [] (rows_of (length d.terminals) entries) (counted_blocks d) (m ∙ sym (length-map-range_with_len (λ n. cond (net_at d n).global [] (blocks_of d n)) 0 (length d.terminals)))
    (λ k lk.
    let low : k < length d.terminals = omega (arith, lk, m) in
    let t : ltb k n ≡ true = (let lt : k < n = omega (arith, low, h) in grind (arith, nat_tests)) in
    get_or-map-range_with_len (row_of entries) 0 (length d.terminals) k k [] low (omega arith) ∙ are.rows k ∙ (λ j. cond (t j) (get_or (counted_blocks d) k []) []))

pub listed_all : (d : Netlist) (n count : ℕ) (entries : List (ℕ × ℕ)) (rows : List (List ℕ)) → count ≡ length d.terminals → count ≤ n → rows ≡ rows_of count entries → AreListed d n entries → rows ≡ counted_blocks d
listed_all d n count entries rows e h er are = er ∙ ap (λ v. rows_of v entries) e ∙ each_row d n entries (omega arith) are

pub listed_few : (d : Netlist) (n : ℕ) (entries : List (ℕ × ℕ)) → IsLawful d → AreListed d n entries → length entries < 2 ^ 32
listed_few d n entries is are =
    let few = are.few in
    let all = is.few_terminals in
    omega (arith, few, all, sum_by-take-le length d.terminals n)

pub listed_within : (d : Netlist) (n count : ℕ) (entries : List (ℕ × ℕ)) → count ≡ length d.terminals → AreListed d n entries → All (λ (e : ℕ × ℕ). e.0 < count) entries
listed_within d n count entries e are = λ i z h. let w = are.within i z h in omega (arith, w, e)

-- the block of a terminal is a small number
pub block_fits : (d : Netlist) (n i : ℕ) (z : Terminal) (ts : List Terminal) → IsLawful d → n < length d.terminals → ts ≡ get_or d.terminals n [] → i < length ts → block_on (get_or ts i z) < 65536
block_fits d n i z ts is h e l = let few = is.few_blocks in let low = blocks_low d n (length d.kinds) ts is h e refl i z l in omega (arith, few, low)
