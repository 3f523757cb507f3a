-- The nets of a block, as the rows give them and as the definition says.
use Rattle.std.proofs.Common.{◌≡◌, ℕ, ◌+◌, ◌<◌, Bool, true, false, not, cond, eqb, ◌&&◌, ◌||◌, List, [], ◌∷◌, length, map, get_or, zero, suc, refl, sym, ap, ◌∙◌, arith, inl, inr}
use Rattle.std.proofs.lemmas.Bool.{cases_Bool}
use Rattle.std.proofs.lemmas.Bool.Decides.{nat_tests}
use Rattle.std.proofs.lemmas.List.Sums.{sum_by-cons}
use Rattle.std.specs.Prelude.{filter, count_by, slice_index_or}
use Rattle.std.specs.List.{list_any, range_with_len}
use Rattle.fab_net.specs.declared.netlist_types.Terminal.{Terminal}
use Rattle.fab_net.specs.BlockNets.{is_at, touches, net_id, nets_on, pins_at, pins_of, pins_on}
use Rattle.fab_net.specs.Netlist.{Netlist, block_on, net_at, has_number, nets_of, pin_count}

either_way : (a b : ℕ) → eqb a b ≡ eqb b a
either_way a b = grind (arith, nat_tests)

on_block : (b : ℕ) (row : List Terminal) → has_number b (map block_on row) ≡ list_any (is_at b) row
on_block b [] = refl
on_block b (t ∷ ts) = ap (λ x. x || has_number b (map block_on ts)) (either_way b t.block.0) ∙ ap (λ x. is_at b t || x) (on_block b ts)

filter_twice : (p q : ℕ → Bool) (xs : List ℕ) → filter p (filter q xs) ≡ filter (λ x. q x && p x) xs
filter_twice p q [] = refl
filter_twice p q (x ∷ xs) = elim (cases_Bool (q x)) [
  | inl h ↦ elim (cases_Bool (p x)) [ inl k ↦ rw (h, k, filter_twice p q xs) refl | inr k ↦ rw (h, k, filter_twice p q xs) refl ]
  | inr h ↦ rw (h, filter_twice p q xs) refl
]

filter_alike : (p q : ℕ → Bool) (a n : ℕ) → ((i : ℕ) → i < a + n → p i ≡ q i) → filter p (range_with_len a n) ≡ filter q (range_with_len a n)
filter_alike p q a zero h = refl
filter_alike p q a (suc n) h =
    let here : p a ≡ q a = h a (omega arith) in
    let rest = filter_alike p q (a + 1) n (λ i lt. h i (omega arith)) in
    ap (λ b. cond b (a ∷ filter p (range_with_len (a + 1) n)) (filter p (range_with_len (a + 1) n))) here
    ∙ ap (λ xs. cond (q a) (a ∷ xs) xs) rest

within_default : (gs : List Bool) (n : ℕ) → n < length gs → get_or gs n true ≡ get_or gs n false
within_default [] n lt = absurd (omega arith)
within_default (g ∷ gs) zero lt = refl
within_default (g ∷ gs) (suc n) lt = within_default gs n (omega arith)

alike : (d : Netlist) (b : ℕ) → length d.globals ≡ length d.terminals → (i : ℕ) → i < 0 + length d.terminals → (not (net_at d i).global && has_number b (net_at d i).blocks) ≡ touches d.terminals d.globals b i
alike d b told i lt =
    let g = within_default d.globals i (omega arith) in
    ap (λ x. not x && has_number b (net_at d i).blocks) g ∙ ap (λ x. not (get_or d.globals i false) && x) (on_block b (slice_index_or d.terminals i []))

touched_is : (d : Netlist) (b : ℕ) → length d.globals ≡ length d.terminals → filter (touches d.terminals d.globals b) (range_with_len 0 (length d.terminals)) ≡ nets_of d b
touched_is d b told =
    sym (filter_twice (λ n. has_number b (net_at d n).blocks) (λ n. not (net_at d n).global) (range_with_len 0 (length d.terminals))
    ∙ filter_alike (λ n. not (net_at d n).global && has_number b (net_at d n).blocks) (touches d.terminals d.globals b) 0 (length d.terminals) (alike d b told))

-- the rows' nets of a block are the definition's
pub nets_on_is : (d : Netlist) (b : ℕ) → length d.globals ≡ length d.terminals → nets_on d.terminals d.globals b ≡ map net_id (nets_of d b)
nets_on_is d b told = ap (map net_id) (touched_is d b told)

pins_of_row : (b : ℕ) (row : List Terminal) → pins_at b row ≡ count_by (λ c. eqb c b) (map block_on row)
pins_of_row b [] = refl
pins_of_row b (t ∷ ts) =
    sum_by-cons (λ (x : Terminal). cond (is_at b x) 1 0) t ts
    ∙ ap (λ n. cond (is_at b t) 1 0 + n) (pins_of_row b ts)
    ∙ sym (sum_by-cons (λ c. cond (eqb c b) 1 0) (block_on t) (map block_on ts))

map_alike : (f g : ℕ → ℕ) → ((n : ℕ) → f n ≡ g n) → (ns : List ℕ) → map f ns ≡ map g ns
map_alike f g same [] = refl
map_alike f g same (n ∷ ns) = let e = same n in let rest = map_alike f g same ns in λ i. e i ∷ rest i

-- the rows' counts of a block are the definition's
pub pins_on_is : (d : Netlist) (b : ℕ) → length d.globals ≡ length d.terminals → pins_on d.terminals d.globals b ≡ map (pin_count d b) (nets_of d b)
pins_on_is d b told =
    ap (map (pins_of d.terminals b)) (touched_is d b told)
    ∙ map_alike (pins_of d.terminals b) (pin_count d b) (λ n. pins_of_row b (slice_index_or d.terminals n [])) (nets_of d b)
