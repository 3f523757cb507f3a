-- Lines of a checkpoint text that are written one after another.
use Rattle.std.proofs.Common.{◌≡◌, ℕ, ◌+◌, ◌≤◌, true, false, cond, List, [], ◌∷◌, ◌++◌, Option, length, map, sym, ap, ◌∙◌, arith, append_assoc}
use Rattle.std.specs.Prelude.{filter, is_some}
use Rattle.std.specs.List.{flat_map, range_with_len}
use Rattle.std.proofs.lemmas.List.{append-nil, length-append, map-append, map-id}
use Rattle.std.proofs.lemmas.List.FromFn.{map-range_with_len_more}
use Rattle.std.proofs.lemmas.Grind.{flat_map-append}
use Rattle.std.proofs.lemmas.List.Elements.{filter-append}
use Rattle.fab_arch.specs.declared.array.Site.{Site}
use Rattle.fab_site.specs.Placement.{fixed_at}
use Rattle.fab_file.specs.Written.{ended}

-- the fixed blocks below i
abbrev pub fixed_below : List (Option Site) → ℕ → List ℕ
fixed_below fixed i = filter (λ b. is_some (fixed_at fixed b)) (range_with_len 0 i)

range_more : (i : ℕ) → range_with_len 0 (i + 1) ≡ range_with_len 0 i ++ i ∷ []
range_more i =
    let n : 0 + i ≡ i = omega arith in
    sym (map-id (range_with_len 0 (i + 1))) ∙ map-range_with_len_more (λ b. b) 0 i i n ∙ ap (λ xs. xs ++ i ∷ []) (map-id (range_with_len 0 i))

pub below_more : (fixed : List (Option Site)) (i : ℕ) → fixed_below fixed (i + 1) ≡ fixed_below fixed i ++ filter (λ b. is_some (fixed_at fixed b)) (i ∷ [])
below_more fixed i = ap (filter (λ b. is_some (fixed_at fixed b))) (range_more i) ∙ filter-append (λ b. is_some (fixed_at fixed b)) (range_with_len 0 i) (i ∷ [])

pub below_one : (fixed : List (Option Site)) (i : ℕ) → is_some (fixed_at fixed i) ≡ true → fixed_below fixed (i + 1) ≡ fixed_below fixed i ++ i ∷ []
below_one fixed i h = below_more fixed i ∙ ap (λ b. fixed_below fixed i ++ cond b (i ∷ []) []) h

pub below_same : (fixed : List (Option Site)) (i : ℕ) → is_some (fixed_at fixed i) ≡ false → fixed_below fixed (i + 1) ≡ fixed_below fixed i
below_same fixed i h = below_more fixed i ∙ ap (λ b. fixed_below fixed i ++ cond b (i ∷ []) []) h ∙ append-nil (fixed_below fixed i)

pub count_one : (fixed : List (Option Site)) (i n : ℕ) → is_some (fixed_at fixed i) ≡ true → (n ≡ length (fixed_below fixed i)) × (n ≤ i) → (n + 1 ≡ length (fixed_below fixed (i + 1))) × (n + 1 ≤ i + 1)
count_one fixed i n h k = (ap (λ x. x + 1) k.0 ∙ sym (ap length (below_one fixed i h) ∙ length-append (fixed_below fixed i) (i ∷ [])), omega (arith, k.1))

pub count_same : (fixed : List (Option Site)) (i n : ℕ) → is_some (fixed_at fixed i) ≡ false → (n ≡ length (fixed_below fixed i)) × (n ≤ i) → (n ≡ length (fixed_below fixed (i + 1))) × (n ≤ i + 1)
count_same fixed i n h k = (k.0 ∙ sym (ap length (below_same fixed i h)), omega (arith, k.1))

pub fixed_one : (f : ℕ → List ℕ) (fixed : List (Option Site)) (old text more : List ℕ) (i : ℕ) → is_some (fixed_at fixed i) ≡ true → text ≡ old ++ flat_map ended (map f (fixed_below fixed i)) → more ≡ text ++ ended (f i) → more ≡ old ++ flat_map ended (map f (fixed_below fixed (i + 1)))
fixed_one f fixed old text more i h t k =
    let e : flat_map ended (map f (fixed_below fixed (i + 1))) ≡ flat_map ended (map f (fixed_below fixed i)) ++ ended (f i) =
    ap (λ bs. flat_map ended (map f bs)) (below_one fixed i h)
    ∙ ap (flat_map ended) (map-append f (fixed_below fixed i) (i ∷ []))
    ∙ flat_map-append ended (map f (fixed_below fixed i)) (f i ∷ [])
    ∙ ap (λ x. flat_map ended (map f (fixed_below fixed i)) ++ x) (append-nil (ended (f i))) in
    k ∙ ap (λ x. x ++ ended (f i)) t ∙ append_assoc old (flat_map ended (map f (fixed_below fixed i))) (ended (f i)) ∙ ap (λ x. old ++ x) (sym e)

pub fixed_same : (f : ℕ → List ℕ) (fixed : List (Option Site)) (old text : List ℕ) (i : ℕ) → is_some (fixed_at fixed i) ≡ false → text ≡ old ++ flat_map ended (map f (fixed_below fixed i)) → text ≡ old ++ flat_map ended (map f (fixed_below fixed (i + 1)))
fixed_same f fixed old text i h t = t ∙ ap (λ bs. old ++ flat_map ended (map f bs)) (sym (below_same fixed i h))

pub behind_first : (old first rest text more : List ℕ) → text ≡ old ++ first → more ≡ text ++ rest → more ≡ old ++ (first ++ rest)
behind_first old first rest text more h k = k ∙ ap (λ x. x ++ rest) h ∙ append_assoc old first rest

-- four lines, one after another
pub four_pieces : (old a b c d t1 t2 t3 t4 : List ℕ) → t1 ≡ old ++ a → t2 ≡ t1 ++ b → t3 ≡ t2 ++ c → t4 ≡ t3 ++ d → t4 ≡ old ++ (a ++ (b ++ (c ++ (d ++ []))))
four_pieces old a b c d t1 t2 t3 t4 h1 h2 h3 h4 = rw (h4, h3, h2, h1) (simp (append_assoc, append-nil))
