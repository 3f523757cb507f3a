-- Lines that are written one after another.
use Rattle.std.proofs.Common.{◌≡◌, ℕ, ◌+◌, List, [], ◌∷◌, ◌++◌, map, sym, ap, ◌∙◌, arith, append_assoc}
use Rattle.std.proofs.lemmas.List.{append-nil}
use Rattle.std.proofs.lemmas.List.FromFn.{map-range_with_len_more}
use Rattle.std.proofs.lemmas.Grind.{flat_map-append}
use Rattle.std.specs.List.{flat_map, range_with_len}
use Rattle.fab_file.specs.Written.{ended}

pub one_more : (f : ℕ → List ℕ) (old text more : List ℕ) (i : ℕ) → text ≡ old ++ flat_map ended (map f (range_with_len 0 i)) → more ≡ text ++ ended (f i)
    → more ≡ old ++ flat_map ended (map f (range_with_len 0 (i + 1)))
one_more f old text more i h k =
    let n : 0 + i ≡ i = omega arith in
    let e : flat_map ended (map f (range_with_len 0 (i + 1))) ≡ flat_map ended (map f (range_with_len 0 i)) ++ ended (f i) =
    ap (flat_map ended) (map-range_with_len_more f 0 i i n)
    ∙ flat_map-append ended (map f (range_with_len 0 i)) (f i ∷ [])
    ∙ ap (λ x. flat_map ended (map f (range_with_len 0 i)) ++ x) (append-nil (ended (f i))) in
    k ∙ ap (λ x. x ++ ended (f i)) h ∙ append_assoc old (flat_map ended (map f (range_with_len 0 i))) (ended (f i)) ∙ ap (λ x. old ++ x) (sym e)

pub six_pieces : (old a b c d e f t1 t2 t3 t4 t5 t6 : List ℕ) → t1 ≡ old ++ a → t2 ≡ t1 ++ b → t3 ≡ t2 ++ c → t4 ≡ t3 ++ d → t5 ≡ t4 ++ e → t6 ≡ t5 ++ f → t6 ≡ old ++ (a ++ b ++ c ++ d ++ e ++ f)
six_pieces old a b c d e f t1 t2 t3 t4 t5 t6 h1 h2 h3 h4 h5 h6 = rw (h6, h5, h4, h3, h2, h1) (simp append_assoc)
