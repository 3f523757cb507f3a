-- Runs of numbers, and what a test keeps of them.
use Rattle.std.proofs.Common.{◌≡◌, ℕ, zero, suc, ◌+◌, ◌-◌, ◌<◌, ◌≤◌, Bool, true, false, cond, List, [], ◌∷◌, ◌++◌, map, reverse, refl, sym, ap, ◌∙◌, arith}
use Rattle.std.specs.List.{filter, range_with_len}
use Rattle.std.proofs.lemmas.List.{reverse-append, append-nil}

pub range_split : (a m n : ℕ) → range_with_len a (m + n) ≡ range_with_len a m ++ range_with_len (a + m) n
range_split a zero n =
    let e : a ≡ a + 0 = omega arith in
    let f : 0 + n ≡ n = omega arith in
    (λ i. range_with_len (e i) (f i))
range_split a (suc m) n =
    let f : suc m + n ≡ suc (m + n) = omega arith in
    let e : a + 1 + m ≡ a + suc m = omega arith in
    ap (range_with_len a) f
    ∙ ap (λ r. a ∷ r) (range_split (a + 1) m n ∙ ap (λ k. range_with_len (a + 1) m ++ range_with_len k n) e)

pub filter_all : (p : ℕ → Bool) (a n : ℕ) → ((x : ℕ) → a ≤ x → x < a + n → p x ≡ true) → filter p (range_with_len a n) ≡ range_with_len a n
filter_all p a zero h = refl
filter_all p a (suc n) h =
    let rest = filter_all p (a + 1) n (λ x l g. h x (omega arith) (omega arith)) in
    (λ i. cond (h a (omega arith) (omega arith) i) (a ∷ rest i) (rest i))

pub filter_none : (p : ℕ → Bool) (a n : ℕ) → ((x : ℕ) → a ≤ x → x < a + n → p x ≡ false) → filter p (range_with_len a n) ≡ []
filter_none p a zero h = refl
filter_none p a (suc n) h =
    let rest = filter_none p (a + 1) n (λ x l g. h x (omega arith) (omega arith)) in
    (λ i. cond (h a (omega arith) (omega arith) i) (a ∷ rest i) (rest i))

pub filter_append : {X : Type 0} (p : X → Bool) (xs ys : List X) → filter p (xs ++ ys) ≡ filter p xs ++ filter p ys
filter_append p [] ys = refl
filter_append p (x ∷ xs) ys =
    let rest = filter_append p xs ys in
    elim (p x) as (λ b. cond b (x ∷ filter p (xs ++ ys)) (filter p (xs ++ ys)) ≡ cond b (x ∷ filter p xs) (filter p xs) ++ filter p ys) [
      | true ↦ ap (λ r. x ∷ r) rest
      | false ↦ rest
    ]

pub filter_mapped : {X : Type 0} (p : X → Bool) (f : ℕ → X) (xs : List ℕ) → filter p (map f xs) ≡ map f (filter (λ i. p (f i)) xs)
filter_mapped p f [] = refl
filter_mapped p f (x ∷ xs) =
    let rest = filter_mapped p f xs in
    elim (p (f x)) as (λ b. cond b (f x ∷ filter p (map f xs)) (filter p (map f xs)) ≡ map f (cond b (x ∷ filter (λ i. p (f i)) xs) (filter (λ i. p (f i)) xs))) [
      | true ↦ ap (λ r. f x ∷ r) rest
      | false ↦ rest
    ]

pub filter_reversed : {X : Type 0} (p : X → Bool) (xs : List X) → filter p (reverse xs) ≡ reverse (filter p xs)
filter_reversed p [] = refl
filter_reversed p (x ∷ xs) =
    ap (filter p) (reverse-append (x ∷ []) xs)
    ∙ filter_append p (reverse xs) (x ∷ [])
    ∙ ap (λ r. r ++ filter p (x ∷ [])) (filter_reversed p xs)
    ∙ elim (p x) as (λ b. reverse (filter p xs) ++ cond b (x ∷ []) [] ≡ reverse (cond b (x ∷ filter p xs) (filter p xs))) [
      | true ↦ sym (reverse-append (x ∷ []) (filter p xs))
      | false ↦ append-nil (reverse (filter p xs))
    ]

-- the numbers of a range from which a test keeps one run, with none before and none after it
pub filter_run : (p : ℕ → Bool) (low count n : ℕ) → 1 ≤ low → low + count ≤ n + 1
    → ((x : ℕ) → 1 ≤ x → x < low → p x ≡ false)
    → ((x : ℕ) → low ≤ x → x < low + count → p x ≡ true)
    → ((x : ℕ) → low + count ≤ x → x ≤ n → p x ≡ false)
    → filter p (range_with_len 1 n) ≡ range_with_len low count
filter_run p low count n pos room before within after =
    let below = low - 1 in
    let rest = n - below - count in
    let split : n ≡ below + (count + rest) = omega arith in
    let first : 1 + below ≡ low = omega arith in
    ap (λ k. filter p (range_with_len 1 k)) split
    ∙ ap (filter p) (range_split 1 below (count + rest) ∙ ap (λ k. range_with_len 1 below ++ range_with_len k (count + rest)) first ∙ ap (λ r. range_with_len 1 below ++ r) (range_split low count rest))
    ∙ filter_append p (range_with_len 1 below) (range_with_len low count ++ range_with_len (low + count) rest)
    ∙ ap (λ r. r ++ filter p (range_with_len low count ++ range_with_len (low + count) rest)) (filter_none p 1 below (λ x l g. before x l (omega arith)))
    ∙ filter_append p (range_with_len low count) (range_with_len (low + count) rest)
    ∙ (λ i. filter_all p low count within i ++ filter_none p (low + count) rest (λ x l g. after x l (omega arith)) i)
    ∙ append-nil (range_with_len low count)
