-- Numbers of names that are kept as keys of a set.
use Rattle.std.proofs.Common.{◌≡◌, ℕ, Bool, true, false, cond, ◌||◌, List, [], ◌∷◌, ◌++◌, Some, None, length, map, refl, sym, ap, ◌∙◌, ltb, inl, inr}
use Rattle.std.proofs.lemmas.List.{length-map, map_push}
use Rattle.std.proofs.lemmas.Bool.{cases_Bool, false≢true}
use Rattle.std.specs.Prelude.{position, is_some}
use Rattle.std.specs.List.{position_or_len, list_any}
use Rattle.std.specs.Str.{bytes_eq}
use Rattle.fab_net.specs.Names.{number_of, with_name}
use Rattle.fab_net.proofs.Naming.{has_number, any_position, itself}

place-map : {K : Type 0} (shown : K → List ℕ) (p : List ℕ → Bool) (keys : List K) → position_or_len p (map shown keys) ≡ position_or_len (λ k. p (shown k)) keys
place-map shown p [] = refl
place-map shown p (k ∷ ks) = elim (cases_Bool (p (shown k))) [ inl h ↦ rw h refl | inr h ↦ rw (h, place-map shown p ks) refl ]

-- the number of a name among the shown keys is the index of its key
pub number-map : {K : Type 0} (shown : K → List ℕ) (name : List ℕ) (keys : List K) → number_of name (map shown keys) ≡ position (λ k. bytes_eq name (shown k)) keys
number-map shown name keys = rw (place-map shown (bytes_eq name) keys, length-map keys shown) refl

any-map : {K : Type 0} (shown : K → List ℕ) (p : List ℕ → Bool) (keys : List K) → list_any p (map shown keys) ≡ list_any (λ k. p (shown k)) keys
any-map shown p [] = refl
any-map shown p (k ∷ ks) = ap (λ b. p (shown k) || b) (any-map shown p ks)

-- the names once a key went in
pub with_key : {K : Type 0} (shown : K → List ℕ) (key : K) (keys : List K)
    → map shown (cond (list_any (λ k. bytes_eq (shown key) (shown k)) keys) keys (keys ++ key ∷ [])) ≡ with_name (shown key) (map shown keys)
with_key shown key keys = either (list_any (λ k. bytes_eq (shown key) (shown k)) keys) refl
  where
    either : (b : Bool) → list_any (λ k. bytes_eq (shown key) (shown k)) keys ≡ b → map shown (cond b keys (keys ++ key ∷ [])) ≡ with_name (shown key) (map shown keys)
    either true h =
        let some : is_some (number_of (shown key) (map shown keys)) ≡ true = has_number (shown key) (map shown keys) ∙ any-map shown (bytes_eq (shown key)) keys ∙ h in
        rw some refl
    either false h =
        let none : is_some (number_of (shown key) (map shown keys)) ≡ false = has_number (shown key) (map shown keys) ∙ any-map shown (bytes_eq (shown key)) keys ∙ h in
        rw none (map_push shown keys key)

where_any : {K : Type 0} (p : K → Bool) (keys : List K) → list_any p keys ≡ true → position p keys ≡ Some (position_or_len p keys)
where_any p keys h = let t : ltb (position_or_len p keys) (length keys) ≡ true = any_position p keys ∙ h in rw t refl

any_last : {K : Type 0} (p : K → Bool) (keys : List K) (key : K) → p key ≡ true → list_any p (keys ++ key ∷ []) ≡ true
any_last p [] key h = rw h refl
any_last p (k ∷ ks) key h = rw (any_last p ks key h) (or_true (p k))
  where
    or_true : (b : Bool) → (b || true) ≡ true
    or_true true = refl
    or_true false = refl

place_last : {K : Type 0} (p : K → Bool) (keys : List K) (key : K) → list_any p keys ≡ false → p key ≡ true → position_or_len p (keys ++ key ∷ []) ≡ position_or_len p keys
place_last p [] key none h = rw h refl
place_last p (k ∷ ks) key none h = elim (cases_Bool (p k)) [
  | inl y ↦ let e : true ≡ false = rw y at none in absurd (false≢true (sym e))
  | inr n ↦ let rest : list_any p ks ≡ false = rw n at none in rw (n, place_last p ks key rest h) refl
]

-- the number of a name whose key went in
pub number_of_key : {K : Type 0} (shown : K → List ℕ) (key : K) (keys : List K)
    → number_of (shown key) (map shown (cond (list_any (λ k. bytes_eq (shown key) (shown k)) keys) keys (keys ++ key ∷ []))) ≡ Some (position_or_len (λ k. bytes_eq (shown key) (shown k)) keys)
number_of_key shown key keys = either (list_any (λ k. bytes_eq (shown key) (shown k)) keys) refl
  where
    either : (b : Bool) → list_any (λ k. bytes_eq (shown key) (shown k)) keys ≡ b → number_of (shown key) (map shown (cond b keys (keys ++ key ∷ []))) ≡ Some (position_or_len (λ k. bytes_eq (shown key) (shown k)) keys)
    either true h = number-map shown (shown key) keys ∙ where_any (λ k. bytes_eq (shown key) (shown k)) keys h
    either false h =
        number-map shown (shown key) (keys ++ key ∷ [])
        ∙ where_any (λ k. bytes_eq (shown key) (shown k)) (keys ++ key ∷ []) (any_last (λ k. bytes_eq (shown key) (shown k)) keys key (itself (shown key)))
        ∙ ap Some (place_last (λ k. bytes_eq (shown key) (shown k)) keys key h (itself (shown key)))

-- a key whose name has no number yet goes to the end
pub new_key : {K : Type 0} (shown : K → List ℕ) (key : K) (name : List ℕ) (keys : List K) → shown key ≡ name → number_of name (map shown keys) ≡ None
    → map shown (cond (list_any (λ k. bytes_eq (shown key) (shown k)) keys) keys (keys ++ key ∷ [])) ≡ map shown keys ++ name ∷ []
new_key shown key name keys is none =
    let no : is_some (number_of (shown key) (map shown keys)) ≡ false = rw (is, none) refl in
    with_key shown key keys ∙ rw (no, is) refl
