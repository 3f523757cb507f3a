-- A list of words that is written in two parts.
use Rattle.std.proofs.Common.{◌≡◌, ℕ, ◌+◌, ◌-◌, ◌<◌, List, [], length, get_or, ap, sym, ◌∙◌, inl, inr, arith}
use Rattle.std.proofs.lemmas.Bool.{cases_lt}

pub both_parts : (f : ℕ → List ℕ) (done : ℕ) (mid out : List (List ℕ)) → ((i : ℕ) → i < done → get_or mid i [] ≡ f i) → ((i : ℕ) → i < done → get_or out i [] ≡ get_or mid i []) → ((i : ℕ) → done + i < length out → get_or out (done + i) [] ≡ f (done + i)) → (i : ℕ) → i < length out → get_or out i [] ≡ f i
both_parts f done mid out first same rest i h =
    elim (cases_lt i done) [
      | inl low ↦ same i low ∙ first i low
      | inr high ↦
          (let e : done + (i - done) ≡ i = omega (arith, high) in
          ap (λ k. get_or out k []) (sym e) ∙ rest (i - done) (omega (arith, e, h)) ∙ ap f e)
    ]
