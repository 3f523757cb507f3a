-- What it takes to be legal, block by block.
use Rattle.std.proofs.Common.{◌≡◌, ◌↔◌, ℕ, zero, suc, ◌+◌, ◌<◌, ◌≤◌, Bool, false, List, [], ◌∷◌, Option, Some, None, length, get_or, below_more, refl, sym, ◌∙◌, inl, inr, arith, ◌⊎◌}
use Rattle.std.specs.Prelude.{slice_get, IsTrue}
use Rattle.std.proofs.lemmas.Bool.{false≢true}
use Rattle.fab_arch.specs.declared.array.Site.{Site}
use Rattle.fab_site.specs.Placement.{fixed_at}

-- the block stands where it is fixed, if it is
abbrev pub Stays : List (Option Site) → List Site → ℕ → Type 0
Stays fixed sites b = (s : Site) → fixed_at fixed b ≡ Some s → slice_get sites b ≡ Some s

-- the same as the code tests it
abbrev pub StaysAt : List (Option Site) → List Site → ℕ → Type 0
StaysAt fixed sites b = (s : Site) → get_or fixed b None ≡ Some s → slice_get sites b ≡ Some s

read : (fixed : List (Option Site)) (b : ℕ) → get_or fixed b None ≡ fixed_at fixed b
read [] b = refl
read (x ∷ xs) zero = refl
read (x ∷ xs) (suc b) = read xs b

past_end : (fixed : List (Option Site)) (b : ℕ) (s : Site) → length fixed ≤ b → fixed_at fixed b ≡ Some s → ⊥
past_end [] b s le h = none_some s h
  where
    none_some : (s : Site) → None ≡ Some s → ⊥
    none_some s h = cc
past_end (x ∷ xs) zero s le h = omega arith
past_end (x ∷ xs) (suc b) s le h = past_end xs b s (omega arith) h

-- one more block stays
pub stays_more : (fixed : List (Option Site)) (sites : List Site) (n : ℕ) → StaysAt fixed sites n → ((b : ℕ) → b < n → Stays fixed sites b) → (b : ℕ) → b < n + 1 → Stays fixed sites b
stays_more fixed sites n here below = below_more (λ b. Stays fixed sites b) n below (λ s e. here s (read fixed n ∙ e))

-- one block that does not stay is enough
pub stays_not : (fixed : List (Option Site)) (sites : List Site) (n : ℕ) (r : Bool) → (IsTrue r ↔ StaysAt fixed sites n) → r ≡ false → ((b : ℕ) → Stays fixed sites b) → ⊥
stays_not fixed sites n r iff no_stay all = false≢true (sym no_stay ∙ iff.1 (λ s e. all n s (sym (read fixed n) ∙ e)))

-- blocks past the end of the list are not fixed
pub stays_all : (fixed : List (Option Site)) (sites : List Site) (n : ℕ) → length fixed ≤ n → ((b : ℕ) → b < n → Stays fixed sites b) → (b : ℕ) → Stays fixed sites b
stays_all fixed sites n le below b = elim (split b n) [
  | inl lt ↦ below b lt
  | inr ge ↦ λ s e. absurd (past_end fixed b s (omega arith) e)
]
  where
    split : (b n : ℕ) → (b < n) ⊎ (n ≤ b)
    split b n = first_of (search arith, omega arith, grind arith)
