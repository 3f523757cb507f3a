use Rattle.std.proofs.Common.{◌≡◌, ℕ, ◌+◌, ◌<◌, ◌⊎◌, inl, inr, Bool, true, false, List, length, get_or, refl, sym, ap, ◌∙◌, arith}
use Rattle.std.specs.Prelude.{◌&&◌, not}
use Rattle.std.proofs.Math.Nat.{eq-or-lt_of_le}
use Rattle.std.proofs.lemmas.Bool.{false≢true}
use Rattle.std.proofs.lemmas.List.{get_or_default}
use Rattle.fab_commit.specs.declared.run.foreseen.Foreseen.{Foreseen}
use Rattle.fab_commit.proofs.run.foreseen.are_rejected.Goals as goal

not_true : (b : Bool) → not b ≡ true → b ≡ false
not_true true e = absurd (false≢true e)
not_true false e = refl

-- one more that is rejected
one_more : (all one : Bool) (xs : List Foreseen) (n : ℕ) (d : Foreseen) → n < length xs → (all ≡ true → (i : ℕ) (f : Foreseen) → i < n → (get_or xs i f).accepted ≡ false)
    → one ≡ not (get_or xs n d).accepted → (all && one) ≡ true → (i : ℕ) (f : Foreseen) → i < n + 1 → (get_or xs i f).accepted ≡ false
one_more false one xs n d low before now both i f less = absurd (false≢true both)
one_more true false xs n d low before now both i f less = absurd (false≢true both)
one_more true true xs n d low before now both i f less = here (eq-or-lt_of_le (omega (arith, less)))
  where
    here : (i ≡ n) ⊎ (i < n) → (get_or xs i f).accepted ≡ false
    here (inl same) = (λ j. (get_or xs (same j) f).accepted) ∙ ap (λ (v : Foreseen). v.accepted) (get_or_default xs n f d low) ∙ not_true (get_or xs n d).accepted (sym now)
    here (inr below) = before refl i f below

-- where all are rejected, so far all are and the next one is
all_so_far : (all one : Bool) (xs : List Foreseen) (n : ℕ) (d : Foreseen) → (((i : ℕ) (f : Foreseen) → i < n → (get_or xs i f).accepted ≡ false) → all ≡ true) → one ≡ not (get_or xs n d).accepted
    → ((i : ℕ) (f : Foreseen) → i < n + 1 → (get_or xs i f).accepted ≡ false) → (all && one) ≡ true
all_so_far all one xs n d before now every = (λ j. before (λ i f less. every i f (omega (arith, less))) j && now j) ∙ ap (λ b. not b) (every n d (omega arith))

pub loop-sight-preserved : goal.loop-sight-preserved
loop-sight-preserved c =
    let inv = c.loop-sight.invariant in
    record {
      rejected = one_more c.loop-sight.all c.is_rejected-all.result c.args.foreseen.now c.loop-sight.sight-index _ c.loop-sight-test.true inv.rejected c.is_rejected-all.ensures;
      every = all_so_far c.loop-sight.all c.is_rejected-all.result c.args.foreseen.now c.loop-sight.sight-index _ inv.every c.is_rejected-all.ensures;
    }
