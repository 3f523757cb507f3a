use Rattle.std.proofs.Common.{◌≡◌, ◌⊎◌, ◌∙◌, ℕ, List, Option, inl, inr, refl, sym, arith}
use Rattle.vplace.specs.declared.flags.Asked.{Asked}
use Rattle.vplace.specs.declared.flags.Asked.TheVariants.{Example, Check, Place, Resume}
use Rattle.vplace.specs.declared.status.Status.{Status}
use Rattle.vplace.specs.declared.status.Status.TheVariants as status
use Rattle.vplace.specs.Done.{Did, IsAsAsked, IsChecked, IsExample, IsPlaced, IsResumed, IsTold}
use Rattle.vplace.specs.Files.{Held}
use Rattle.vplace.specs.Status.{code_of}
use Rattle.vplace.proofs.program.program.Goals as goal

is_done : (s : Status) → code_of s ≡ 0 → s ≡ status.Done
is_done status.Done h = refl
is_done status.Refused h = absurd (omega (arith, h))
is_done status.CommandLine h = absurd (omega (arith, h))
is_done status.NoMemory h = absurd (omega (arith, h))
is_done status.Device h = absurd (omega (arith, h))

module _ (arch net place : List ℕ) (held held_new : Option Held) (old new : Option (List ℕ)) where
  by_asked : (asked : Asked) → Did arch net place asked held held_new old new
      → IsExample arch net place old new ⊎ (IsChecked held old new ⊎ (IsPlaced held held_new old new ⊎ IsResumed held held_new old new))
  by_asked Example did = inl did.0
  by_asked (Check names) did = inr (inl (names, did.0))
  by_asked (Place words) did = inr (inr (inl (words, did)))
  by_asked (Resume words) did = inr (inr (inr (words, did)))

  something : (words : List (List ℕ)) → IsAsAsked arch net place words held held_new old new
      → IsTold old new ⊎ (IsExample arch net place old new ⊎ (IsChecked held old new ⊎ (IsPlaced held held_new old new ⊎ IsResumed held held_new old new)))
  something words (inl told) = inl told.1
  something words (inr asked) = inr (by_asked asked.0 asked.2)

pub returns-clause-done : goal.returns-clause-done
returns-clause-done g c h = something _ _ _ _ _ _ _ _ (c.run.ensures.decided (is_done c.run.result (sym c.code.ensures ∙ h)))
