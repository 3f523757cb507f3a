-- Beyond the table there is no chance.
use Rattle.std.proofs.Common.{◌≡◌, ℕ, ◌*◌, ◌/◌, ◌%◌, ◌≤◌, ◌<◌, ◌∙◌, sym, ap, arith}
use Rattle.std.specs.Prelude.{slice_index}
use Rattle.std.proofs.lemmas.List.{get_or_past}
use Rattle.std.proofs.lemmas.Nat.{le-div}
use Rattle.fab_move.specs.Accept.{chance_of, whole_chances, sixteenth_chances}

nothing : (m : ℕ) → 0 ≡ 0 * m / 1000000
nothing m = omega arith

-- from 240 sixteenths on
pub none_beyond : (z : ℕ) → 240 ≤ z → 0 ≡ chance_of z
unfolding chance_of
none_beyond z far =
    let past : slice_index whole_chances (z / 16) ≡ 0 = get_or_past whole_chances (z / 16) 0 (le-div 15 z 16 (omega arith) (omega (arith, far))) in
    nothing (slice_index sixteenth_chances (z % 16)) ∙ sym (ap (λ v. v * slice_index sixteenth_chances (z % 16) / 1000000) past)

-- from 15 temperatures on
pub none_so_far : (delta t : ℕ) → 0 < t → 15 * t ≤ delta → 0 ≡ chance_of (16 * delta / t)
none_so_far delta t some far = none_beyond (16 * delta / t) (le-div 240 (16 * delta) t some (omega (arith, far)))
