-- The numbers of accepted moves, where they are kept: more of them, and room for them.
use Rattle.std.proofs.Common.{◌≡◌, ℕ, ◌≤◌, List, [], ◌++◌, Bool, Option, Some, None, refl, ap, arith, append-nil, append_assoc}
use Rattle.std.specs.Global.{Vec}
use Rattle.fab_commit.specs.declared.run.owner.Owner.{Owner}
use Rattle.fab_commit.specs.Run.Noted.{HasRoomFor, noted_more}
use Rattle.fab_commit.specs.Run.Owners.{HasRoom}

pub noted_more-nil : (o : Option (List ℕ)) → noted_more o [] ≡ o
noted_more-nil None = refl
noted_more-nil (Some l) = ap (λ k. Some k) (append-nil l)

pub noted_more-more : (o : Option (List ℕ)) (a b : List ℕ) → noted_more (noted_more o a) b ≡ noted_more o (a ++ b)
noted_more-more None a b = refl
noted_more-more (Some l) a b = ap (λ k. Some k) (append_assoc l a b)

-- where there is room for some numbers, there is room for fewer
pub room_less : (o : Option (Vec ℕ)) (n m : ℕ) → m ≤ n → HasRoomFor o n → HasRoomFor o m
room_less None n m l h = refl
room_less (Some v) n m l h = omega (arith, l, h)

-- an owner with room for some accepted moves has room for fewer
pub has_less : (b : Bool) (o : Owner) (n m : ℕ) → m ≤ n → HasRoom b o n → HasRoom b o m
has_less b o n m l h = (room_less o.state.accepted n m l h.0, λ e. (let swaps = h.1 e in omega (arith, l, swaps)))
