-- How many units of its next turn the owner of a crew keeps for itself (our own rule; the numbers were measured).
use Rattle.std.specs.Prelude.{ℕ, ◌≡◌, ◌+◌, ◌-◌, ◌==◌, Bool, true, false, if◌then◌else◌, nat_le, nat_lt, refl}

-- how many it wants after a review, by the number of turns, of 16, in which it had to wait for a worker
abbrev pub reviewed : ℕ → ℕ → ℕ
reviewed late wanted = if nat_le 10 late then wanted + 1 else if nat_lt late 4 then wanted - 1 else wanted

-- the number of turns in which it had to wait, with the one that ends
abbrev pub late_with : ℕ → Bool → ℕ
late_with late true = late + 1
late_with late false = late

-- a count of turns, or what is counted in them: from 0 again after every sixteenth turn
abbrev pub since_review : ℕ → ℕ → ℕ
since_review turns counted = if turns + 1 == 16 then 0 else counted

-- how many it wants after one more turn. It reviews this number every sixteenth turn
abbrev pub wanted_after : ℕ → ℕ → ℕ → ℕ
wanted_after turns late wanted = if turns + 1 == 16 then reviewed late wanted else wanted

pub one_less_after_no_wait : wanted_after 15 0 3 ≡ 2
one_less_after_no_wait = refl

pub never_fewer_than_none : wanted_after 15 0 0 ≡ 0
never_fewer_than_none = refl

pub one_more_after_ten_waits : wanted_after 15 10 3 ≡ 4
one_more_after_ten_waits = refl

pub the_same_after_four_waits : wanted_after 15 4 3 ≡ 3
the_same_after_four_waits = refl

pub no_review_before : wanted_after 14 14 3 ≡ 3
no_review_before = refl
