-- Moves that an owner makes one after another, and how many of them are redone.
use Rattle.std.proofs.Common.{◌≡◌, ℕ, zero, suc, ◌+◌, ◌<◌, ◌≤◌, Bool, true, refl, ap, subst, ◌∙◌, arith}
use Rattle.std.specs.List.{count_by, range_with_len}
use Rattle.fab_sched.specs.Annealing.{IsLawful}
use Rattle.fab_commit.specs.declared.run.owner.Owner.{Owner}
use Rattle.fab_commit.specs.Serial.{Run, Standing, from, moves_left, one_if}
use Rattle.fab_commit.specs.Run.Stages.{is_touched_here}
use Rattle.fab_commit.specs.Run.Commits.{standing_of}
use Rattle.fab_commit.specs.Run.Owners.{AreOpen, HasMadeFrom, HasRoom, IsOwned, Makes, MayMake}
use Rattle.fab_commit.specs.Model.History.{is_redone}
use Rattle.fab_commit.proofs.RunLemmas.InTurns.{counted_open, open_at, open_later, open_left}
use Rattle.fab_commit.proofs.RunLemmas.Folding.{left_from}
use Rattle.fab_commit.proofs.RunLemmas.Making.{makes_more, makes_none}
use Rattle.fab_commit.proofs.RunLemmas.Noting.{has_less}
use Rattle.fab_commit.proofs.RunLemmas.Owning.{IsOpenNext, led_same, none_made}
use Rattle.fab_commit.proofs.RunLemmas.Pipelining.{count_both}

-- fewer moves are open too
pub open_less : (r : Run) (o : Owner) (base n m : ℕ) → m ≤ n → (due : AreOpen r o base n) → IsOpenNext r o base m due.start
open_less r o base n m low due = record {
  due = record { start = due.start; made = due.made; led = led_same r due.start due.made o o base n m due.led refl refl low };
  is = refl;
}

pub from_none : (b : Bool) (r : Run) (o : Owner) (base : ℕ) → IsOwned r o → HasMadeFrom b r o base 0 o
from_none b r o base owned = record {
  made = makes_none b r o owned;
  redone = λ e due. omega arith;
  room = λ m h. has_less b o (0 + m) m (omega arith) h;
}

pub from_more : (b : Bool) (r : Run) (o mid now : Owner) (base n m : ℕ) → HasMadeFrom b r o base n mid → HasMadeFrom b r mid base m now → HasMadeFrom b r o base (n + m) now
from_more b r o mid now base n m first second = record {
  made = makes_more b r o mid now n m first.made second.made;
  redone = λ e due.
      let one = open_less r o base (n + m) n (omega arith) due in
      let two = open_later r o mid base (n + m) n m due (first.made.kept e) (omega arith) in
      let before = first.redone e one.due in
      let after = second.redone e two.due in
      let done = first.made.further.done in
      let p = is_redone r due.start base in
      let was : count_by (is_redone r one.due.start base) (range_with_len o.state.done n) ≡ count_by p (range_with_len o.state.done n) = ap (λ x. count_by (is_redone r x base) (range_with_len o.state.done n)) one.is in
      let part : count_by (is_redone r two.due.start base) (range_with_len mid.state.done m) ≡ count_by p (range_with_len (o.state.done + n) m) =
      (λ i. count_by (is_redone r (two.is i) base) (range_with_len (done i) m)) in
      let both = count_both p o.state.done n m in
      omega (arith, before, after, was, part, both);
  room = λ k h. second.room k (first.room (m + k) (has_less b o (n + m + k) (n + (m + k)) (omega arith) h));
}

-- the same, where both together are known to be so many
pub from_both : (b : Bool) (r : Run) (o mid now : Owner) (base n m all : ℕ) → HasMadeFrom b r o base n mid → HasMadeFrom b r mid base m now → n + m ≡ all → HasMadeFrom b r o base all now
from_both b r o mid now base n m all first second sum = subst (λ k. HasMadeFrom b r o base k now) sum (from_more b r o mid now base n m first second)

-- one move, of which it is known whether it was redone
pub from_one : (b : Bool) (r : Run) (o now : Owner) (base : ℕ) (again : Bool) → 0 < r.plan.moves → IsOwned r o → Makes b r o 1 now → (b ≡ true → now.redone ≡ o.redone + one_if again) → (b ≡ true → again ≡ is_touched_here r o base)
    → ((m : ℕ) → HasRoom b o (m + 1) → HasRoom b now m) → HasMadeFrom b r o base 1 now
from_one b r o now base again pos owned made counted touched room = record {
  made = made;
  redone = λ e due.
      counted_open r due.start base o.state.done 0 o.redone o.redone now.redone o
      (open_at r o o base 1 0 pos due (none_made r o owned) (omega arith))
      (omega arith)
      (counted e ∙ ap (λ c. o.redone + one_if c) (touched e));
  room = λ m h. room m (has_less b o (1 + m) (m + 1) (omega arith) h);
}

later_left : (r : Run) (x y : Standing) (n m : ℕ) → y ≡ from r x n → n + m ≤ moves_left r x → m ≤ moves_left r y
later_left r x y n zero there fits = omega arith
later_left r x y n (suc m) there fits =
    let here = ap (moves_left r) there in
    let left = left_from r x n (omega (arith, fits)) in
    omega (arith, fits, here, left)

-- what may be made once some moves are made
pub may_later : (b : Bool) (r : Run) (o mid : Owner) (base n m all : ℕ) → MayMake b r o base all → HasMadeFrom b r o base n mid → n + m ≤ all → MayMake b r mid base m
may_later b r o mid base n m all may first fits = record {
  plan = may.plan;
  owned = first.made.owned;
  room = first.room m (has_less b o all (n + m) fits may.room);
  left = (let left = may.left in later_left r (standing_of o.state) (standing_of mid.state) n m first.made.further.stands (omega (arith, fits, left)));
  due = λ e. (open_later r o mid base all n m (may.due e) (first.made.kept e) fits).due;
}

pub may_less : (b : Bool) (r : Run) (o : Owner) (base n m : ℕ) → MayMake b r o base n → m ≤ n → MayMake b r o base m
may_less b r o base n m may low = may_later b r o o base 0 m n may (from_none b r o base may.owned) (omega (arith, low))

-- where redone moves are counted, open moves are left in the stage
pub may_open : (r : Run) (o : Owner) (base n : ℕ) → IsLawful r.plan → IsOwned r o → HasRoom true o n → AreOpen r o base n → MayMake true r o base n
may_open r o base n plan owned room due = record { plan = plan; owned = owned; room = room; left = open_left r o base n due; due = λ e. due }
