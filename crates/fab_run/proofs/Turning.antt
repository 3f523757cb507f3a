-- Turns within a stage, one after another.
use Rattle.std.proofs.Common.{◌≡◌, ℕ, ◌+◌, ◌-◌, ◌<◌, ◌≤◌, List, ◌++◌, min, sym, ap, subst, ◌∙◌, arith, append_assoc, take, Ok}
use Rattle.fab_commit.specs.declared.run.turn.Turn.{Turn}
use Rattle.fab_commit.specs.Run.ByTurns.{LeadsByTurns}
use Rattle.fab_commit.specs.Run.Commits.{AnnealOf, run_of, world_of}
use Rattle.fab_commit.specs.Model.TurnEvents.{turn_events}
use Rattle.fab_commit.specs.Model.World.{is_redone_way, ways}
use Rattle.fab_run.specs.Stages.{AreCountedOn}
use Rattle.std.specs.List.{count_by}
use Rattle.fab_commit.specs.Serial.{Run, Standing, accepted_among, from, moves_left}
use Rattle.fab_commit.specs.Run.Turned.{IsTurned}
use Rattle.fab_commit.proofs.RunLemmas.ByTurns.{redone_by_a_shorter, redone_by_turns}
use Rattle.fab_commit.proofs.RunLemmas.Folding.{from_add, left_from}
use Rattle.fab_commit.proofs.RunLemmas.Going.{accepted_add}

-- how many moves the next turn makes
pub turn_makes : (r q : Run) (x y : Standing) (made left batch : ℕ) → q ≡ r → left ≡ moves_left r x → y ≡ from r x made → made < left → min batch (moves_left q y) ≡ min batch (left - made)
turn_makes r q x y made left batch same e there more =
    let here : moves_left q y ≡ moves_left r (from r x made) = (λ i. moves_left (same i) (there i)) in
    let rest = left_from r x made (omega (arith, e, more)) in
    let is : moves_left q y ≡ left - made = omega (arith, here, rest, e) in
    ap (min batch) is

pub from_then : (r : Run) (x y z : Standing) (n m : ℕ) → y ≡ from r x n → z ≡ from r y m → z ≡ from r x (n + m)
from_then r x y z n m first second = second ∙ ap (λ s. from r s m) first ∙ sym (from_add r x n m)

pub accepted_then : (r : Run) (x y : Standing) (old mid new : List ℕ) (n m : ℕ) → y ≡ from r x n → mid ≡ old ++ accepted_among r x n → new ≡ mid ++ accepted_among r y m → new ≡ old ++ accepted_among r x (n + m)
accepted_then r x y old mid new n m there first second =
    second
    ∙ (λ i. first i ++ accepted_among r (there i) m)
    ∙ append_assoc old (accepted_among r x n) (accepted_among r (from r x n) m)
    ∙ ap (λ l. old ++ l) (accepted_add r x n m)

-- a turn that does not reach the end of the stage makes all that it is asked for
pub turn_makes_all : (r q : Run) (x y : Standing) (made size count : ℕ) → q ≡ r → y ≡ from r x made → made + size ≤ count → count < moves_left r x → min size (moves_left q y) ≡ size
turn_makes_all r q x y made size count same there low part =
    let here : moves_left q y ≡ moves_left r (from r x made) = (λ i. moves_left (same i) (there i)) in
    let rest = left_from r x made (omega (arith, low, part)) in
    omega (arith, here, rest, low, part)

-- what is judged again after turns of one batch
pub counted_by_turns : {W : Type 0} (r : Run) (batch : ℕ) (a b : AnnealOf W) → 0 < r.plan.moves → LeadsByTurns r batch a b → AreCountedOn r batch a b
counted_by_turns r batch a b pos turns = record { on = λ x by. redone_by_turns r x batch b pos (turns.on x by) }

-- and after a shorter turn
pub counted_behind : {W : Type 0} (moves : W → ℕ → List ℕ) (r : Run) (batch short : ℕ) (a y z : AnnealOf W) (t : Turn) → 0 < r.plan.moves → short ≤ batch → run_of moves y ≡ r
    → LeadsByTurns r batch a y → IsTurned moves short y z (Ok t) → AreCountedOn r batch a z
counted_behind moves r batch short a y z t pos low same turns turned =
    record {
      on = λ x by.
          redone_by_a_shorter r x batch short y z pos low (turns.on x by)
          (subst (λ (q : Run). z.standing.done ≡ y.standing.done + min short (moves_left q y.standing)) same turned.ok)
          (subst (λ (q : Run). z.redone ≡ y.redone + count_by is_redone_way (take (z.standing.done - y.standing.done) (ways q (world_of y) (turn_events q short (world_of y))))) same turned.redone);
    }

pub counted_then : {W : Type 0} (r : Run) (batch : ℕ) (a b c : AnnealOf W) → LeadsByTurns r batch a b → AreCountedOn r batch b c → AreCountedOn r batch a c
counted_then r batch a b c first second = record { on = λ x by. second.on x (first.on x by) }
