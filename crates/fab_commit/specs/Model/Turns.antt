-- Turns one after another, as an annealer makes them (our own).
use Rattle.std.specs.Prelude.{ℕ, ◌≡◌, ◌+◌, ◌-◌, ◌*◌, ◌/◌, ◌%◌, max, List, [], ◌∷◌, map, refl}
use Rattle.std.specs.List.{count_by, range_with_len}
use Rattle.fab_commit.specs.Serial.{Run, Standing}
use Rattle.fab_commit.specs.Model.World.{World}
use Rattle.fab_commit.specs.Model.History.{is_redone}
use Rattle.fab_commit.specs.Model.TurnEvents.{LastTurn, is_redone_behind, next_turn, stands, turn}

-- turns of these batches
abbrev pub turns : Run → World → List ℕ → World
turns r w [] = w
turns r w (batch ∷ batches) = turns r (turn r batch w) batches

-- the last one of the turns of these batches that follow turn t
abbrev pub last_turn : Run → LastTurn → List ℕ → LastTurn
last_turn r t [] = t
last_turn r t (batch ∷ batches) = last_turn r (next_turn r batch t) batches

-- how many moves of the next turn are redone
abbrev pub redone_next : Run → ℕ → LastTurn → ℕ
redone_next r batch t = count_by (is_redone_behind r t) (range_with_len (stands r t).done (next_turn r batch t).made)

-- how many moves of the turns of these batches are redone
abbrev pub redone : Run → LastTurn → List ℕ → ℕ
redone r t [] = 0
redone r t (batch ∷ batches) = redone_next r batch t + redone r (next_turn r batch t) batches

-- the first move, from `first` on, of the stage of move k
abbrev pub part_of : ℕ → ℕ → ℕ → ℕ
part_of moves first k = max first (k - k % moves)

-- where the turn of move k begins, with one batch for all turns of the run
abbrev pub cut_of : ℕ → ℕ → ℕ → ℕ → ℕ
cut_of moves first batch k =
    let part = part_of moves first k in part + (k - part) / batch * batch

-- how many moves had been made where move k is first judged: where the turn before its own begins, if that turn belongs to this part of the
-- run, else where its own turn begins
abbrev pub base_of : ℕ → ℕ → ℕ → ℕ → ℕ
base_of moves first batch k = max (part_of moves first k) (cut_of moves first batch k - batch)

-- how many of the next n moves are redone in a run of one batch
abbrev pub redone_in_run : Run → Standing → ℕ → ℕ → ℕ
redone_in_run r x batch n =
    count_by (λ k. is_redone r x (base_of r.plan.moves x.done batch k) k) (range_with_len x.done n)

-- ten moves a stage, and a batch of four
pub bases_from_the_start : map (base_of 10 0 4) (range_with_len 0 12) ≡ 0 ∷ 0 ∷ 0 ∷ 0 ∷ 0 ∷ 0 ∷ 0 ∷ 0 ∷ 4 ∷ 4 ∷ 10 ∷ 10 ∷ []
bases_from_the_start = refl

-- a run that goes on within a stage cuts it from there
pub bases_from_within : map (base_of 10 3 4) (range_with_len 3 9) ≡ 3 ∷ 3 ∷ 3 ∷ 3 ∷ 3 ∷ 3 ∷ 3 ∷ 10 ∷ 10 ∷ []
bases_from_within = refl
