-- An annealer that made turns of one batch (our own).
use Rattle.std.specs.Prelude.{ℕ, ◌≡◌, replicate}
use Rattle.fab_commit.specs.Serial.{Run, Standing}
use Rattle.fab_commit.specs.Run.Commits.{AnnealOf, world_of}
use Rattle.fab_commit.specs.Model.TurnEvents.{no_turn, world_behind}
use Rattle.fab_commit.specs.Model.Turns.{last_turn, redone}

-- some number of turns of a batch led here from a standing, and all moves that they redid are counted
pub record IsByTurns {W : Type 0} (r : Run) (x : Standing) (batch : ℕ) (a : AnnealOf W) : Type 0 where
  pub turns : ℕ
  pub here : world_of a ≡ world_behind r (last_turn r (no_turn x) (replicate turns batch))
  pub again : a.redone ≡ redone r (no_turn x) (replicate turns batch)

-- if turns of the batch led to `a` from some standing, then turns of it led to `b` from there
pub record LeadsByTurns {W : Type 0} (r : Run) (batch : ℕ) (a b : AnnealOf W) : Type 0 where
  pub on : (x : Standing) → IsByTurns r x batch a → IsByTurns r x batch b
