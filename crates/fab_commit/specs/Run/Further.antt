-- A run that is some moves further, as contracts see it (our own).
use Rattle.std.specs.Prelude.{ℕ, ◌≡◌, ◌+◌}
use Rattle.fab_commit.specs.declared.run.state.State.{State}
use Rattle.fab_commit.specs.Serial.{Run, accepted_among, from}
use Rattle.fab_commit.specs.Run.Commits.{IsSound, standing_of}
use Rattle.fab_commit.specs.Run.Noted.{noted, noted_more}

-- the state is n moves of its run further
pub record IsFurther (r : Run) (s : State) (n : ℕ) (now : State) : Type 0 where
  pub sound : IsSound r now
  pub done : now.done ≡ s.done + n
  pub stands : standing_of now ≡ from r (standing_of s) n
  pub accepted : noted now.accepted ≡ noted_more (noted s.accepted) (accepted_among r (standing_of s) n)
