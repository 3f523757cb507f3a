-- What a run accepted since one of its standings (our own).
use Rattle.std.specs.Prelude.{ℕ, ◌≡◌, ◌-◌, ◌≤◌, Bool, if◌then◌else◌, List, Some, None}
use Rattle.fab_commit.specs.declared.run.state.State.{State}
use Rattle.fab_commit.specs.Serial.{Run, Standing, accepted_among, from}
use Rattle.fab_commit.specs.Run.Commits.{standing_of}
use Rattle.fab_commit.specs.Run.Noted.{noted}

-- the numbers of the moves accepted since standing x, where `done` moves of the run are made
abbrev pub accepted_since : Run → Standing → ℕ → List ℕ
accepted_since r x done = accepted_among r x (done - x.done)

-- moves of the run led from standing x, with `before` moves accepted in all, to this state; the numbers of the moves accepted since are kept,
-- or none are
pub record IsSince (r : Run) (keeps : Bool) (before : ℕ) (x : Standing) (s : State) : Type 0 where
  pub first : before ≡ x.total
  pub after : x.done ≤ s.done
  pub here : standing_of s ≡ from r x (s.done - x.done)
  pub numbers : noted s.accepted ≡ (if keeps then Some (accepted_since r x s.done) else None)
