-- What moves made one at a time accept, and which moves a stale judgement may get wrong (our own).
use Rattle.std.specs.Prelude.{ℕ, zero, suc, ◌-◌, Bool, if◌then◌else◌, List, [], ◌++◌, is_some}
use Rattle.fab_commit.specs.Serial.{Run, Standing, judged_here, step, from}
use Rattle.fab_commit.specs.declared.run.swaps.Accepted.{Accepted}
use Rattle.fab_commit.specs.Model.World.{accepted_now, clash}

-- the next move with its swap, if it is accepted
abbrev pub accepted_at : Run → Standing → List Accepted
accepted_at p x = if is_some x.heat then accepted_now x.done (judged_here p x x.done) else []

-- the accepted moves among the next n, each with its swap
abbrev pub accepted_from : Run → Standing → ℕ → List Accepted
accepted_from p x zero = []
accepted_from p x (suc n) = accepted_at p x ++ accepted_from p (step p x) n

-- move k was judged on the placement after `base` moves, and an accepted move has touched its footprint since
abbrev pub is_redone : Run → Standing → ℕ → ℕ → Bool
is_redone p x base k =
    clash p.problem.design (accepted_from p x (k - x.done)) base (judged_here p (from p x (base - x.done)) k).footprint
