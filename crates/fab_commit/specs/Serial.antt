-- Annealing one move at a time (Betz, Rose and Marquardt; VPR manual's user schedule, or VPR's cooling by acceptance): a fold over
-- standings, without stored bounding boxes, batches or workers. Each change of cost is the difference of two whole sums over all nets
-- that are not global.
use Rattle.std.specs.Prelude.{ℕ, ◌≡◌, zero, suc, ◌+◌, ◌-◌, ◌*◌, ◌/◌, ◌%◌, ◌≤◌, max, Bool, if◌then◌else◌, ◌==◌, List, [], ◌∷◌, ◌++◌, Option, Some, None, is_some, refl}
use Rattle.fab_arch.specs.declared.array.Site.{Site}
use Rattle.fab_site.specs.Placement.{IsLegal}
use Rattle.fab_move.specs.Judge.{Problem, Judged, judged, moved}
use Rattle.fab_sched.specs.declared.schedules.Stage.{Stage}
use Rattle.fab_sched.specs.Annealing.{Plan, MayStand, hot, next_heat, next_range}

-- what a run is given in addition to its first placement
pub record Run : Type 0 where
  pub problem : Problem
  pub plan : Plan

-- the longer side of the array
abbrev pub side : Run → ℕ
side r = max r.problem.grid.nx r.problem.grid.ny

-- the state of a run
pub record Standing : Type 0 where
  pub done : ℕ  -- moves made
  pub sites : List Site  -- of each block
  pub accepted : ℕ  -- moves accepted in the running stage
  pub range : ℕ  -- of the running stage, in thousandths
  pub heat : Option ℕ  -- the running stage's temperature, in ten-thousandths; none after the last move
  pub total : ℕ  -- moves accepted in all

-- before the first move
abbrev pub at_start : Run → List Site → Standing
at_start r sites =
    record {
      done = 0;
      sites = sites;
      accepted = 0;
      range = 1000 * side r;
      heat = Some (hot r.plan r.plan.init);
      total = 0;
    }

-- 1 if true, else 0
abbrev pub one_if : Bool → ℕ
one_if b = if b then 1 else 0

-- one more move is made, with this judgement; at the end of a stage the next begins, if there is one
abbrev pub after_move : Run → Standing → Judged → Standing
after_move r x j =
    let over = (x.done + 1) % r.plan.moves == 0 in
    let accepted = x.accepted + one_if j.accepted in
    record {
      done = x.done + 1;
      sites = moved x.sites j;
      accepted = if over then 0 else accepted;
      range = if over then next_range r.plan (side r) x.range accepted else x.range;
      heat = if over then next_heat r.plan x.range accepted x.heat else x.heat;
      total = x.total + one_if j.accepted;
    }

-- the temperature, or 0 once the run is over
abbrev pub or_zero : Option ℕ → ℕ
or_zero None = 0
or_zero (Some t) = t

-- the judgement of move k of the running stage on the current placement
abbrev pub judged_here : Run → Standing → ℕ → Judged
judged_here r x k = judged r.problem x.sites k (or_zero x.heat) x.range

-- the next move is made; nothing changes after the last one
abbrev pub step : Run → Standing → Standing
step r x = if is_some x.heat then after_move r x (judged_here r x x.done) else x

-- the standing after n moves, one at a time, or after the last one if fewer are left
abbrev pub from : Run → Standing → ℕ → Standing
from r x zero = x
from r x (suc n) = from r (step r x) n

-- the move's number, if it is accepted
abbrev pub numbers_if : ℕ → Bool → List ℕ
numbers_if k b = if b then k ∷ [] else []

-- the number of the next move, if it is accepted
abbrev pub accepted_here : Run → Standing → List ℕ
accepted_here r x = if is_some x.heat then numbers_if x.done (judged_here r x x.done).accepted else []

-- the numbers of the moves accepted among the next n, in order
abbrev pub accepted_among : Run → Standing → ℕ → List ℕ
accepted_among r x zero = []
accepted_among r x (suc n) = accepted_here r x ++ accepted_among r (step r x) n

-- how many of a stage's moves are left after n moves of the run; 0 if the run is over
abbrev pub left_at : ℕ → ℕ → Option ℕ → ℕ
left_at moves n None = 0
left_at moves n (Some t) = moves - n % moves

-- how many moves the running stage still has
abbrev pub moves_left : Run → Standing → ℕ
moves_left r x = left_at r.plan.moves x.done x.heat

-- the schedule can have this temperature after n moves; it has none only if a frozen stage has just ended
abbrev pub HeatStands : Plan → ℕ → Option ℕ → Type 0
HeatStands p n (Some t) = MayStand p (n / p.moves) t
HeatStands p n None = (x : ℕ) × (n ≡ (x + 1) * p.moves) × MayStand p x 0

-- a standing that fits the run: a legal placement, a lawful range and temperature, and no more moves accepted than made, in the stage
-- and in all
pub record IsStanding (r : Run) (x : Standing) : Type 0 where
  pub legal : IsLegal r.problem.design r.problem.grid r.problem.fixed x.sites
  pub range : (1000 ≤ x.range) × (x.range ≤ 1000 * side r)
  pub accepted : x.accepted ≤ x.done % r.plan.moves
  pub total : (x.accepted ≤ x.total) × (x.total ≤ x.done)
  pub heat : HeatStands r.plan x.done x.heat

-- the running stage at this temperature; none once the run is over
abbrev pub stage_at : Plan → Standing → Option ℕ → Option Stage
stage_at p x None = None
stage_at p x (Some t) =
    Some (record {
      index = x.done / p.moves;
      t = t;
      range = x.range;
      done = x.done % p.moves;
      accepted = x.accepted;
      frozen = t == 0;
    })

-- the running stage; none after the last move
abbrev pub stage_of : Run → Standing → Option Stage
stage_of r x = stage_at r.plan x x.heat

pub one_of_three_left : left_at 3 5 (Some 0) ≡ 1
one_of_three_left = refl

pub a_whole_stage_left : left_at 3 6 (Some 0) ≡ 3
a_whole_stage_left = refl

pub nothing_left : left_at 3 6 None ≡ 0
nothing_left = refl
