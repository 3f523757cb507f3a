-- A user's annealing schedule (VPR manual). The temperature falls from stage to stage, and each stage has the same number of
-- moves. After each stage the range of a move shrinks or grows, so that about 44 % of the moves are accepted (Betz, Rose and
-- Marquardt). All are whole numbers, rounded down: temperatures in ten-thousandths, factors and ranges in thousandths (our
-- own). A temperature below the exit temperature is not run. One last stage at 0, the frozen stage, takes its place.
use Rattle.std.specs.Prelude.{ℕ, ◌≡◌, ◌+◌, ◌-◌, ◌*◌, ◌/◌, ◌<◌, ◌≤◌, ◌⊎◌, zero, suc, min, max, Bool, true, if◌then◌else◌, nat_lt, nat_le, ◌==◌, ◌&&◌, Option, Some, None, IfSome}
use Rattle.fab_sched.specs.declared.fault.SchedFault.{SchedFault}
use Rattle.fab_sched.specs.declared.fault.SchedFault.TheVariants.{InitOutOfRange, ExitOutOfRange, AlphaOutOfRange, MovesOutOfRange}
use Rattle.fab_sched.specs.declared.schedules.Cooling.{Cooling}
use Rattle.fab_sched.specs.declared.schedules.Cooling.TheVariants.{Factor, Adaptive}
use Rattle.fab_sched.specs.declared.schedules.Stage.{Stage}

-- a schedule: its first temperature, the least one that is run, the cooling, and the moves of a stage
pub record Plan : Type 0 where
  pub init : ℕ
  pub exit : ℕ
  pub cooling : Cooling
  pub moves : ℕ

-- a plan of four values
abbrev pub plan_of : ℕ → ℕ → Cooling → ℕ → Plan
plan_of init exit cooling moves = record { init = init; exit = exit; cooling = cooling; moves = moves }

-- a factor is from 1 to 999 thousandths
abbrev pub IsCooling : Cooling → Type 0
IsCooling (Factor f) = (1 ≤ f) × (f ≤ 999)
IsCooling Adaptive = Unit {0}

-- all numbers are within their limits
pub record IsLawful (p : Plan) : Type 0 where
  pub init : (1 ≤ p.init) × (p.init ≤ 1073741824)
  pub exit : (1 ≤ p.exit) × (p.exit ≤ 1073741824)
  pub cooling : IsCooling p.cooling
  pub moves : (1 ≤ p.moves) × (p.moves ≤ 1073741824)

-- n is from 1 to high
abbrev pub is_within : ℕ → ℕ → Bool
is_within high n = nat_le 1 n && nat_le n high

-- a factor is from 1 to 999 thousandths
abbrev pub is_cooling : Cooling → Bool
is_cooling (Factor f) = is_within 999 f
is_cooling Adaptive = true

-- the first of a schedule's numbers that is outside its limits
abbrev pub fault_of : Plan → Option SchedFault
fault_of p =
    if is_within 1073741824 p.init then
    (if is_within 1073741824 p.exit then
    (if is_cooling p.cooling then
    (if is_within 1073741824 p.moves then None else Some MovesOutOfRange)
    else Some AlphaOutOfRange)
    else Some ExitOutOfRange)
    else Some InitOutOfRange

-- t, or 0 (the frozen stage) if t is below the exit temperature
abbrev pub hot : Plan → ℕ → ℕ
hot p t = if nat_lt t p.exit then 0 else t

-- the range after a stage: r · (1 - 0.44 + accepted/moves), from 1 to the array's longer side
unfoldable pub next_range : Plan → ℕ → ℕ → ℕ → ℕ
next_range p side range accepted = max 1000 (min (1000 * side) (range * (560 * p.moves + 1000 * accepted) / (1000 * p.moves)))

-- VPR's factor in thousandths, by the share of accepted moves. If nearly all are accepted, cooling is fast; in between, it is slow. If few
-- are accepted, it is slow while the range is above 1, and fast otherwise
unfoldable pub adaptive_factor : ℕ → ℕ → ℕ → ℕ
adaptive_factor moves range accepted =
    if nat_lt (96 * moves) (100 * accepted) then 500 else
    (if nat_lt (80 * moves) (100 * accepted) then 900 else
    (if nat_lt (15 * moves) (100 * accepted) then 950 else
    (if nat_lt 1000 range then 950 else 800)))

-- the factor at the end of a stage, in thousandths
abbrev pub factor_by : Cooling → ℕ → ℕ → ℕ → ℕ
factor_by (Factor f) moves range accepted = f
factor_by Adaptive moves range accepted = adaptive_factor moves range accepted

-- the factor after a stage with this range and this number of accepted moves
abbrev pub factor_after : Plan → ℕ → ℕ → ℕ
factor_after p range accepted = factor_by p.cooling p.moves range accepted

-- the temperature after a stage, by this factor: none after the frozen one
abbrev pub cooled : Plan → ℕ → Option ℕ → Option ℕ
cooled p f None = None
cooled p f (Some t) = if t == 0 then None else Some (hot p (t * f / 1000))

-- the temperature after a stage at `heat` with this range and this number of accepted moves
abbrev pub next_heat : Plan → ℕ → ℕ → Option ℕ → Option ℕ
next_heat p range accepted heat = cooled p (factor_after p range accepted) heat

-- the temperature of stage x, each stage cooled by this factor: none after the frozen one
abbrev pub heat_by : Plan → ℕ → ℕ → Option ℕ
heat_by p f zero = Some (hot p p.init)
heat_by p f (suc x) = cooled p f (heat_by p f x)

-- the temperature of stage x if the cooling is by a factor; none if it is adaptive
abbrev pub heat_with : Cooling → Plan → ℕ → Option ℕ
heat_with (Factor f) p x = heat_by p f x
heat_with Adaptive p x = None

-- the temperature of stage x, if the schedule alone determines it
abbrev pub heat_at : Plan → ℕ → Option ℕ
heat_at p x = heat_with p.cooling p x

-- a stage at its start
abbrev pub fresh : ℕ → ℕ → ℕ → Stage
fresh index t range = record { index = index; t = t; range = range; done = 0; accepted = 0; frozen = t == 0 }

-- the first stage, with the whole array as range
abbrev pub first_stage : Plan → ℕ → Stage
first_stage p side = fresh 0 (hot p p.init) (1000 * side)

-- a stage before its first move, if it has a temperature
abbrev pub fresh_at : ℕ → ℕ → Option ℕ → Option Stage
fresh_at index range None = None
fresh_at index range (Some t) = Some (fresh index t range)

-- the stage after one with this number of accepted moves
abbrev pub stage_after : Plan → ℕ → Stage → ℕ → Option Stage
stage_after p side s accepted = fresh_at (s.index + 1) (next_range p side s.range accepted) (next_heat p s.range accepted (Some s.t))

-- the temperatures that stage x may have under VPR's factor: stage 0 has the first one; a later stage has any that can be
-- reached by falling at least one unit with each stage, or 0 (the frozen stage)
abbrev pub MayCoolTo : Plan → ℕ → ℕ → Type 0
MayCoolTo p zero t = t ≡ hot p p.init
MayCoolTo p (suc x) t = (p.exit + x ≤ p.init) × ((t ≡ 0) ⊎ ((p.exit ≤ t) × (t + suc x ≤ p.init)))

-- a stage of this index may have temperature t
abbrev pub MayStandBy : Cooling → Plan → ℕ → ℕ → Type 0
MayStandBy (Factor f) p x t = heat_by p f x ≡ Some t
MayStandBy Adaptive p x t = MayCoolTo p x t

-- stage x may be at temperature t. With a factor, each stage has one temperature. If the cooling is adaptive, t is any temperature
-- that can be reached by falling at least one unit with each stage (more temperatures than VPR's factors can reach)
abbrev pub MayStand : Plan → ℕ → ℕ → Type 0
MayStand p x t = MayStandBy p.cooling p x t

-- x is the greatest index of a stage: with a factor, the number of hot temperatures; if adaptive, the greatest number there can be
abbrev pub IsLastBy : Cooling → Plan → ℕ → Type 0
IsLastBy (Factor f) p x = heat_by p f x ≡ Some 0
IsLastBy Adaptive p x = x ≡ (if nat_lt p.init p.exit then 0 else p.init - p.exit + 1)

-- x is the greatest index that a stage of the schedule can have
abbrev pub IsLastIndex : Plan → ℕ → Type 0
IsLastIndex p x = IsLastBy p.cooling p x

-- a stage as a run may have it, perhaps with all its moves made, on an array whose longer side is `side`
pub record IsStage (p : Plan) (side : ℕ) (s : Stage) : Type 0 where
  pub stands : MayStand p s.index s.t
  pub range : (1000 ≤ s.range) × (s.range ≤ 1000 * side)
  pub accepted : s.accepted ≤ s.done
  pub done : s.done ≤ p.moves
  pub frozen : s.frozen ≡ (s.t == 0)

-- the next stage, if any, is one that a run may have, and colder
abbrev pub GoesOnColder : Plan → ℕ → Stage → ℕ → Type 0
GoesOnColder p side s accepted = IfSome (stage_after p side s accepted) (λ next. IsStage p side next × (next.t < s.t))
