-- What an annealer keeps, as contracts see it (our own).
use Rattle.std.specs.Prelude.{ℕ, ◌≡◌, ◌+◌, ◌*◌, ◌<◌, ◌≤◌, Bool, true, false, if◌then◌else◌, ◌==◌, List, [], Option, Some, None}
use Rattle.fab_arch.specs.declared.array.Site.{Site}
use Rattle.fab_arch.specs.Grid.{GridShape}
use Rattle.fab_net.specs.Netlist.{Netlist}
use Rattle.fab_site.specs.Placement.{IsLegal}
use Rattle.fab_cost.specs.Swapping.{CountedStandsFor}
use Rattle.fab_sched.specs.declared.schedules.Stage.{Stage}
use Rattle.fab_sched.specs.Annealing.{Plan, IsStage, MayStand, next_heat, next_range}
use Rattle.fab_move.specs.Judge.{problem}
use Rattle.fab_commit.specs.declared.run.turn.Turn.{Turn}
use Rattle.fab_commit.specs.declared.run.turn.Turn.TheVariants.{More, Finished}
use Rattle.fab_commit.specs.declared.run.state.Given.{Given}
use Rattle.fab_commit.specs.declared.run.state.State.{State}
use Rattle.fab_commit.specs.declared.run.swaps.Accepted.{Accepted}
use Rattle.fab_commit.specs.declared.model.judged.JudgedMove.{JudgedMove}
use Rattle.fab_commit.specs.Serial.{Run, Standing, one_if, side}
use Rattle.fab_commit.specs.Model.World.{World}

-- a run of a design on an array, with fixed sites, words and a plan
abbrev pub run : Netlist → GridShape → List (Option Site) → (ℕ → List ℕ) → Plan → Run
run d g fixed words plan = record { problem = problem d g fixed words; plan = plan }

-- the run of what was given; `moves` gives the words that a value of `W` stands for
abbrev pub run_for : {W : Type 0} → (W → ℕ → List ℕ) → Given W → Run
run_for moves g = run g.design.now g.grid.now g.fixed (moves g.words) g.schedule

-- an annealer: what its run is given, its standing, the verdicts judged ahead, the swaps that its last turn accepted, the numbers of the
-- moves that it accepted since it began, and how many of its moves it has counted as redone
pub record AnnealOf (W : Type 0) : Type 0 where
  pub design : Netlist
  pub grid : GridShape
  pub fixed : List (Option Site)
  pub plan : Plan
  pub words : W
  pub standing : Standing
  pub ahead : List JudgedMove
  pub swaps : List Accepted
  pub accepted : List ℕ
  pub redone : ℕ

-- an annealer between turns, as a world: both placements are at its standing, and nothing is claimed
abbrev pub world_of : {W : Type 0} → AnnealOf W → World
world_of a = record { live = a.standing; older = a.standing; claims = []; verdicts = a.ahead; accepted = a.swaps }

-- the run of an annealer; `moves` gives the words that a value of `W` stands for
abbrev pub run_of : {W : Type 0} → (W → ℕ → List ℕ) → AnnealOf W → Run
run_of moves a = run a.design a.grid a.fixed (moves a.words) a.plan

-- what the run is given stays the same
pub record IsSameRun {W : Type 0} (a b : AnnealOf W) : Type 0 where
  pub design : b.design ≡ a.design
  pub grid : b.grid ≡ a.grid
  pub fixed : b.fixed ≡ a.fixed
  pub plan : b.plan ≡ a.plan
  pub words : b.words ≡ a.words

-- what a turn returns, by the temperature after it
abbrev pub turn_of : Option ℕ → Turn
turn_of None = Finished
turn_of (Some t) = More

-- no temperature once the run is over
abbrev pub heat_of : Bool → ℕ → Option ℕ
heat_of ended t = if ended then None else Some t

-- the standing of an annealer's state
abbrev pub standing_of : State → Standing
standing_of s =
    record {
      done = s.done;
      sites = s.placement.sites;
      accepted = s.stage.accepted;
      range = s.stage.range;
      heat = heat_of s.ended s.stage.t;
      total = s.total;
    }

-- the standing of a run within a stage, with `total` moves accepted in all
abbrev pub standing_in : Plan → Stage → List Site → ℕ → Standing
standing_in p stage sites total =
    record {
      done = stage.index * p.moves + stage.done;
      sites = sites;
      accepted = stage.accepted;
      range = stage.range;
      heat = Some stage.t;
      total = total;
    }

-- the stage can be one of the run, with moves left. After the last move it is an empty stage after the frozen one, and its temperature is
-- never read
abbrev pub StageStands : Plan → ℕ → Bool → Stage → Type 0
StageStands p side false s = IsStage p side s × (s.done < p.moves)
StageStands p side true s =
    (1000 ≤ s.range) × (s.range ≤ 1000 * side) × (s.done ≡ 0) × (s.accepted ≡ 0) × ((x : ℕ) × (s.index ≡ x + 1) × MayStand p x 0)

-- the stage after one more of its moves: the parts of the standing after it, by the stage's own counts
pub record IsAdvanced (p : Plan) (side : ℕ) (s : Stage) (yes : Bool) (next : Stage) (ended : Bool) : Type 0 where
  pub accepted : next.accepted ≡ (if s.done + 1 == p.moves then 0 else s.accepted + one_if yes)
  pub range : next.range ≡ (if s.done + 1 == p.moves then next_range p side s.range (s.accepted + one_if yes) else s.range)
  pub heat : heat_of ended next.t ≡ (if s.done + 1 == p.moves then next_heat p s.range (s.accepted + one_if yes) (Some s.t) else Some s.t)
  pub place : next.index * p.moves + next.done ≡ s.index * p.moves + s.done + 1
  pub stands : StageStands p side ended next

-- the parts of the state fit together: the placement is legal, the wire cost is that of the placement, and the stage is that of the
-- moves made
pub record IsSound (r : Run) (s : State) : Type 0 where
  pub legal : IsLegal r.problem.design r.problem.grid r.problem.fixed s.placement.sites
  pub array : s.placement.grid ≡ r.problem.grid
  pub cost : CountedStandsFor s.cost r.problem.design r.problem.grid s.placement.sites
  pub place : s.done ≡ s.stage.index * r.plan.moves + s.stage.done
  pub counted : (s.stage.accepted ≤ s.total) × (s.total ≤ s.done)
  pub stage : StageStands r.plan (side r) s.ended s.stage
