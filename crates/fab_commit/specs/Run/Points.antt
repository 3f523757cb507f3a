-- A snapshot of a run before one of its moves, from which a later run goes on (our own).
use Rattle.std.specs.Prelude.{ℕ, ◌≡◌, ◌+◌, ◌*◌, ◌<◌, ◌≤◌, max, List, [], Some}
use Rattle.fab_arch.specs.Grid.{GridShape}
use Rattle.fab_net.specs.Netlist.{Netlist}
use Rattle.fab_site.specs.Placement.{IsLegal, fixed_at}
use Rattle.fab_sched.specs.Annealing.{IsStage}
use Rattle.fab_commit.specs.declared.run.point.Point.{Point}
use Rattle.fab_commit.specs.Serial.{IsStanding, Standing, stage_at}
use Rattle.fab_commit.specs.Run.Commits.{AnnealOf, run_of, standing_in}

-- how many moves are made at a point: those of the stages before, and those of the running stage
abbrev pub done_at : Point → ℕ
done_at p = p.stage.index * p.schedule.moves + p.stage.done

-- the standing of a point
abbrev pub standing_at : Point → Standing
standing_at p = standing_in p.schedule p.stage p.placement.sites p.total

-- a run of this design on this array can have the standing of the point, with moves left in the stage
pub record IsPoint (d : Netlist) (g : GridShape) (p : Point) : Type 0 where
  pub array : p.placement.grid ≡ g
  pub legal : IsLegal d g p.fixed p.placement.sites
  pub stage : IsStage p.schedule (max g.nx g.ny) p.stage
  pub left : p.stage.done < p.schedule.moves
  pub counted : (p.stage.accepted ≤ p.total) × (p.total ≤ done_at p)

-- the point holds the annealer's standing, its schedule, and which blocks are fixed at which sites
pub record TellsPoint {W : Type 0} (a : AnnealOf W) (p : Point) : Type 0 where
  pub schedule : p.schedule ≡ a.plan
  pub stage : Some p.stage ≡ stage_at a.plan a.standing a.standing.heat
  pub total : p.total ≡ a.standing.total
  pub fixed : (b : ℕ) → fixed_at p.fixed b ≡ fixed_at a.fixed b
  pub array : p.placement.grid ≡ a.grid
  pub sites : p.placement.sites ≡ a.standing.sites

-- the annealer that goes on from a point: no move is accepted or redone yet, and nothing is judged ahead
abbrev pub going_on : {W : Type 0} → Netlist → GridShape → Point → W → AnnealOf W
going_on d g p words =
    record {
      design = d;
      grid = g;
      fixed = p.fixed;
      plan = p.schedule;
      words = words;
      standing = standing_at p;
      ahead = [];
      swaps = [];
      accepted = [];
      redone = 0;
    }

-- the annealer that goes on from a point holds that point again, and its standing is one that its run can have
abbrev pub PointsAreToldAgain : {W : Type 0} → (W → ℕ → List ℕ) → Type 0
PointsAreToldAgain {W} moves =
    (d : Netlist) (g : GridShape) (p : Point) (words : W) → IsPoint d g p →
    let a = going_on d g p words in TellsPoint a p × IsStanding (run_of moves a) a.standing
