-- The text of a point, as it is written (our own), in the second version: each line ends with a line feed, one space separates words, and
-- blocks are in order of number.
use Rattle.std.specs.Prelude.{ℕ, ◌≡◌, ◌<◌, ◌^◌, false, List, [], ◌∷◌, ◌++◌, length, map, filter, is_some, codes, decimal, slice_index_or, Option, Some, refl}
use Rattle.std.specs.Fmt.{digits}
use Rattle.std.specs.List.{flat_map, range_with_len}
use Rattle.fab_arch.specs.declared.array.Site.{Site}
use Rattle.fab_arch.specs.Grid.{AreLimits, GridShape, shape, Holds}
use Rattle.fab_text.specs.Lines.{lines}
use Rattle.fab_text.specs.Failures.{grown}
use Rattle.fab_net.specs.declared.netlist_types.BlockKind.TheVariants.{InputPad, OutputPad, Logic}
use Rattle.fab_net.specs.Netlist.{Netlist, IsLawful, logic_count, pad_count}
use Rattle.fab_site.specs.Placement.{fixed_at, site_of, site}
use Rattle.fab_sched.specs.declared.schedules.Cooling.{Cooling}
use Rattle.fab_sched.specs.declared.schedules.Cooling.TheVariants.{Factor, Adaptive}
use Rattle.fab_sched.specs.declared.schedules.Stage.{Stage}
use Rattle.fab_sched.specs.Annealing.{IsLawful as IsLawfulPlan, Plan, plan_of}
use Rattle.fab_file.specs.Written.{ended}
use Rattle.fab_commit.specs.declared.run.point.Point.{Point}
use Rattle.fab_commit.specs.Run.Points.{IsPoint}
use Rattle.fab_run.specs.declared.point_fault.PointFault.{PointFault}
use Rattle.fab_run.specs.declared.point_fault.PointFault.TheVariants.{Write}
use Rattle.fab_run.specs.PointMeaning.{StandsForPoint}

-- `NAME N`
abbrev pub field_text : List ℕ → ℕ → List ℕ
field_text name n = name ++ codes " " ++ decimal n

-- `array NX x NY io_rat R`
abbrev pub array_text : GridShape → List ℕ
array_text g = codes "array " ++ decimal g.nx ++ codes " x " ++ decimal g.ny ++ codes " io_rat " ++ decimal g.io_rat

-- a factor in thousandths, or `adaptive`
abbrev pub cooling_text : Cooling → List ℕ
cooling_text (Factor f) = decimal f
cooling_text Adaptive = codes "adaptive"

-- `schedule INIT EXIT COOLING MOVES`
abbrev pub schedule_text : Plan → List ℕ
schedule_text p = codes "schedule " ++ decimal p.init ++ codes " " ++ decimal p.exit ++ codes " " ++ cooling_text p.cooling ++ codes " " ++ decimal p.moves

-- `stage I done N accepted A`
abbrev pub stage_text : Stage → List ℕ
stage_text s = codes "stage " ++ decimal s.index ++ codes " done " ++ decimal s.done ++ codes " accepted " ++ decimal s.accepted

-- the name of block b
abbrev pub name_of : Netlist → ℕ → List ℕ
name_of d b = slice_index_or d.names b []

-- `NAME fixed`
abbrev pub fixed_line : Netlist → ℕ → List ℕ
fixed_line d b = name_of d b ++ codes " fixed"

-- `NAME x y sub`
abbrev pub seat_text : List ℕ → Site → List ℕ
seat_text name s = name ++ codes " " ++ decimal s.x ++ codes " " ++ decimal s.y ++ codes " " ++ decimal s.sub

-- the line of block b with its site
abbrev pub place_line : Netlist → List Site → ℕ → List ℕ
place_line d sites b = seat_text (name_of d b) (site_of sites b)

-- the numbers of all blocks
abbrev pub blocks_of : Netlist → List ℕ
blocks_of d = range_with_len 0 (length d.kinds)

-- the numbers of the fixed blocks, ascending
abbrev pub fixed_blocks : Netlist → List (Option Site) → List ℕ
fixed_blocks d fixed = filter (λ b. is_some (fixed_at fixed b)) (blocks_of d)

-- the version, the seed, the array and the schedule
abbrev pub head_lines : ℕ → GridShape → Plan → List (List ℕ)
head_lines seed g p = codes "vplace point 2" ∷ field_text (codes "seed") seed ∷ array_text g ∷ schedule_text p ∷ []

-- the running stage, and how many moves were accepted in all
abbrev pub stage_lines : Stage → ℕ → List (List ℕ)
stage_lines s total = stage_text s ∷ field_text (codes "temperature") s.t ∷ field_text (codes "range") s.range ∷ field_text (codes "total") total ∷ []

-- the number of fixed blocks and a line for each; below, the same for the sites of all blocks
abbrev pub fixed_lines : Netlist → List (Option Site) → List (List ℕ)
fixed_lines d fixed = field_text (codes "fixed") (length (fixed_blocks d fixed)) ∷ map (fixed_line d) (fixed_blocks d fixed)

-- how many places come, and a line for each block
abbrev pub place_lines : Netlist → List Site → List (List ℕ)
place_lines d sites = field_text (codes "places") (length d.kinds) ∷ map (place_line d sites) (blocks_of d)

-- the text of a point of a run with this seed, of a design on an array
abbrev pub point_text : ℕ → Netlist → GridShape → Point → List ℕ
point_text seed d g p =
    flat_map ended (head_lines seed g p.schedule) ++ flat_map ended (stage_lines p.stage p.total) ++ flat_map ended (fixed_lines d p.fixed) ++ flat_map ended (place_lines d p.placement.sites) ++ codes "end\n"

-- a point of a run of the design on an array that holds it
pub record IsWritable (d : Netlist) (g : GridShape) (p : Point) : Type 0 where
  pub holds : Holds g (logic_count d) (pad_count d)
  pub point : IsPoint d g p

-- how often a writer has failed, after a point was not written because of this fault: once more only if the fault says so
abbrev pub failed_with : PointFault → ℕ → ℕ
failed_with Write n = grown n
failed_with e n = n

-- the text of a point stands for its seed, its array and the point
abbrev pub PointsReadBack : Type 0
PointsReadBack = (seed : ℕ) (d : Netlist) (g : GridShape) (p : Point) → seed < 2 ^ 64 → IsLawful d → AreLimits g.nx g.ny g.io_rat → IsLawfulPlan p.schedule → IsWritable d g p
    → StandsForPoint g.io_rat d (lines (point_text seed d g p)) seed g p

abbrev two_pads_and_a_block : Netlist
two_pads_and_a_block = record {
  kinds = InputPad ∷ OutputPad ∷ Logic ∷ [];
  names = codes "a" ∷ codes "z" ∷ codes "b" ∷ [];
  terminals = [];
  globals = [];
}

abbrev in_the_second_stage : Point
in_the_second_stage = record {
  schedule = plan_of 100000 10000 (Factor 500) 3;
  stage = record { index = 1; t = 50000; range = 1000; done = 2; accepted = 0; frozen = false };
  total = 0;
  fixed = Some (site 0 1 0) ∷ Some (site 2 1 0) ∷ [];
  placement = record { grid = shape 1 1 1; sites = site 0 1 0 ∷ site 2 1 0 ∷ site 1 1 0 ∷ [] };
}

pub a_point_after_five_moves : point_text 1 two_pads_and_a_block (shape 1 1 1) in_the_second_stage
    ≡ codes "vplace point 2\nseed 1\narray 1 x 1 io_rat 1\nschedule 100000 10000 500 3\nstage 1 done 2 accepted 0\ntemperature 50000\nrange 1000\ntotal 0\nfixed 2\na fixed\nz fixed\nplaces 3\na 0 1 0\nz 2 1 0\nb 1 1 0\nend\n"
unfolding digits
a_point_after_five_moves = refl
