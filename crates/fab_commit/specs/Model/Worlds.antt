-- A world as a value of the program, as contracts see it (our own).
use Rattle.std.specs.Prelude.{ℕ, ◌≡◌, ◌<◌, Bool, false, not, if◌then◌else◌, ◌==◌, ◌&&◌, List, [], ◌∷◌, length, Option, Some, None}
use Rattle.std.specs.List.{All, filter}
use Rattle.fab_arch.specs.declared.array.Site.{Site}
use Rattle.fab_arch.specs.Grid.{GridShape, kind_at}
use Rattle.fab_net.specs.declared.netlist_types.BlockId.{BlockId}
use Rattle.fab_net.specs.Netlist.{Netlist}
use Rattle.fab_site.specs.declared.placement_types.Swap.{Swap}
use Rattle.fab_site.specs.Placement.{IsLegal}
use Rattle.fab_sched.specs.Annealing.{Plan, IsLawful}
use Rattle.fab_commit.specs.declared.model.judged.JudgedMove.{JudgedMove}
use Rattle.fab_commit.specs.declared.run.swaps.Accepted.{Accepted}
use Rattle.fab_commit.specs.declared.model.events.Way.{Way}
use Rattle.fab_commit.specs.declared.model.events.Event.{Event}
use Rattle.fab_commit.specs.declared.model.world_state.WorldState.{WorldState}
use Rattle.fab_commit.specs.Serial.{Run, Standing, at_start, from}
use Rattle.fab_commit.specs.Run.Commits.{IsSound, run, standing_of}
use Rattle.fab_move.specs.StampTables.{IsBlock}
use Rattle.fab_commit.specs.Model.World.{World, world, is_last, run_through, ways}

-- a world: what its run is given, its state, and the ways of the moves that were committed, in order
pub record WorldOf (W : Type 0) : Type 0 where
  pub design : Netlist
  pub grid : GridShape
  pub fixed : List (Option Site)
  pub plan : Plan
  pub words : W
  pub world : World
  pub ways : List Way

-- the run of a world; `moves` gives the words that a value of `W` stands for
abbrev pub run_in : {W : Type 0} → (W → ℕ → List ℕ) → WorldOf W → Run
run_in moves w = run w.design w.grid w.fixed (moves w.words) w.plan

-- everything stays the same except the state and the ways
pub record IsSameGiven {W : Type 0} (a b : WorldOf W) : Type 0 where
  pub design : b.design ≡ a.design
  pub grid : b.grid ≡ a.grid
  pub fixed : b.fixed ≡ a.fixed
  pub plan : b.plan ≡ a.plan
  pub words : b.words ≡ a.words

-- some list of events leads here from a first placement that is legal, and its moves were committed in these ways
pub record IsReached (r : Run) (w : World) (told : List Way) : Type 0 where
  pub first : List Site
  pub events : List Event
  pub legal : IsLegal r.problem.design r.problem.grid r.problem.fixed first
  pub here : w ≡ run_through r (world (at_start r first)) events
  pub ways : told ≡ ways r (world (at_start r first)) events

-- the standing is that of moves made one at a time from a legal first placement, and there is one way for each of them
pub record IsSerial (r : Run) (x : Standing) (told : List Way) : Type 0 where
  pub first : List Site
  pub legal : IsLegal r.problem.design r.problem.grid r.problem.fixed first
  pub stands : x ≡ from r (at_start r first) x.done
  pub each : length told ≡ x.done

-- the world of a state of the program
abbrev pub world_of : WorldState → World
world_of s =
    record {
      live = standing_of s.live;
      older = standing_of s.older;
      claims = s.claims.items;
      verdicts = s.verdicts.items;
      accepted = s.accepted.items;
    }

-- the blocks of an accepted swap are the design's
abbrev pub HasBlocks : Netlist → Accepted → Type 0
HasBlocks d a = (a.swap.block.0 < length d.kinds) × IsBlock d a.swap.other

-- a verdict's swap, if any, has both its sites of one kind
abbrev pub KeepsKind : GridShape → JudgedMove → Type 0
KeepsKind g v = (s : Swap) → v.judged.swap ≡ Some s → kind_at g s.to ≡ kind_at g s.from

-- the parts of the state fit together
pub record IsWhole (r : Run) (s : WorldState) : Type 0 where
  pub plan : IsLawful r.plan
  pub live : IsSound r s.live
  pub older : IsSound r s.older
  pub blocks : All (HasBlocks r.problem.design) s.accepted.items
  pub kinds : All (KeepsKind r.problem.grid) s.verdicts.items

-- the verdicts without the worker's verdict with the greatest number
abbrev pub without_last : ℕ → List JudgedMove → List JudgedMove
without_last worker verdicts = filter (λ (v : JudgedMove). not (v.worker == worker && is_last worker verdicts v.number)) verdicts

-- the greatest number of the worker's verdicts in `all`, if the verdict of that number is in the second list, a part of `all`
abbrev pub last_among : ℕ → List JudgedMove → List JudgedMove → Option ℕ
last_among worker all [] = None
last_among worker all (v ∷ rest) =
    if v.worker == worker && is_last worker all v.number then Some v.number else last_among worker all rest

-- it is this number
abbrev pub is_number : Option ℕ → ℕ → Bool
is_number None n = false
is_number (Some m) n = n == m

-- the verdicts without the worker's last one
abbrev pub without_verdict : ℕ → Option ℕ → List JudgedMove → List JudgedMove
without_verdict worker last verdicts = filter (λ (v : JudgedMove). not (v.worker == worker && is_number last v.number)) verdicts
