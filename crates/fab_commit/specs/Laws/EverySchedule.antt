-- Whatever the events and their order, the live standing is that of moves made one at a time (our own).
use Rattle.std.specs.Prelude.{◌≡◌, ◌+◌, ◌<◌, List, length, Some}
use Rattle.fab_commit.specs.declared.model.events.Event.{Event}
use Rattle.fab_commit.specs.Serial.{Run, Standing, judged_here, from}
use Rattle.fab_commit.specs.declared.model.judged.JudgedMove.{JudgedMove}
use Rattle.fab_commit.specs.Model.World.{World, world, run_through, ways, usable, verdict_here}

-- the verdict that a commit would take here is the judgement of the next move on the live placement. The law below holds for every list of
-- events, so it holds at each commit of a list: take the events before that commit
abbrev pub TakesTheMove : Run → World → Type 0
TakesTheMove p w = (v : JudgedMove) → usable p w (verdict_here w) ≡ Some v → v.judged ≡ judged_here p w.live w.live.done

-- from a standing with nothing claimed or judged
abbrev pub EveryScheduleIsSerial : Type 0
EveryScheduleIsSerial =
    (p : Run) (x : Standing) (events : List Event) → 0 < p.plan.moves →
    let now = run_through p (world x) events in
    (now.live ≡ from p x (length (ways p (world x) events)))
    × (now.live.done ≡ x.done + length (ways p (world x) events))
    × TakesTheMove p now
