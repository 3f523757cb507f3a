-- Moves that are judged ahead on an older placement, by any number of workers, in any order (that moves whose sets do not
-- interact may be made in any order is after Kravitz and Rutenbar; the rest our own).
use Rattle.std.specs.Prelude.{ℕ, ◌+◌, ◌-◌, ◌*◌, ◌/◌, Bool, true, false, not, if◌then◌else◌, nat_lt, nat_le, ◌&&◌, ◌||◌, ◌==◌, List, [], ◌∷◌, ◌++◌, Option, Some, None}
use Rattle.std.specs.List.{list_any, filter, range_with_len}
use Rattle.fab_net.specs.Netlist.{Netlist}
use Rattle.fab_site.specs.declared.placement_types.Swap.{Swap}
use Rattle.fab_move.specs.declared.marks.Mark.{Mark}
use Rattle.fab_move.specs.Judge.{Judged, meet, touched}
use Rattle.fab_commit.specs.declared.model.judged.Claimed.{Claimed}
use Rattle.fab_commit.specs.declared.model.judged.JudgedMove.{JudgedMove}
use Rattle.fab_commit.specs.declared.run.swaps.Accepted.{Accepted}
use Rattle.fab_commit.specs.declared.model.events.Way.{Way}
use Rattle.fab_commit.specs.declared.model.events.Way.TheVariants.{Taken, Redone, Late}
use Rattle.fab_commit.specs.declared.model.events.Event.{Event}
use Rattle.fab_commit.specs.declared.model.events.Event.TheVariants.{Claim, Judge, Lose, Commit, Refresh}
use Rattle.fab_commit.specs.Serial.{Run, Standing, after_move, judged_here}

-- the live placement, on which moves are committed, and the older one, on which workers judge; what is claimed and not judged yet, what is
-- judged and not committed yet, and accepted swaps, in order
pub record World : Type 0 where
  pub live : Standing
  pub older : Standing
  pub claims : List Claimed
  pub verdicts : List JudgedMove
  pub accepted : List Accepted

-- nothing is claimed or judged yet
abbrev pub world : Standing → World
world x = record { live = x; older = x; claims = []; verdicts = []; accepted = [] }

-- the number after the last move of the stage in which move `n` is; `n` itself once the run is over
abbrev pub stage_end_at : Run → ℕ → Option ℕ → ℕ
stage_end_at p n None = n
stage_end_at p n (Some t) = (n / p.plan.moves + 1) * p.plan.moves

-- the number after the last move of the running stage; once the run is over, the number of moves made
abbrev pub stage_end : Run → Standing → ℕ
stage_end p x = stage_end_at p x.done x.heat

-- no move with this number or a greater one is claimed or committed before the older placement is refreshed
abbrev pub end : Run → World → ℕ
end p w = stage_end p w.older

-- a swap accepted by move `base` or a later one touched one of the marks
abbrev pub clash : Netlist → List Accepted → ℕ → List Mark → Bool
clash d log base marks = list_any (λ (a : Accepted). nat_le base a.number && meet (touched d a.swap) marks) log

-- a worker has claimed the move
abbrev pub is_claimed : ℕ → List Claimed → Bool
is_claimed k claims = list_any (λ (c : Claimed). k == c.number) claims

-- the move that the worker has claimed, if there is one
abbrev pub claim_of : ℕ → List Claimed → Option ℕ
claim_of worker [] = None
claim_of worker (c ∷ rest) = if c.worker == worker then Some c.number else claim_of worker rest

-- the first verdict of the move, if there is one
abbrev pub verdict_for : ℕ → List JudgedMove → Option JudgedMove
verdict_for k [] = None
verdict_for k (v ∷ rest) = if v.number == k then Some v else verdict_for k rest

-- there is a verdict of the move
abbrev pub is_judged : ℕ → List JudgedMove → Bool
is_judged k verdicts = list_any (λ (v : JudgedMove). k == v.number) verdicts

-- the claims of the other workers
abbrev pub without_worker : ℕ → List Claimed → List Claimed
without_worker worker claims = filter (λ (c : Claimed). not (c.worker == worker)) claims

-- the verdicts of the other moves
abbrev pub without_number : ℕ → List JudgedMove → List JudgedMove
without_number k verdicts = filter (λ (v : JudgedMove). not (v.number == k)) verdicts

-- the first of these numbers with no claim and no verdict
abbrev pub first_free : List Claimed → List JudgedMove → List ℕ → Option ℕ
first_free claims verdicts [] = None
first_free claims verdicts (k ∷ rest) =
    if is_claimed k claims || is_judged k verdicts then first_free claims verdicts rest else Some k

-- the moves that may be claimed, if nobody has claimed or judged them yet
abbrev pub open_numbers : Run → World → List ℕ
open_numbers p w = range_with_len w.live.done (end p w - w.live.done)

-- the worker claims the move, if there is one
abbrev pub claimed : World → ℕ → Option ℕ → World
claimed w worker None = w
claimed w worker (Some k) = record w { claims = w.claims ++ record { worker = worker; number = k } ∷ [] }

-- a worker without a claim claims the first number that is free
abbrev pub claimed_by : Run → World → ℕ → Option ℕ → World
claimed_by p w worker None = claimed w worker (first_free w.claims w.verdicts (open_numbers p w))
claimed_by p w worker (Some k) = w

-- the worker's verdict of a move: its judgement on the older placement
abbrev pub verdict : Run → World → ℕ → ℕ → JudgedMove
verdict p w worker k =
    record { worker = worker; number = k; base = w.older.done; judged = judged_here p w.older k }

-- the worker's claim is dropped; its move is judged, unless it is made already
abbrev pub judged_claim : Run → World → ℕ → Option ℕ → World
judged_claim p w worker None = w
judged_claim p w worker (Some k) =
    record {
      live = w.live;
      older = w.older;
      claims = without_worker worker w.claims;
      verdicts = if nat_lt k w.live.done then w.verdicts else w.verdicts ++ verdict p w worker k ∷ [];
      accepted = w.accepted;
    }

-- no verdict of the worker has a greater number
abbrev pub is_last : ℕ → List JudgedMove → ℕ → Bool
is_last worker verdicts k = not (list_any (λ (v : JudgedMove). v.worker == worker && nat_lt k v.number) verdicts)

-- the worker's verdict with the greatest number is lost
abbrev pub lost_verdict : World → ℕ → World
lost_verdict w worker = record w { verdicts = filter (λ (v : JudgedMove). not (v.worker == worker && is_last worker w.verdicts v.number)) w.verdicts }

-- the worker gives its claim up, or, if it has none, its last verdict
abbrev pub lost : World → ℕ → Option ℕ → World
lost w worker None = lost_verdict w worker
lost w worker (Some k) = record w { claims = without_worker worker w.claims }

-- the verdict, if no swap accepted since its base touched its footprint; otherwise none, and the move is redone
abbrev pub usable : Run → World → Option JudgedMove → Option JudgedMove
usable p w None = None
usable p w (Some v) = if clash p.problem.design w.accepted v.base v.judged.footprint then None else Some v

-- the verdict of the next move, if there is one
abbrev pub verdict_here : World → Option JudgedMove
verdict_here w = verdict_for w.live.done w.verdicts

-- the judgement of the verdict, if there is one; otherwise that of the next move on the live placement
abbrev pub answer : Run → World → Option JudgedMove → Judged
answer p w None = judged_here p w.live w.live.done
answer p w (Some v) = v.judged

-- the swap, if there is one, as accepted by the move
abbrev pub accepted_as : ℕ → Option Swap → List Accepted
accepted_as k None = []
accepted_as k (Some s) = record { number = k; swap = s } ∷ []

-- what the move adds to the accepted swaps
abbrev pub accepted_now : ℕ → Judged → List Accepted
accepted_now k j = if j.accepted then accepted_as k j.swap else []

-- the next move is made as it was judged, and its verdicts are dropped
abbrev pub committed : Run → World → Judged → World
committed p w j =
    record {
      live = after_move p w.live j;
      older = w.older;
      claims = w.claims;
      verdicts = without_number w.live.done w.verdicts;
      accepted = w.accepted ++ accepted_now w.live.done j;
    }

-- the next move can be committed
abbrev pub can_commit : Run → World → Bool
can_commit p w = nat_lt w.live.done (end p w)

-- the next move is made: by its verdict, if that is usable, and else judged on the live placement
abbrev pub commit : Run → World → World
commit p w = committed p w (answer p w (usable p w (verdict_here w)))

-- what an event does; one that does not apply changes nothing. A claim goes to a worker without one; a judgement uses the older
-- placement; a commit makes the next move, if it is before the end of the stage; a refresh makes the older placement the live one
abbrev pub happens : Run → World → Event → World
happens p w (Claim worker) =
    claimed_by p w worker (claim_of worker w.claims)
happens p w (Judge worker) = judged_claim p w worker (claim_of worker w.claims)
happens p w (Lose worker) = lost w worker (claim_of worker w.claims)
happens p w Commit = if can_commit p w then commit p w else w
happens p w Refresh = record w { older = w.live }

-- the events happen in order
abbrev pub run_through : Run → World → List Event → World
run_through p w [] = w
run_through p w (e ∷ events) = run_through p (happens p w e) events

-- how a commit got its answer: the first argument is the verdict of the move, if there was one, the second the same if it was usable
abbrev pub way_of : Option JudgedMove → Option JudgedMove → Way
way_of found (Some v) = Taken
way_of None None = Late
way_of (Some v) None = Redone

-- the way of the move that the event commits, if it commits one
abbrev pub ways_now : Run → World → Event → List Way
ways_now p w Commit = if can_commit p w then way_of (verdict_here w) (usable p w (verdict_here w)) ∷ [] else []
ways_now p w _ = []

-- the ways of the moves that the events commit, in order
abbrev pub ways : Run → World → List Event → List Way
ways p w [] = []
ways p w (e ∷ events) = ways_now p w e ++ ways p (happens p w e) events

-- the move was redone
abbrev pub is_redone_way : Way → Bool
is_redone_way Taken = false
is_redone_way Redone = true
is_redone_way Late = false
