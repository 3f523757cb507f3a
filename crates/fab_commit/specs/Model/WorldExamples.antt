-- Examples of what may happen to two moves of a frozen stage: two blocks without a common net are on 2 x 2 sites, and both are sent
-- to the same empty site, the second one last.
use Rattle.std.specs.Prelude.{ℕ, ◌≡◌, if◌then◌else◌, ◌==◌, List, [], ◌∷◌, false, None, codes, refl}
use Rattle.fab_arch.specs.declared.array.Site.{Site}
use Rattle.fab_arch.specs.Grid.{shape}
use Rattle.fab_net.specs.declared.netlist_types.BlockKind.TheVariants.{Logic}
use Rattle.fab_net.specs.Netlist.{Netlist, terminal}
use Rattle.fab_site.specs.Placement.{site}
use Rattle.fab_cost.specs.Cost.{box_on, clip, cost_of, cross_of, half_perimeter, net_box, net_cost}
use Rattle.fab_cost.specs.Swapping.{change}
use Rattle.fab_move.specs.Accept.{is_accepted}
use Rattle.fab_move.specs.Judge.{judged, problem}
use Rattle.fab_move.specs.Propose.{proposal, target}
use Rattle.fab_sched.specs.declared.schedules.Cooling.TheVariants.{Factor}
use Rattle.fab_sched.specs.Annealing.{plan_of, next_range}
use Rattle.fab_commit.specs.declared.model.events.Way.{Way}
use Rattle.fab_commit.specs.declared.model.events.Way.TheVariants.{Taken, Redone, Late}
use Rattle.fab_commit.specs.declared.model.events.Event.{Event}
use Rattle.fab_commit.specs.declared.model.events.Event.TheVariants.{Claim, Judge, Lose, Commit, Refresh}
use Rattle.fab_commit.specs.Serial.{Run, at_start}
use Rattle.fab_commit.specs.Model.World.{World, world, happens, run_through, ways}

abbrev two_alone : Netlist
two_alone = record {
  kinds = Logic ∷ Logic ∷ [];
  names = codes "b1" ∷ codes "b2" ∷ [];
  terminals = (terminal 0 0 ∷ []) ∷ (terminal 1 0 ∷ []) ∷ [];
  globals = false ∷ false ∷ [];
}

abbrev half : ℕ
half = 2147483648

abbrev words : ℕ → List ℕ
words k = (if k == 0 then 0 else half) ∷ half ∷ 0 ∷ 0 ∷ []

-- the first temperature is below the exit temperature, so only the frozen stage is run
abbrev pub two_moves : Run
two_moves = record {
  problem = problem two_alone (shape 2 2 1) (None ∷ None ∷ []) words;
  plan = plan_of 10000 20000 (Factor 500) 2;
}

abbrev pub before : World
before = world (at_start two_moves (site 1 1 0 ∷ site 2 2 0 ∷ []))

-- the ways of the moves that were committed, where the blocks are then, and how many moves were accepted
abbrev outcome : List Event → List Way × List Site × ℕ
outcome events = (
  ways two_moves before events,
  (run_through two_moves before events).live.sites,
  (run_through two_moves before events).live.total,
)

-- the second block takes the site, and the first one goes where the second was
abbrev both_made : List Way → List Way × List Site × ℕ
both_made told = (told, site 2 2 0 ∷ site 2 1 0 ∷ [], 2)

abbrev judged_together : List Event
judged_together = Claim 0 ∷ Claim 1 ∷ Judge 0 ∷ Judge 1 ∷ Commit ∷ Commit ∷ []

-- the first move fills the site that the second was judged on as empty
pub the_second_is_redone : outcome judged_together ≡ both_made (Taken ∷ Redone ∷ [])
unfolding judged proposal target change is_accepted cost_of net_cost net_box box_on half_perimeter cross_of clip next_range
the_second_is_redone = refl

pub each_on_a_fresh_placement : outcome (Claim 0 ∷ Judge 0 ∷ Commit ∷ Refresh ∷ Claim 0 ∷ Judge 0 ∷ Commit ∷ []) ≡ both_made (Taken ∷ Taken ∷ [])
unfolding judged proposal target change is_accepted cost_of net_cost net_box box_on half_perimeter cross_of clip next_range
each_on_a_fresh_placement = refl

pub a_lost_verdict : outcome (Claim 0 ∷ Judge 0 ∷ Lose 0 ∷ Commit ∷ Commit ∷ []) ≡ both_made (Late ∷ Late ∷ [])
unfolding judged proposal target change is_accepted cost_of net_cost net_box box_on half_perimeter cross_of clip next_range
a_lost_verdict = refl

-- a claim whose move is made already gives no verdict
pub a_verdict_that_comes_too_late : outcome (Claim 0 ∷ Claim 1 ∷ Commit ∷ Judge 0 ∷ Judge 1 ∷ Commit ∷ []) ≡ both_made (Late ∷ Redone ∷ [])
unfolding judged proposal target change is_accepted cost_of net_cost net_box box_on half_perimeter cross_of clip next_range
a_verdict_that_comes_too_late = refl

abbrev after : World
after = run_through two_moves before judged_together

pub no_move_is_left : happens two_moves after Commit ≡ after
unfolding judged proposal target change is_accepted cost_of net_cost net_box box_on half_perimeter cross_of clip next_range
no_move_is_left = refl

pub a_worker_without_a_claim : happens two_moves after (Judge 7) ≡ after
unfolding judged proposal target change is_accepted cost_of net_cost net_box box_on half_perimeter cross_of clip next_range
a_worker_without_a_claim = refl

pub the_older_placement_alone : happens two_moves after Refresh ≡ record after { older = after.live }
unfolding judged proposal target change is_accepted cost_of net_cost net_box box_on half_perimeter cross_of clip next_range
the_older_placement_alone = refl

-- nor after the last one
pub no_move_behind_the_last : ways two_moves after (Refresh ∷ Commit ∷ Claim 0 ∷ Commit ∷ []) ≡ []
unfolding judged proposal target change is_accepted cost_of net_cost net_box box_on half_perimeter cross_of clip next_range
no_move_behind_the_last = refl

-- of two verdicts the later one is lost
pub the_later_verdict_is_lost : outcome (Claim 0 ∷ Judge 0 ∷ Claim 0 ∷ Judge 0 ∷ Lose 0 ∷ Commit ∷ Commit ∷ []) ≡ both_made (Taken ∷ Late ∷ [])
unfolding judged proposal target change is_accepted cost_of net_cost net_box box_on half_perimeter cross_of clip next_range
the_later_verdict_is_lost = refl

-- the move of a lost claim is free for another worker
pub a_lost_claim : outcome (Claim 0 ∷ Lose 0 ∷ Claim 1 ∷ Judge 1 ∷ Commit ∷ Commit ∷ []) ≡ both_made (Taken ∷ Late ∷ [])
unfolding judged proposal target change is_accepted cost_of net_cost net_box box_on half_perimeter cross_of clip next_range
a_lost_claim = refl

-- a worker holds at most one claim
pub a_second_claim : outcome (Claim 0 ∷ Claim 0 ∷ Claim 1 ∷ Judge 1 ∷ Commit ∷ Commit ∷ []) ≡ both_made (Late ∷ Redone ∷ [])
unfolding judged proposal target change is_accepted cost_of net_cost net_box box_on half_perimeter cross_of clip next_range
a_second_claim = refl

-- one move a stage, a hot one and the frozen one
abbrev pub two_stages : Run
two_stages = record {
  problem = two_moves.problem;
  plan = plan_of 20000 20000 (Factor 500) 1;
}

abbrev pub stages_begin : World
stages_begin = world (at_start two_stages (site 1 1 0 ∷ site 2 2 0 ∷ []))

-- the next stage begins only on a fresh placement
pub a_stage_ends : ways two_stages stages_begin (Commit ∷ Commit ∷ Claim 0 ∷ Judge 0 ∷ Refresh ∷ Commit ∷ []) ≡ Late ∷ Late ∷ []
unfolding judged proposal target change is_accepted cost_of net_cost net_box box_on half_perimeter cross_of clip next_range
a_stage_ends = refl

-- the blocks are apart, and the second is sent to its own site
abbrev pub apart : Run
apart = record {
  problem = problem two_alone (shape 2 2 1) (None ∷ None ∷ []) (λ k. (if k == 0 then 0 else half) ∷ half ∷ (if k == 0 then 0 else half) ∷ 0 ∷ []);
  plan = two_moves.plan;
}

-- a verdict from before an accepted move is taken if the two do not meet
pub an_older_verdict_taken : ways apart (world (at_start apart (site 1 1 0 ∷ site 2 2 0 ∷ []))) judged_together ≡ Taken ∷ Taken ∷ []
unfolding judged proposal target change is_accepted cost_of net_cost net_box box_on half_perimeter cross_of clip next_range
an_older_verdict_taken = refl
