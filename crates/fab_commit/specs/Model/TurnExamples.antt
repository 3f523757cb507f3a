-- Examples of turns, on the runs of the examples of worlds.
use Rattle.std.specs.Prelude.{◌≡◌, [], ◌∷◌, refl}
use Rattle.fab_site.specs.Placement.{site}
use Rattle.fab_cost.specs.Cost.{box_on, clip, cost_of, cross_of, half_perimeter, net_box, net_cost}
use Rattle.fab_cost.specs.Swapping.{change}
use Rattle.fab_move.specs.Accept.{is_accepted}
use Rattle.fab_move.specs.Judge.{judged}
use Rattle.fab_move.specs.Propose.{proposal, target}
use Rattle.fab_sched.specs.Annealing.{next_range}
use Rattle.fab_commit.specs.declared.model.events.Way.TheVariants.{Taken, Redone}
use Rattle.fab_commit.specs.declared.model.events.Event.TheVariants.{Claim, Judge, Commit, Refresh}
use Rattle.fab_commit.specs.Serial.{at_start}
use Rattle.fab_commit.specs.Model.World.{world}
use Rattle.fab_commit.specs.Model.WorldExamples.{apart, before, stages_begin, two_moves, two_stages}
use Rattle.fab_commit.specs.Model.TurnEvents.{base_behind, cut_turn, next_turn, no_turn, turn, turn_events, turn_making, world_behind}
use Rattle.fab_commit.specs.Laws.Runs.{ways_of_turns}
use Rattle.fab_commit.specs.Model.Turns.{redone, redone_in_run}

-- the second move is judged ahead on the placement that the first one changes
pub a_move_a_turn : ways_of_turns two_moves before (1 ∷ 1 ∷ 1 ∷ []) ≡ Taken ∷ Redone ∷ []
unfolding judged proposal target change is_accepted cost_of net_cost net_box box_on half_perimeter cross_of clip next_range
a_move_a_turn = refl

pub two_moves_a_turn : ways_of_turns two_moves before (4096 ∷ []) ≡ Taken ∷ Redone ∷ []
unfolding judged proposal target change is_accepted cost_of net_cost net_box box_on half_perimeter cross_of clip next_range
two_moves_a_turn = refl

-- the moves do not meet
pub moves_apart : ways_of_turns apart (world (at_start apart (site 1 1 0 ∷ site 2 2 0 ∷ []))) (1 ∷ 1 ∷ []) ≡ Taken ∷ Taken ∷ []
unfolding judged proposal target change is_accepted cost_of net_cost net_box box_on half_perimeter cross_of clip next_range
moves_apart = refl

-- a turn ends with its stage, and judges nothing of the next one
pub a_move_a_stage : turn_events two_stages 4096 stages_begin ≡ Claim 0 ∷ Judge 0 ∷ Commit ∷ Refresh ∷ []
a_move_a_stage = refl

pub one_is_redone : redone two_moves (no_turn before.live) (1 ∷ 1 ∷ []) ≡ 1
unfolding judged proposal target change is_accepted cost_of net_cost net_box box_on half_perimeter cross_of clip next_range
one_is_redone = refl

-- the same by the run's cuts, in turns of one move and of two
pub one_is_redone_in_a_run : redone_in_run two_moves before.live 1 2 ≡ 1
unfolding judged proposal target change is_accepted cost_of net_cost net_box box_on half_perimeter cross_of clip next_range
one_is_redone_in_a_run = refl

pub one_is_redone_in_one_turn : redone_in_run two_moves before.live 2 2 ≡ 1
unfolding judged proposal target change is_accepted cost_of net_cost net_box box_on half_perimeter cross_of clip next_range
one_is_redone_in_one_turn = refl

-- a turn of the first move leads to the world after it: the second move is judged, on the placement before the first one
pub a_turn_leads_behind_it : turn two_moves 1 before ≡ world_behind two_moves (next_turn two_moves 1 (no_turn before.live))
unfolding judged proposal target change is_accepted cost_of net_cost net_box box_on half_perimeter cross_of clip next_range
a_turn_leads_behind_it = refl

pub the_base_of_a_move_ahead : base_behind two_moves (next_turn two_moves 1 (no_turn before.live)) 1 ≡ 0
unfolding judged proposal target change is_accepted cost_of net_cost net_box box_on half_perimeter cross_of clip next_range
the_base_of_a_move_ahead = refl

-- a turn that is cut short after the first move has judged nothing ahead, so the next turn judges where this turn led
pub a_cut_turn : (turn_making two_moves 1 0 before).verdicts ≡ []
unfolding judged proposal target change is_accepted cost_of net_cost net_box box_on half_perimeter cross_of clip next_range
a_cut_turn = refl

pub the_base_behind_a_cut : base_behind two_moves (cut_turn two_moves 1 (no_turn before.live)) 1 ≡ 1
unfolding judged proposal target change is_accepted cost_of net_cost net_box box_on half_perimeter cross_of clip next_range
the_base_behind_a_cut = refl
