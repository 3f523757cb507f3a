-- Examples of a whole run and of pieces of it: two blocks without a common net on 2 x 2 sites, two moves at temperature 2.0, then two
-- frozen moves.
use Rattle.std.specs.Prelude.{ℕ, ◌≡◌, if◌then◌else◌, ◌==◌, List, [], ◌∷◌, false, Some, None, codes, refl}
use Rattle.std.specs.Fmt.{digits}
use Rattle.fab_arch.specs.Grid.{shape}
use Rattle.fab_net.specs.declared.netlist_types.BlockKind.TheVariants.{Logic}
use Rattle.fab_net.specs.Netlist.{Netlist, terminal}
use Rattle.fab_site.specs.Placement.{site}
use Rattle.fab_cost.specs.Cost.{box_on, clip, cost_of, cross_of, half_perimeter, net_box, net_cost}
use Rattle.fab_cost.specs.Swapping.{change}
use Rattle.fab_move.specs.Accept.{is_accepted}
use Rattle.fab_move.specs.Judge.{judged, problem}
use Rattle.fab_move.specs.Propose.{proposal, target}
use Rattle.fab_sched.specs.declared.schedules.Cooling.TheVariants.{Factor}
use Rattle.fab_sched.specs.Annealing.{plan_of, next_range}
use Rattle.fab_commit.specs.Serial.{Run, Standing, at_start, from}
use Rattle.fab_run.specs.Ends.{StopsAfter, piece_report}
use Rattle.fab_run.specs.Piece.{run_costs, run_report}

abbrev two_alone : Netlist
two_alone = record {
  kinds = Logic ∷ Logic ∷ [];
  names = codes "b1" ∷ codes "b2" ∷ [];
  terminals = (terminal 0 0 ∷ []) ∷ (terminal 1 0 ∷ []) ∷ [];
  globals = false ∷ false ∷ [];
}

abbrev half : ℕ
half = 2147483648

abbrev words : ℕ → List ℕ
words k = (if k == 0 then 0 else half) ∷ half ∷ 0 ∷ 0 ∷ []

abbrev four_moves : Run
four_moves = record {
  problem = problem two_alone (shape 2 2 1) (None ∷ None ∷ []) words;
  plan = plan_of 20000 20000 (Factor 500) 2;
}

abbrev before : Standing
before = at_start four_moves (site 1 1 0 ∷ site 2 2 0 ∷ [])

pub the_report_of_four_moves : run_report four_moves before 4
    ≡ codes "blocks 2 logic 2 pads 0 nets 2 array 2 x 2\nstart cost 4.0000\nstage 0 t 2.0000 range 2.000 moves 2 accepted 2 cost 4.0000\nfrozen range 2.000 moves 2 accepted 0 cost 4.0000\nfinal cost 4.0000 accepted 2 of 4\n"
unfolding digits is_accepted judged proposal target change cost_of net_cost net_box box_on half_perimeter cross_of clip next_range
the_report_of_four_moves = refl

pub the_costs_of_four_moves : run_costs four_moves before 4 ≡ 40000 ∷ 40000 ∷ 40000 ∷ []
unfolding is_accepted judged proposal target change cost_of net_cost net_box box_on half_perimeter cross_of clip next_range
the_costs_of_four_moves = refl

-- one move before the end, the frozen stage is not reported yet
pub the_report_of_three_moves : run_report four_moves before 3
    ≡ codes "blocks 2 logic 2 pads 0 nets 2 array 2 x 2\nstart cost 4.0000\nstage 0 t 2.0000 range 2.000 moves 2 accepted 2 cost 4.0000\n"
unfolding digits is_accepted judged proposal target change cost_of net_cost net_box box_on half_perimeter cross_of clip next_range
the_report_of_three_moves = refl

-- after two moves the run is at its stop, where a stage has just ended
pub stops_at_the_end_of_a_stage : StopsAfter four_moves before (Some 2) 2
unfolding is_accepted judged proposal target change cost_of net_cost net_box box_on half_perimeter cross_of clip next_range
stops_at_the_end_of_a_stage = record { here = refl; going = refl }

-- a piece from there with the same stop makes no move
pub stops_where_it_begins : StopsAfter four_moves (from four_moves before 2) (Some 2) 0
unfolding is_accepted judged proposal target change cost_of net_cost net_box box_on half_perimeter cross_of clip next_range
stops_where_it_begins = record { here = refl; going = refl }

-- the piece from there to the end reports the rest
pub the_report_of_the_last_two_moves : piece_report (record { run = four_moves; start = from four_moves before 2; head = []; stop = None }) 2
    ≡ codes "frozen range 2.000 moves 2 accepted 0 cost 4.0000\nfinal cost 4.0000 accepted 2 of 4\n"
unfolding piece_report digits is_accepted judged proposal target change cost_of net_cost net_box box_on half_perimeter cross_of clip next_range
the_report_of_the_last_two_moves = refl

-- and its costs begin with the cost there
pub the_costs_of_the_last_two_moves : run_costs four_moves (from four_moves before 2) 2 ≡ 40000 ∷ 40000 ∷ []
unfolding is_accepted judged proposal target change cost_of net_cost net_box box_on half_perimeter cross_of clip next_range
the_costs_of_the_last_two_moves = refl
