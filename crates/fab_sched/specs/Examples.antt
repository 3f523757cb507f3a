-- Examples of temperatures, factors, ranges, and the number of moves of a stage.
use Rattle.std.specs.Prelude.{◌≡◌, Some, None, true, refl}
use Rattle.fab_sched.specs.declared.fault.SchedFault.TheVariants.{ExitOutOfRange, MovesOutOfRange}
use Rattle.fab_sched.specs.declared.schedules.Cooling.TheVariants.{Factor, Adaptive}
use Rattle.std.proofs.Common.{lit<, lit≤}
use Rattle.fab_sched.specs.Roots.{AreMoves}
use Rattle.fab_sched.specs.Annealing.{Plan, plan_of, fault_of, fresh, next_range, adaptive_factor, next_heat, heat_at, stage_after}

abbrev halving : Plan
halving = plan_of 100000 10000 (Factor 500) 3

pub the_first : heat_at halving 0 ≡ Some 100000
the_first = refl

pub half_of_it : heat_at halving 1 ≡ Some 50000
half_of_it = refl

pub a_quarter : heat_at halving 2 ≡ Some 25000
a_quarter = refl

pub an_eighth : heat_at halving 3 ≡ Some 12500
an_eighth = refl

pub then_frozen : heat_at halving 4 ≡ Some 0
then_frozen = refl

pub then_nothing : heat_at halving 5 ≡ None
then_nothing = refl

abbrev ten_moves : Plan
ten_moves = plan_of 100000 10000 (Factor 500) 10

pub none_accepted : next_range ten_moves 3 3000 0 ≡ 1680
unfolding next_range
none_accepted = refl

pub all_accepted : next_range ten_moves 3 3000 10 ≡ 3000
unfolding next_range
all_accepted = refl

pub never_below_one : next_range ten_moves 3 1680 0 ≡ 1000
unfolding next_range
never_below_one = refl

pub nearly_all : adaptive_factor 100 1000 97 ≡ 500
unfolding adaptive_factor
nearly_all = refl

pub not_quite : adaptive_factor 100 1000 96 ≡ 900
unfolding adaptive_factor
not_quite = refl

pub most : adaptive_factor 100 1000 81 ≡ 900
unfolding adaptive_factor
most = refl

pub a_good_share : adaptive_factor 100 1000 80 ≡ 950
unfolding adaptive_factor
a_good_share = refl

pub some : adaptive_factor 100 1000 16 ≡ 950
unfolding adaptive_factor
some = refl

pub few : adaptive_factor 100 1000 15 ≡ 800
unfolding adaptive_factor
few = refl

pub few_over_a_wide_range : adaptive_factor 100 1001 15 ≡ 950
unfolding adaptive_factor
few_over_a_wide_range = refl

pub by_acceptance : next_heat (plan_of 100000 10000 Adaptive 3) 1000 0 (Some 100000) ≡ Some 80000
unfolding adaptive_factor
by_acceptance = refl

pub sixteen_moves_for_eight_blocks : AreMoves 1 8 16
sixteen_moves_for_eight_blocks = record { inner = (lit≤ tt, lit≤ tt); root = record { low = lit≤ tt; high = lit< tt }; limit = lit≤ tt }

-- the cube root of 10 ^ 4 is 21.5
pub twenty_one_moves_for_ten_blocks : AreMoves 1 10 21
twenty_one_moves_for_ten_blocks = record { inner = (lit≤ tt, lit≤ tt); root = record { low = lit≤ tt; high = lit< tt }; limit = lit≤ tt }

pub one_move_for_no_block : AreMoves 10 0 1
one_move_for_no_block = record { inner = (lit≤ tt, lit≤ tt); root = record { low = lit≤ tt; high = lit< tt }; limit = lit≤ tt }

pub after_a_hot_stage : stage_after ten_moves 3 (fresh 3 12500 1000) 5 ≡ Some (fresh 4 0 1060)
unfolding next_range
after_a_hot_stage = refl

pub that_one_is_frozen : (fresh 4 0 1060).frozen ≡ true
that_one_is_frozen = refl

pub after_the_frozen_stage : stage_after ten_moves 3 (fresh 4 0 1060) 2 ≡ None
after_the_frozen_stage = refl

pub the_exit_temperature_comes_before_the_factor : fault_of (plan_of 1 0 (Factor 1000) 0) ≡ Some ExitOutOfRange
the_exit_temperature_comes_before_the_factor = refl

pub no_factor_to_be_wrong : fault_of (plan_of 1 1 Adaptive 0) ≡ Some MovesOutOfRange
no_factor_to_be_wrong = refl
