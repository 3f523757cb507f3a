-- A run from its first move to its last: what it reports about the moves, which are made one at a time (our own).
use Rattle.std.specs.Prelude.{ℕ, ◌≡◌, zero, suc, ◌+◌, ◌/◌, if◌then◌else◌, ◌==◌, List, [], ◌∷◌, ◌++◌, None, is_some}
use Rattle.fab_arch.specs.Grid.{GridShape}
use Rattle.fab_net.specs.Netlist.{Netlist}
use Rattle.fab_cost.specs.Cost.{cost_of}
use Rattle.fab_commit.specs.Serial.{Run, Standing, from, judged_here, moves_left, one_if, or_zero, step}
use Rattle.fab_run.specs.RunReport.{blocks_line, start_line, stage_line, final_line}

-- the wire cost at a standing of a run: one sum over all nets, from positions alone
abbrev pub cost_at : Run → Standing → ℕ
cost_at r x = cost_of r.problem.design r.problem.grid x.sites

-- the line of the running stage, if the next move is its last one
abbrev pub line_here : Run → Standing → List ℕ
line_here r x =
    if moves_left r x == 1 then
    stage_line (x.done / r.plan.moves) (or_zero x.heat) x.range r.plan.moves (x.accepted + one_if (judged_here r x x.done).accepted) (cost_at r (step r x))
    else []

-- the lines of the stages that end among the next n moves
abbrev pub stage_lines : Run → Standing → ℕ → List ℕ
stage_lines r x zero = []
stage_lines r x (suc n) = line_here r x ++ stage_lines r (step r x) n

-- the cost after the next move, if that is the last one of its stage
abbrev pub cost_here : Run → Standing → List ℕ
cost_here r x = if moves_left r x == 1 then cost_at r (step r x) ∷ [] else []

-- the costs at the ends of these stages
abbrev pub stage_costs : Run → Standing → ℕ → List ℕ
stage_costs r x zero = []
stage_costs r x (suc n) = cost_here r x ++ stage_costs r (step r x) n

-- after n moves no move is left
abbrev pub IsOver : Run → Standing → ℕ → Type 0
IsOver r x n = (from r x n).heat ≡ None

-- the first two lines
abbrev pub head_text : Netlist → GridShape → ℕ → List ℕ
head_text d g cost = blocks_line d g ++ start_line cost

-- the last line of a run that ends at this standing
abbrev pub last_line : Run → Standing → List ℕ
last_line r y = final_line (cost_at r y) y.total y.done

-- the last line if no move is left, nothing before
abbrev pub end_line : Run → Standing → List ℕ
end_line r y = if is_some y.heat then [] else last_line r y

-- the report of a run from its first standing, once n moves were made
abbrev pub run_report : Run → Standing → ℕ → List ℕ
run_report r x n = head_text r.problem.design r.problem.grid (cost_at r x) ++ (stage_lines r x n ++ end_line r (from r x n))

-- the cost at the start, and those at the ends of the stages
abbrev pub run_costs : Run → Standing → ℕ → List ℕ
run_costs r x n = cost_at r x ∷ stage_costs r x n
